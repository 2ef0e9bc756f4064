use Rattle.std.proofs.Common.{sym, ap, refl, ◌∙◌, List, ℕ}
use Rattle.tl_tree.specs.Arena.{items_of}
use Rattle.lua_model.specs.Plans.{with_text_of}
use Rattle.lua_model.specs.Assignments.{held}
use Rattle.tl_tree.specs.Code.{name_at}
use Rattle.lua_eval.proofs.Below.{moved, text_goes}
use Rattle.lua_eval.proofs.assignments.held_under.Goals as goal

pub returns-clause-means : goal.returns-clause-means
returns-clause-means c = λ left fs.
    let a = c.args in
    let items = items_of a.tree.now in
    let bytes = c.as_bytes.result.now in
    moved items fs fs (with_text_of (name_at items a.node) (λ key. held a.object key)) (with_text_of bytes (λ key. held a.object key))
    a.heap.now a.heap.now c.text_value.new.heap left left c.in_ok-step.step
    (ap (λ (bs : List ℕ). with_text_of bs (λ key. held a.object key)) (sym (c.as_bytes.ensures.value ∙ c.name-text.ensures))) refl
    (text_goes items fs fs bytes (λ key. held a.object key) a.heap.now c.text_value.new.heap c.text_value.new.heap left left
    c.in_ok-step.step c.in_ok-key.key c.in_ok-key.ensures.value c.in_ok-key.ensures.heap
    (c.in_ok-step.ensures.means items c.text_value.new.heap left fs))
