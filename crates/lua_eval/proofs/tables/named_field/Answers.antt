use Rattle.std.proofs.Common.{ℕ, List, refl, sym, ap, ◌∙◌}
use Rattle.tl_tree.specs.Arena.{items_of}
use Rattle.tl_tree.specs.Code.{name_at}
use Rattle.lua_value.specs.declared.value.Value.{Value}
use Rattle.lua_table.proofs.Keeping.{keeps_then}
use Rattle.lua_model.specs.Plans.{LuaPlan, with_text_of}
use Rattle.lua_model.specs.Fields.{store_raw}
use Rattle.lua_eval.specs.Frames.{fields_from}
use Rattle.lua_eval.proofs.Below.{moved, text_goes}
use Rattle.tl_base.proofs.Results.{if-ok, on-ok}
use Rattle.lua_eval.proofs.tables.named_field.Goals as goal

pub returns-clause-means : goal.returns-clause-means
returns-clause-means c =
    let a = c.args in
    let items = items_of a.tree.now in
    let f = a.frame in
    let fs = a.frames.now.items in
    let fs2 = c.store_field.new.frames.items in
    let t = c.text_value.new.heap in
    let s2 = c.store_field.new.heap in
    let left2 = c.store_field.new.budget in
    let bytes = c.as_bytes.result.now in
    let go : Value → LuaPlan = λ key. store_raw f.table key a.value f.place (fields_from items f f.next) in
    if-ok c.store_field.result c.store_field.ensures.means (λ step it.
    moved items fs fs2 (with_text_of (name_at items a.node) go) (with_text_of bytes go) a.heap.now a.heap.now s2 a.budget.now left2 step
    (ap (λ (bs : List ℕ). with_text_of bs go) (sym (c.as_bytes.ensures.value ∙ c.name.ensures))) refl
    (text_goes items fs fs2 bytes go a.heap.now t s2 a.budget.now left2 step c.in_ok-key.key c.in_ok-key.ensures.value c.in_ok-key.ensures.heap
    it))

pub returns-clause-kept : goal.returns-clause-kept
returns-clause-kept c =
    on-ok c.store_field.result c.store_field.ensures.kept (λ more.
    keeps_then c.args.heap.now c.text_value.new.heap c.store_field.new.heap c.in_ok-key.ensures.kept more)
