use Rattle.std.proofs.Common.{sym, ap, refl, ◌∙◌, List, ℕ, Option}
use Rattle.lua_model.specs.Plans.{LuaPlan, fell, with_text_of}
use Rattle.lua_eval.proofs.Below.{moved}
use Rattle.lua_eval.specs.Stores.{store_by_path}
use Rattle.lua_model.specs.Fields.{globals, store}
use Rattle.lua_value.specs.declared.value.Value.TheVariants as values
use Rattle.lua_eval.proofs.assignments.store_by_path.Goals as goal

pub returns-in_ok-step-in-None-clause-means : goal.returns-in_ok-step-in-None-clause-means
returns-in_ok-step-in-None-clause-means c = λ items.
    let a = c.args in
    let bytes = c.as_bytes.result.now in
    let put : List ℕ → LuaPlan = λ bs. with_text_of bs (λ key. store (values.Table globals) key a.value a.place a.scope.call fell) in
    moved items a.frames.now.items c.store_named.new.frames.items (store_by_path a.path a.text.now a.place a.scope a.value fell)
    (put bytes) a.heap.now a.heap.now c.store_named.new.heap a.budget.now c.store_named.new.budget c.in_ok-step-in-None.step
    (ap (λ (p : Option (ℕ × ℕ)). store_by_path p a.text.now a.place a.scope a.value fell) c.in-None.is
    ∙ ap put (sym c.as_bytes.ensures.value)) refl (c.in_ok-step-in-None.ensures.means items)
