use Rattle.std.proofs.Common.{List, [], ◌∷◌, refl, sym, ap, ◌∙◌}
use Rattle.tl_tree.specs.Arena.{items_of}
use Rattle.lua_value.specs.declared.value.Value.{Value}
use Rattle.lua_model.specs.Plans.{LuaPlan, on_all}
use Rattle.lua_eval.specs.Frames.{with_all}
use Rattle.lua_eval.proofs.Below.{moved}
use Rattle.lua_eval.proofs.Ending.{no_values_ended}
use Rattle.tl_base.proofs.Results.{if-ok}
use Rattle.lua_eval.proofs.machine.after_all.Goals as goal

pub returns-in_ok-values-in-One-clause-means : goal.returns-in_ok-values-in-One-clause-means
returns-in_ok-values-in-One-clause-means c =
    let a = c.args in
    let items = items_of a.tree.now in
    let s = a.heap.now in
    let next = c.with_all in
    let plan : List Value → LuaPlan = λ vs. with_all items a.frame vs in
    rw c.in-One.is (if-ok next.result next.ensures.means (λ step it.
    moved items a.frames.now.items next.new.frames.items (plan (c.in-One.value ∷ [])) (plan c.in_ok-values-in-One.values)
    s s next.new.heap a.budget.now next.new.budget step (ap plan (sym c.in_ok-values-in-One.ensures)) refl it))

pub returns-in-Many-clause-means : goal.returns-in-Many-clause-means
returns-in-Many-clause-means c = rw c.in-Many.is c.with_all-in-Many.ensures.means

pub returns-in_default-clause-means : goal.returns-in_default-clause-means
returns-in_default-clause-means c =
    let a = c.args in
    let items = items_of a.tree.now in
    let s = a.heap.now in
    let next = c.with_all-in_default in
    let d = c.in_default in
    let plan : List Value → LuaPlan = λ vs. with_all items a.frame vs in
    if-ok next.result next.ensures.means (λ step it.
    moved items a.frames.now.items next.new.frames.items (on_all a.end plan) (plan c.new-none.result)
    s s next.new.heap a.budget.now next.new.budget step
    (no_values_ended a.end plan d.not-One d.not-Many d.not-Raised ∙ ap plan (sym c.new-none.ensures)) refl it)
