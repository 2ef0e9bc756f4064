use Rattle.std.proofs.Common.{refl, sym, ap, ◌∙◌}
use Rattle.tl_tree.specs.Arena.{items_of}
use Rattle.lua_value.specs.declared.value.Value.{Value}
use Rattle.lua_value.specs.declared.value.Value.TheVariants as values
use Rattle.lua_table.specs.Cells.{first_value}
use Rattle.lua_model.specs.Plans.{LuaPlan, on_one}
use Rattle.lua_eval.specs.Frames.{with_one}
use Rattle.lua_eval.proofs.Below.{moved}
use Rattle.lua_eval.proofs.Ending.{no_value_ended}
use Rattle.tl_base.proofs.Results.{if-ok}
use Rattle.lua_eval.proofs.machine.after_one.Goals as goal

pub returns-in-One-clause-means : goal.returns-in-One-clause-means
returns-in-One-clause-means c = rw c.in-One.is c.with_one.ensures.means

pub returns-in-Many-clause-means : goal.returns-in-Many-clause-means
returns-in-Many-clause-means c =
    let a = c.args in
    let items = items_of a.tree.now in
    let s = a.heap.now in
    let next = c.with_one-in-Many in
    let plan : Value → LuaPlan = λ v. with_one items a.frame v in
    let v = c.split_values-value.result.0 in
    rw c.in-Many.is (if-ok next.result next.ensures.means (λ step it.
    moved items a.frames.now.items next.new.frames.items (plan (first_value c.in-Many.values)) (plan v)
    s s next.new.heap a.budget.now next.new.budget step
    (ap plan (sym (c.split_values-value.ensures.first ∙ ap first_value c.as_slice.ensures))) refl it))

pub returns-in_default-clause-means : goal.returns-in_default-clause-means
returns-in_default-clause-means c =
    let a = c.args in
    let items = items_of a.tree.now in
    let s = a.heap.now in
    let next = c.with_one-in_default in
    let d = c.in_default in
    let plan : Value → LuaPlan = λ v. with_one items a.frame v in
    if-ok next.result next.ensures.means (λ step it.
    moved items a.frames.now.items next.new.frames.items (on_one a.end plan) (plan values.Nil)
    s s next.new.heap a.budget.now next.new.budget step (no_value_ended a.end plan d.not-One d.not-Many d.not-Raised) refl it)
