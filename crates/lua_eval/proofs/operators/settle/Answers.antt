use Rattle.std.proofs.Common.{List, refl, sym, ap}
use Rattle.tl_tree.specs.Arena.{items_of}
use Rattle.lua_value.specs.declared.value.Value.{Value}
use Rattle.lua_model.specs.declared.job.Caller.TheVariants.{ByOther}
use Rattle.lua_model.specs.Plans.{LuaPlan, give, on_one}
use Rattle.lua_model.specs.Calls.{call}
use Rattle.lua_model.specs.Operators.{operands_of}
use Rattle.lua_eval.specs.Operands.{operands_in}
use Rattle.lua_eval.proofs.Below.{moved}
use Rattle.lua_eval.proofs.operators.settle.Goals as goal

pub returns-in_ok-step-in-Raise-clause-means : goal.returns-in_ok-step-in-Raise-clause-means
returns-in_ok-step-in-Raise-clause-means c =
    rw c.in-Raise.is (c.in_ok-step-in-Raise.ensures.means (items_of c.args.tree.now) c.args.frames.now.items)

pub returns-in_ok-called-in-Meta-clause-means : goal.returns-in_ok-called-in-Meta-clause-means
returns-in_ok-called-in-Meta-clause-means c =
    let a = c.args in
    let m = c.in-Meta in
    let items = items_of a.tree.now in
    let plan : List Value → LuaPlan = λ vs. call items ByOther m.handler.function vs a.place a.outer (λ r. on_one r give) in
    rw m.is (moved items a.frames.now.items c.handle.new.frames.items (plan (operands_of m.handler (operands_in a.a a.b)))
    (plan c.in_ok-args-in-Meta.args) a.heap.now a.heap.now c.handle.new.heap a.budget.now c.handle.new.budget
    c.in_ok-called-in-Meta.called (ap plan (sym c.in_ok-args-in-Meta.ensures)) refl c.in_ok-called-in-Meta.ensures.means)
