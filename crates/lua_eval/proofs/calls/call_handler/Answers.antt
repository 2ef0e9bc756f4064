use Rattle.std.proofs.Common.{refl}
use Rattle.tl_base.specs.Plan.{Give}
use Rattle.lua_value.specs.declared.kind.Kind.TheVariants.{Table}
use Rattle.lua_ops.specs.declared.fault.Fault.TheVariants.{Call}
use Rattle.lua_model.specs.Plans.{LuaPlan, raise}
use Rattle.lua_model.specs.Calls.{call_handler}
use Rattle.lua_eval.proofs.Below.{moved}
use Rattle.lua_eval.proofs.Invoking.{not_handled}
use Rattle.lua_eval.proofs.calls.call_handler.Goals as goal

pub returns-in_ok-step-in-Library-clause-means : goal.returns-in_ok-step-in-Library-clause-means
returns-in_ok-step-in-Library-clause-means c = λ items. rw c.in-Library.is (c.in_ok-step-in-Library.ensures.means items)

pub returns-in_ok-step-in_default-clause-means : goal.returns-in_ok-step-in_default-clause-means
returns-in_ok-step-in_default-clause-means c = λ items.
    let a = c.args in
    let fs = a.frames.now.items in
    let refused : LuaPlan = raise a.place (Call Table) in
    moved items fs fs (call_handler a.handler a.args a.place a.outer Give refused) refused
    a.heap.now a.heap.now c.raise.new.heap a.budget.now c.raise.new.budget c.in_ok-step-in_default.step
    (not_handled a.handler a.args a.place a.outer Give refused c.in_default.not-Closure c.in_default.not-Library) refl
    (c.in_ok-step-in_default.ensures.means items fs)
