use Rattle.std.proofs.Common.{sym, ◌∙◌}
use Rattle.lua_eval.proofs.Invoking.{library_refused}
use Rattle.lua_eval.proofs.calls.call_library.Goals as goal

pub returns-in_ok-step-clause-means : goal.returns-in_ok-step-clause-means
returns-in_ok-step-clause-means c = λ items.
    library_refused items c.args.frames.now.items c.args.heap.now c.raise.new.heap c.args.budget.now c.raise.new.budget
    c.in_ok-step.step c.args.call.function c.args.call.args c.args.call.place c.args.call.outer
    (sym c.may_call.ensures.same ∙ c.if-may_call.false) (c.in_ok-step.ensures.means items)
