use Rattle.std.proofs.Common.{ap}
use Rattle.std.proofs.lemmas.Result.{IfOk-weaker}
use Rattle.terrac_call.specs.DueView.{due_of_rest, shown_due}
use Rattle.terrac_call.specs.JobView.{shown_asking, shown_limits, shown_task}
use Rattle.terrac_call.proofs.Sources.{call_rest, file_rest}
use Rattle.terrac_call.proofs.source.image_rest.Goals as goal

pub returns-in_ok-due-in-Emit : goal.returns-in_ok-due-in-Emit
returns-in_ok-due-in-Emit c = λ it count compiled.
    file_rest (shown_task c.args.task.now) (shown_limits c.in-Emit.field-0) it c.args.image.now (shown_due c.in_ok-due-in-Emit.due)
    (ap shown_task c.in-Emit.is) c.in_ok-due-in-Emit.ensures compiled

pub returns-in-Run : goal.returns-in-Run
returns-in-Run c =
    IfOk-weaker c.call_exported.result _ _
    (λ rest is. λ it count compiled.
    call_rest (shown_task c.args.task.now) (shown_asking c.in-Run.asking) it c.args.functions c.args.image.now (due_of_rest rest)
    (ap shown_task c.in-Run.is) count is compiled)
    c.call_exported.ensures
