use Rattle.std.proofs.Common.{sym, subst}
use Rattle.std.proofs.lemmas.Result.{IfOk-weaker}
use Rattle.stage_image.specs.declared.emitting.Made.{Made}
use Rattle.stage_image.specs.Emitted.{IsMade}
use Rattle.terrac_call.specs.Due.{Due}
use Rattle.terrac_call.specs.DueView.{due_of_rest}
use Rattle.terrac_call.specs.JobView.{shown_task}
use Rattle.terrac_call.specs.MadeView.{IsLawfulMade}
use Rattle.terrac_call.specs.Staged.{IsRestDue, bytes_of, limits_of}
use Rattle.terrac_call.proofs.Sources.{image_end, raised_end, spent_end}
use Rattle.terrac_call.proofs.source.made.Goals as goal

pub image_rest-requires-clause-lawful : goal.image_rest-requires-clause-lawful
image_rest-requires-clause-lawful c = subst IsLawfulMade c.in-Image.is c.requires.made

pub returns-in-Image : goal.returns-in-Image
returns-in-Image c =
    let task = shown_task c.args.task.now in
    let memory = bytes_of (limits_of task).memory in
    IfOk-weaker c.image_rest.result _ _
    (λ rest h. λ it count made. image_end task it memory it.end c.in-Image.image (due_of_rest rest)
    (subst (λ (m : Made). IsMade it.left.world.typing.stage memory it.end m) c.in-Image.is made) (λ compiled. h it count compiled))
    c.image_rest.ensures

pub returns-in_ok-due-in-Raised : goal.returns-in_ok-due-in-Raised
returns-in_ok-due-in-Raised c = λ it count made.
    let task = shown_task c.args.task.now in
    let memory = bytes_of (limits_of task).memory in
    subst (λ (due : Due). IsRestDue task it due) (sym c.in_ok-due-in-Raised.ensures)
    (raised_end task it memory it.end c.in-Raised.text c.in-Raised.place
    (subst (λ (m : Made). IsMade it.left.world.typing.stage memory it.end m) c.in-Raised.is made))

pub returns-in-Spent : goal.returns-in-Spent
returns-in-Spent c = λ it count made.
    let task = shown_task c.args.task.now in
    let memory = bytes_of (limits_of task).memory in
    subst (λ (due : Due). IsRestDue task it due) (sym c.spent_due.ensures)
    (spent_end task it memory it.end (subst (λ (m : Made). IsMade it.left.world.typing.stage memory it.end m) c.in-Spent.is made))
