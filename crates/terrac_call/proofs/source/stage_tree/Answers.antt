use Rattle.std.proofs.Common.{◌≡◌, ◌⊎◌, inl, inr, ap}
use Rattle.std.proofs.lemmas.Result.{IfOk-weaker}
use Rattle.tl_tree.specs.Arena.{items_of, end_of}
use Rattle.stage_model.specs.declared.staging.Mode.TheVariants.{Exports}
use Rattle.terrac_call.specs.declared.words.Asking.{Asking}
use Rattle.terrac_call.specs.declared.words.Limits.{Limits}
use Rattle.terrac_call.specs.declared.words.Task.{Task}
use Rattle.terrac_call.specs.declared.words.Task.TheVariants as tasks
use Rattle.terrac_call.specs.DueView.{due_of_work}
use Rattle.terrac_call.specs.JobView.{shown_limits, shown_task}
use Rattle.terrac_call.specs.Staged.{mode_of}
use Rattle.terrac_call.proofs.Sources.{checks_owed, emitted_owed, lawful_made, terms_owed}
use Rattle.terrac_call.proofs.source.stage_tree.Goals as goal

pub returns-in_ok-written-in-Check : goal.returns-in_ok-written-in-Check
returns-in_ok-written-in-Check c =
    IfOk-weaker c.written_work.result _ _
    (λ work is. checks_owed (shown_task c.args.task.now) (items_of c.args.tree.now) (end_of c.args.tree.now) c.limits_of-limits.result.budget
    c.limits_of-limits.result.memory c.places_fit.ensures c.limits_of-limits.ensures.budget c.limits_of-limits.ensures.memory
    (shown_limits c.in-Check.field-0) c.in_ok-written-in-Check.written (due_of_work work) (ap shown_task c.in-Check.is)
    c.in_ok-written-in-Check.ensures is)
    c.written_work.ensures

pub returns-in_ok-written-in-Terms : goal.returns-in_ok-written-in-Terms
returns-in_ok-written-in-Terms c =
    IfOk-weaker c.written_work-in-Terms.result _ _
    (λ work is. terms_owed (shown_task c.args.task.now) (items_of c.args.tree.now) (end_of c.args.tree.now) c.limits_of-limits.result.budget
    c.limits_of-limits.result.memory c.places_fit.ensures c.limits_of-limits.ensures.budget c.limits_of-limits.ensures.memory
    (shown_limits c.in-Terms.field-0) c.in_ok-written-in-Terms.written (due_of_work work) (ap shown_task c.in-Terms.is)
    c.in_ok-written-in-Terms.ensures is)
    c.written_work-in-Terms.ensures

pub emitted_work-requires-clause-made : goal.emitted_work-requires-clause-made
emitted_work-requires-clause-made c =
    let are = c.in_ok-emitted-in-Emit.ensures in
    lawful_made are.ending.left.world.typing.stage c.limits_of-limits.result.memory are.ending.end c.in_ok-emitted-in-Emit.emitted.end are.end

-- a task that compiles stages for exports
exports-of : (task : Task) → ((x : Limits) × (task ≡ tasks.Emit x)) ⊎ ((x : Asking) × (task ≡ tasks.Run x)) → mode_of (shown_task task) ≡ Exports
exports-of task (inl (x, is)) = ap (λ (t : Task). mode_of (shown_task t)) is
exports-of task (inr (x, is)) = ap (λ (t : Task). mode_of (shown_task t)) is

pub returns-in_ok-emitted-in-Emit : goal.returns-in_ok-emitted-in-Emit
returns-in_ok-emitted-in-Emit c =
    emitted_owed (shown_task c.args.task.now) (items_of c.args.tree.now) (end_of c.args.tree.now) c.limits_of-limits.result.budget
    c.limits_of-limits.result.memory c.places_fit.ensures c.limits_of-limits.ensures.budget c.limits_of-limits.ensures.memory
    c.in_ok-emitted-in-Emit.emitted (due_of_work c.emitted_work.result) (exports-of c.args.task.now c.in-Emit.is) c.in_ok-emitted-in-Emit.ensures
    c.emitted_work.ensures
