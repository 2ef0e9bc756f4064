use Rattle.std.proofs.Common.{◌≤◌, ◌+◌, List, Some, refl, sym, ap, ◌∙◌, arith}
use Rattle.tl_base.specs.declared.ids.TermId.{TermId}
use Rattle.terra_term.specs.declared.typed.TypedStatement.TheVariants as ts
use Rattle.check_model.specs.declared.job.BodyJob.TheVariants as jobs
use Rattle.check_model.specs.Plans.{BodyPlan, states}
use Rattle.check_model.specs.Statements as models
use Rattle.check_model.specs.Typing.{cut_to}
use Rattle.check_expr.specs.declared.frame.BodyFrame.TheVariants as frames
use Rattle.check_expr.specs.declared.frame.DoingFrame.TheVariants as of_doing
use Rattle.check_expr.specs.declared.frame.MadeFrame.TheVariants as of_made
use Rattle.check_expr.proofs.Declaring.{cut_twice}
use Rattle.check_expr.proofs.Doing.{moved, enters}
use Rattle.check_expr.proofs.Keeping.{kept_from}
use Rattle.tl_base.proofs.Results.{carried, on-ok}
use Rattle.check_expr.proofs.blocks.with_statements.Goals as goal

pub returns-in_ok-list-in-Do-clause-means : goal.returns-in_ok-list-in-Do-clause-means
returns-in_ok-list-in-Do-clause-means c = carried _ _ c.states.result c.states.ensures.means (λ step g left.
    let a = c.args in
    let m = c.in-Do in
    let fs = a.frames.now.items in
    let plan : List TermId → BodyPlan = λ ids. states m.at (ts.Do ids) a.found in
    rw m.is (moved fs fs (plan a.ids) (plan c.in_ok-list-in-Do.list) (cut_to a.typing.now m.count) c.leave.new.self
    c.states.new.typing left left
    step (ap plan (sym c.in_ok-list-in-Do.ensures)) (sym c.leave.ensures)
    (g left fs)))

pub returns-in-Then-clause-means : goal.returns-in-Then-clause-means
returns-in-Then-clause-means c = carried _ _ c.with_else.result c.with_else.ensures.means (λ step g left.
    let a = c.args in
    let m = c.in-Then in
    let plan = models.else_plan m.more m.test a.ids a.found m.at m.site in
    rw m.is (moved a.frames.now.items c.with_else.new.frames.items plan plan (cut_to a.typing.now m.count)
    c.leave-in-Then.new.self
    c.with_else.new.typing left left step refl (sym c.leave-in-Then.ensures)
    (g left)))

pub returns-in_ok-others-in-Else-clause-means : goal.returns-in_ok-others-in-Else-clause-means
returns-in_ok-others-in-Else-clause-means c = carried _ _ c.states-in-Else.result c.states-in-Else.ensures.means (λ step g left.
    let a = c.args in
    let m = c.in-Else in
    let fs = a.frames.now.items in
    let first = c.in_ok-first-in-Else in
    let others = c.in_ok-others-in-Else in
    let plan : List TermId → List TermId → BodyPlan = λ before ids. states m.at (ts.If m.test.id before (Some ids))
    a.found in
    rw m.is (moved fs fs (plan m.before a.ids) (plan first.first others.others) (cut_to a.typing.now m.count)
    c.leave-in-Else.new.self
    c.states-in-Else.new.typing left left step
    (ap (λ (before : List TermId). plan before a.ids) (sym first.ensures) ∙ ap (plan first.first)
    (sym others.ensures))
    (sym c.leave-in-Else.ensures) (g left fs)))

pub returns-in_ok-list-in-While-clause-means : goal.returns-in_ok-list-in-While-clause-means
returns-in_ok-list-in-While-clause-means c = carried _ _ c.states-in-While.result c.states-in-While.ensures.means (λ step g left.
    let a = c.args in
    let m = c.in-While in
    let fs = a.frames.now.items in
    let plan : List TermId → BodyPlan = λ ids. states m.at (ts.While m.test.id ids) a.found in
    rw m.is (moved fs fs (plan a.ids) (plan c.in_ok-list-in-While.list) (cut_to a.typing.now m.count)
    c.leave-in-While.new.self
    c.states-in-While.new.typing left left step (ap plan (sym c.in_ok-list-in-While.ensures))
    (sym c.leave-in-While.ensures) (g left fs)))

pub returns-in_ok-push-in-Repeat-clause-means : goal.returns-in_ok-push-in-Repeat-clause-means
returns-in_ok-push-in-Repeat-clause-means c = λ left.
    let a = c.args in
    let m = c.in-Repeat in
    rw m.is (enters a.frames.now.items c.push.new.self.items (frames.Doing
    (of_doing.Repeat m.count a.ids a.found m.at m.site))
    (jobs.Expression m.test m.site) a.typing.now left c.in_ok-push-in-Repeat.ensures.items)

-- the variable of the loop goes with the block's own
pub returns-in_ok-list-in-For-clause-means : goal.returns-in_ok-list-in-For-clause-means
returns-in_ok-list-in-For-clause-means c = carried _ _ c.states-in-For.result c.states-in-For.ensures.means (λ step g left.
    let a = c.args in
    let m = c.in-For in
    let fs = a.frames.now.items in
    let w = a.typing.now in
    let limits = c.in_ok-limits-in-For in
    let list = c.in_ok-list-in-For in
    let plan : List TermId → List TermId → BodyPlan = λ bounds ids. states m.at (ts.For m.name bounds ids) a.found
    in
    let within : m.count ≤ m.count + 1 = omega arith in
    rw m.is (moved fs fs (plan m.bounds a.ids) (plan limits.limits list.list) (cut_to (cut_to w (m.count + 1)) m.count)
    c.leave-in-For.new.self
    c.states-in-For.new.typing left left step
    (ap (λ (bounds : List TermId). plan bounds a.ids) (sym limits.ensures) ∙ ap (plan limits.limits)
    (sym list.ensures))
    (cut_twice w m.count (m.count + 1) within ∙ sym c.leave-in-For.ensures)
    (g left fs)))

pub returns-in_ok-push-in-Let-clause-means : goal.returns-in_ok-push-in-Let-clause-means
returns-in_ok-push-in-Let-clause-means c = λ left.
    let a = c.args in
    let m = c.in-Let in
    rw m.is (enters a.frames.now.items c.push-in-Let.new.self.items (frames.Made (of_made.Let m.count a.ids m.node))
    (jobs.Expression m.value m.node.site) a.typing.now left c.in_ok-push-in-Let.ensures.items)

pub returns-in-Function-clause-means : goal.returns-in-Function-clause-means
returns-in-Function-clause-means c = carried _ _ c.function.result c.function.ensures.means (λ step g left.
    rw c.in-Function.is (g left c.args.frames.now.items))

pub returns-in_ok-list-in-Do-clause-kept : goal.returns-in_ok-list-in-Do-clause-kept
returns-in_ok-list-in-Do-clause-kept c = on-ok c.states.result c.states.ensures.kept (λ g.
    kept_from (cut_to c.args.typing.now c.in-Do.count) c.leave.new.self c.states.new.typing c.leave.ensures
    g)

pub returns-in-Then-clause-kept : goal.returns-in-Then-clause-kept
returns-in-Then-clause-kept c = on-ok c.with_else.result c.with_else.ensures.kept (λ g.
    kept_from (cut_to c.args.typing.now c.in-Then.count) c.leave-in-Then.new.self c.with_else.new.typing
    c.leave-in-Then.ensures g)

pub returns-in_ok-others-in-Else-clause-kept : goal.returns-in_ok-others-in-Else-clause-kept
returns-in_ok-others-in-Else-clause-kept c = on-ok c.states-in-Else.result c.states-in-Else.ensures.kept (λ g.
    kept_from (cut_to c.args.typing.now c.in-Else.count) c.leave-in-Else.new.self c.states-in-Else.new.typing
    c.leave-in-Else.ensures g)

pub returns-in_ok-list-in-While-clause-kept : goal.returns-in_ok-list-in-While-clause-kept
returns-in_ok-list-in-While-clause-kept c = on-ok c.states-in-While.result c.states-in-While.ensures.kept (λ g.
    kept_from (cut_to c.args.typing.now c.in-While.count) c.leave-in-While.new.self c.states-in-While.new.typing
    c.leave-in-While.ensures g)

pub returns-in_ok-list-in-For-clause-kept : goal.returns-in_ok-list-in-For-clause-kept
returns-in_ok-list-in-For-clause-kept c = on-ok c.states-in-For.result c.states-in-For.ensures.kept (λ g.
    kept_from (cut_to c.args.typing.now c.in-For.count) c.leave-in-For.new.self c.states-in-For.new.typing
    c.leave-in-For.ensures g)
