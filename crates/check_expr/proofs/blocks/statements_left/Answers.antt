use Rattle.std.proofs.Common.{List, ◌∷◌, refl, ap}
use Rattle.tl_base.specs.declared.ids.TermId.{TermId}
use Rattle.tl_base.specs.declared.machine.Step.TheVariants.{Enter}
use Rattle.check_model.specs.declared.job.BodyJob.TheVariants as jobs
use Rattle.check_model.specs.Plans.{BodyPlan}
use Rattle.check_model.specs.Expressions as expressions
use Rattle.check_expr.specs.declared.frame.BodyFrame.TheVariants as frames
use Rattle.check_expr.specs.Frames as waiting
use Rattle.check_expr.proofs.Doing.{moved, enters}
use Rattle.tl_base.proofs.Results.{carried}
use Rattle.check_expr.proofs.blocks.statements_left.Goals as goal

pub returns-in_ok-push-in-Some-clause-means : goal.returns-in_ok-push-in-Some-clause-means
returns-in_ok-push-in-Some-clause-means c = λ left.
    let a = c.args in
    let f = a.frame in
    let t = c.in-Some.statement in
    let fs = a.frames.now.items in
    let fs2 = c.push.new.self.items in
    let w = a.typing.now in
    let job = jobs.Statement t f.site in
    let plan : List TermId → BodyPlan = λ ts. expressions.statements ts f.site f.ids
    (λ all last. waiting.block_then f.then all last) in
    moved fs fs2 (plan f.rest) (plan (t ∷ c.take.new.self)) w w w left left (Enter job) (ap plan c.in-Some.ensures)
    refl
    (enters fs fs2 (frames.Block (record f { rest = c.take.new.self })) job w left c.in_ok-push-in-Some.ensures.items)

pub returns-in-None-clause-means : goal.returns-in-None-clause-means
returns-in-None-clause-means c = carried _ _ c.with_statements.result c.with_statements.ensures.means (λ step g left.
    let a = c.args in
    let f = a.frame in
    let fs = a.frames.now.items in
    let w = a.typing.now in
    let plan : List TermId → BodyPlan = λ ts. expressions.statements ts f.site f.ids
    (λ all last. waiting.block_then f.then all last) in
    moved fs c.with_statements.new.frames.items (plan f.rest) (waiting.block_then f.then f.ids f.site.result) w w
    c.with_statements.new.typing left left step
    (ap plan c.in-None.ensures) refl (g left))
