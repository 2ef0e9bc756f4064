use Rattle.check_model.specs.declared.job.BodyJob.TheVariants as jobs
use Rattle.check_expr.specs.declared.frame.BodyFrame.TheVariants as frames
use Rattle.check_expr.specs.declared.frame.MadeFrame.TheVariants as of_made
use Rattle.check_expr.proofs.Doing.{enters}
use Rattle.check_expr.proofs.machine.with_made.Goals as goal

pub returns-in_ok-push-in-Left-clause-means : goal.returns-in_ok-push-in-Left-clause-means
returns-in_ok-push-in-Left-clause-means c =
    let a = c.args in
    let m = c.in-Left in
    rw m.is (enters a.frames.now.items c.push.new.self.items (frames.Made (of_made.Right m.op a.made m.node))
    (jobs.Expression m.right m.node.site) a.typing.now a.budget.now c.in_ok-push-in-Left.ensures.items)

pub returns-in_ok-push-in-Object-clause-means : goal.returns-in_ok-push-in-Object-clause-means
returns-in_ok-push-in-Object-clause-means c =
    let a = c.args in
    let m = c.in-Object in
    rw m.is (enters a.frames.now.items c.push-in-Object.new.self.items (frames.Made (of_made.Key a.made m.node))
    (jobs.Expression m.key m.node.site) a.typing.now a.budget.now c.in_ok-push-in-Object.ensures.items)
