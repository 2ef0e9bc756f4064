use Rattle.tl_base.specs.Layer.{state}
use Rattle.tl_tree.specs.Arena.{items_of}
use Rattle.stage_form.proofs.Standing.{within_same}
use Rattle.stage_check.specs.Layers.{rest as job_rest, job_meaning}
use Rattle.stage_model.specs.Stage.{checking_fitting}
use Rattle.stage_loop.proofs.staged.StagingsStages.start.Goals as goal

pub returns-in-Job-clause-means : goal.returns-in-Job-clause-means
returns-in-Job-clause-means c = λ first later.
    rw c.in-Job.is (within_same checking_fitting (job_rest c.start.result)
    (job_meaning (items_of c.args.self.now.inner.inner.tree.now) c.in-Job.job) c.start.ensures.means first later)

pub returns-in-Job-clause-fits : goal.returns-in-Job-clause-fits
returns-in-Job-clause-fits c = λ s begins. c.start.ensures.fits (state s.world.typing s.left)
