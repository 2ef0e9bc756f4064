use Rattle.tl_base.specs.Layer.{at}
use Rattle.stage_form.proofs.Reaching.{fed-more}
use Rattle.stage_form.proofs.staging.larger_changes_nothing.Goals as goal

pub returns : goal.returns
returns g c = λ stage n m question s out here more. fed-more stage n m (stage.meaning question) (at stage.go s) out here more
