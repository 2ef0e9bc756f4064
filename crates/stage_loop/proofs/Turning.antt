-- Turns of a job as turns of the stage.
use Rattle.std.proofs.Common.{◌≡◌, refl}
use Rattle.tl_base.specs.declared.turn.Turn.{Turn}
use Rattle.tl_base.specs.declared.turn.Turn.TheVariants.{End, Ask, Spent}
use Rattle.stage_code.specs.Layers.{turn_within}
use Rattle.stage_check.specs.declared.jobs.Asked.{Asked}
use Rattle.stage_check.specs.declared.jobs.JobEnd.{JobEnd}
use Rattle.stage_model.specs.Stage.{checking_fitting}

-- a job stops in the stage where it stops
pub checking_same : (t : Turn Asked JobEnd) → turn_within checking_fitting t ≡ t
checking_same (End e) = refl
checking_same (Ask q) = refl
checking_same Spent = refl
