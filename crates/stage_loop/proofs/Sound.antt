-- The worlds in which the runs of a staging begin and end are sound.
use Rattle.std.proofs.Common.{◌≡◌, true}
use Rattle.stage_form.specs.declared.staging.Outcome.{Outcome}
use Rattle.stage_form.specs.declared.staging.Outcome.TheVariants.{Ends, Spent}
use Rattle.stage_form.specs.Holding.{OnEnds}
use Rattle.check_sound.specs.Sound.{IsSound}
use Rattle.stage_check.specs.declared.jobs.Asked.{Asked}
use Rattle.stage_check.specs.declared.jobs.JobEnd.{JobEnd}
use Rattle.stage_check.specs.declared.jobs.JobEnd.TheVariants as ends
use Rattle.stage_model.specs.Stage.{StagingState}
use Rattle.stage_model.specs.Staging.{gave_values}
use Rattle.stage_sound.specs.Jobs.{Left}

-- where a question's layer ended, the world is sound
pub left_sound : (came : Outcome JobEnd) (question : Asked) (w v : StagingState) → OnEnds came (λ end. Left question w end v) →
    OnEnds came (λ _. IsSound v.typing.stage)
left_sound (Ends e) question w v h = h.sound
left_sound Spent question w v h = tt

-- a chunk that gave values ended
pub gave_so : (came : Outcome JobEnd) (P : Type 0) → gave_values came ≡ true → OnEnds came (λ _. P) → P
gave_so (Ends (ends.Values vs)) P gave h = h
gave_so (Ends (ends.Raised v at)) P gave h = cc
gave_so (Ends (ends.Result t)) P gave h = cc
gave_so (Ends (ends.Refused why)) P gave h = cc
gave_so (Ends ends.Done) P gave h = cc
gave_so (Ends (ends.NoLayout kind)) P gave h = cc
gave_so Spent P gave h = cc
