use Rattle.terra_sound.proofs.Whole.{never-stuck}
use Rattle.terra_sound.proofs.law.typed_runs_are_not_stuck.Goals as goal

pub returns : goal.returns
returns c = never-stuck
