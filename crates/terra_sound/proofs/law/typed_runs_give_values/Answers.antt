use Rattle.terra_sound.proofs.Values.{gives-values}
use Rattle.terra_sound.proofs.law.typed_runs_give_values.Goals as goal

pub returns : goal.returns
returns c = gives-values
