use Rattle.check_sound.proofs.Restricting.{reached-typed}
use Rattle.check_sound.proofs.law.reached_stores_are_typed.Goals as goal

pub returns : goal.returns
returns c = reached-typed
