use Rattle.std.proofs.Common.{refl}
use Rattle.check_model.proofs.Reaching.{reached_there}
use Rattle.check_model.proofs.job.ReachedList.was_reached.Goals as goal

pub returns : goal.returns
returns c = rw (← c.self.view_is, reached_there, ← c.contains_key.ensures) refl
