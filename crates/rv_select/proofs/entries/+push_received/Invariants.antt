use Rattle.std.specs.Prelude.{length}
use Rattle.rv_select.proofs.entries.+push_received.Given as goal

abbrev pub decreases-push_received : goal.decreases-push_received
decreases-push_received l = length l.parameters.now
