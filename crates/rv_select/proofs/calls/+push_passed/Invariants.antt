use Rattle.std.specs.Prelude.{length}
use Rattle.rv_select.proofs.calls.+push_passed.Given as goal

abbrev pub decreases-push_passed : goal.decreases-push_passed
decreases-push_passed l = length l.parts.now
