use Rattle.std.specs.Prelude.{length}
use Rattle.rv_select.proofs.asked.+ask_passed.Given as goal

abbrev pub decreases-ask_passed : goal.decreases-ask_passed
decreases-ask_passed l = length l.parts.now
