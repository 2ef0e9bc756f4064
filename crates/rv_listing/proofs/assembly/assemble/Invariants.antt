use Rattle.std.proofs.Common.{length}
use Rattle.rv_listing.proofs.Assembling.{Progress}
use Rattle.rv_listing.proofs.assembly.assemble.Given as goal

abbrev pub invariant-loop-left : goal.invariant-loop-left
invariant-loop-left l = Progress l.source l.left l.words.items l.line

abbrev pub decreases-loop-left : goal.decreases-loop-left
decreases-loop-left l = length l.left
