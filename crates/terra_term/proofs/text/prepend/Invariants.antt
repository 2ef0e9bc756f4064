use Rattle.std.proofs.Common.{◌≡◌, ◌++◌, vec_len}
use Rattle.terra_term.proofs.text.prepend.Given as goal

abbrev pub invariant-loop-piece : goal.invariant-loop-piece
invariant-loop-piece l = l.left.items ++ l.work.items ≡ l.fn.pieces.items ++ l.initial.work.items

abbrev pub decreases-loop-piece : goal.decreases-loop-piece
decreases-loop-piece l = vec_len l.left
