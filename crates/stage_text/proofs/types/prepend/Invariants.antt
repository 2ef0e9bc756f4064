use Rattle.std.proofs.Common.{◌≡◌, ◌++◌, vec_len}
use Rattle.stage_text.proofs.types.prepend.Given as goal

abbrev pub invariant-loop-part : goal.invariant-loop-part
invariant-loop-part l = l.left.items ++ l.work.items ≡ l.fn.parts.items ++ l.initial.work.items

abbrev pub decreases-loop-part : goal.decreases-loop-part
decreases-loop-part l = vec_len l.left
