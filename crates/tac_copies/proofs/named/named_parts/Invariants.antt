use Rattle.std.proofs.Common.{◌≡◌, take, map}
use Rattle.tac_copies.specs.Kept.{name_in}
use Rattle.tac_copies.specs.Shortened.{named_part}
use Rattle.tac_copies.proofs.named.named_parts.Given as goal

abbrev pub invariant-loop-part : goal.invariant-loop-part
invariant-loop-part l = l.items.items ≡ map (named_part (name_in l.names)) (take l.part-index l.parts)
