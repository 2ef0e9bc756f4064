use Rattle.std.proofs.Common.{◌≡◌, ◌+◌, drop}
use Rattle.rv_listing.specs.Reading.{line_length}
use Rattle.rv_listing.proofs.assembly.line_length.Given as goal

abbrev pub invariant-loop-i : goal.invariant-loop-i
invariant-loop-i l = l.i + line_length (drop l.i l.source) ≡ line_length l.source
