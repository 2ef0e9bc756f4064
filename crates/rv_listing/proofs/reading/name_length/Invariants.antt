use Rattle.std.proofs.Common.{◌≡◌, ◌+◌, length, drop}
use Rattle.rv_listing.specs.Assembly.{name_in}
use Rattle.rv_listing.proofs.reading.name_length.Given as goal

abbrev pub invariant-loop-i : goal.invariant-loop-i
invariant-loop-i l = l.i + length (name_in (drop l.i l.line)) ≡ length (name_in l.line)
