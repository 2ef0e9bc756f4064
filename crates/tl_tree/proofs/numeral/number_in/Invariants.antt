use Rattle.std.proofs.Common.{length, ◌-◌, ◌≡◌, ◌<◌, ◌≤◌, drop}
use Rattle.tl_tree.specs.Numbers as numbers
use Rattle.tl_tree.proofs.numeral.number_in.Given as goal

-- the value is that of the digits before the place, and has 64 bits
abbrev pub invariant-digits : goal.invariant-digits
invariant-digits l = (l.at ≤ length l.bytes) × (l.value < 18446744073709551616)
    × (numbers.number_in l.base l.value (drop l.at l.bytes) ≡ numbers.number_in l.base 0 l.bytes)

abbrev pub decreases-digits : goal.decreases-digits
decreases-digits l = length l.bytes - l.at
