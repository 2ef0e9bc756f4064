use Rattle.std.proofs.Common.{◌≡◌, length}
use Rattle.check_library.specs.Exports.{next_of}
use Rattle.check_library.proofs.exports.next_of.Given as goal

abbrev pub invariant-entries : goal.invariant-entries
invariant-entries l = next_of l.world l.at_end l.rest ≡ next_of l.fn.world l.fn.at_end l.fn.rest

abbrev pub decreases-entries : goal.decreases-entries
decreases-entries l = length l.rest
