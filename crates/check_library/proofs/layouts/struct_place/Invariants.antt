use Rattle.std.proofs.Common.{◌≡◌, length}
use Rattle.check_library.specs.Layouts.{place_within}
use Rattle.check_library.proofs.layouts.struct_place.Given as goal

abbrev pub invariant-arrays : goal.invariant-arrays
invariant-arrays l = place_within l.steps l.types l.of ≡ place_within (length l.fn.types) l.fn.types l.fn.of

abbrev pub decreases-arrays : goal.decreases-arrays
decreases-arrays l = l.steps
