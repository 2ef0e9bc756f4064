use Rattle.std.proofs.Common.{◌≡◌, drop}
use Rattle.check_library.specs.Counting.{with_functions}
use Rattle.check_library.proofs.counting.put_all.Given as goal

abbrev pub invariant-each : goal.invariant-each
invariant-each l =
    with_functions l.functions.keys (drop l.place l.reached) ≡ with_functions l.fn.functions.keys l.fn.reached
