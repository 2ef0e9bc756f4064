use Rattle.std.proofs.Common.{◌≡◌, ◌-◌}
use Rattle.check_library.specs.Counting.{gone_through}
use Rattle.check_library.proofs.counting.go_through.Given as goal

abbrev pub invariant-each : goal.invariant-each
invariant-each l =
    gone_through l.world (l.fn.steps - l.counter) l.place l.functions.keys
    ≡ gone_through l.fn.world l.fn.steps l.fn.first l.fn.functions.keys
