use Rattle.std.proofs.Common.{◌≡◌, ◌-◌, ◌++◌}
use Rattle.check_library.specs.Layouts.{first_bytes}
use Rattle.check_library.proofs.layouts.first_bytes.Given as goal

abbrev pub invariant-each : goal.invariant-each
invariant-each l = l.bytes.items ++ first_bytes (l.fn.count - l.counter) l.left ≡ first_bytes l.fn.count l.fn.number
