use Rattle.std.proofs.Common.{◌≡◌, drop}
use Rattle.check_library.specs.Counting.{count_exports}
use Rattle.check_library.proofs.counting.Counted.count_exports.Given as goal

abbrev pub invariant-each : goal.invariant-each
invariant-each l =
    count_exports l.world l.self (drop l.export-index l.exports) ≡ count_exports l.fn.world l.fn.self l.fn.exports
