use Rattle.std.proofs.Common.{◌≡◌, drop}
use Rattle.rv_listing.specs.Reading.{scan_all, scan_start}
use Rattle.rv_listing.proofs.scan.numbers_of.Given as goal

abbrev pub invariant-loop-byte : goal.invariant-loop-byte
invariant-loop-byte l = scan_all l.s (drop l.byte-index l.bytes) ≡ scan_all scan_start l.bytes
