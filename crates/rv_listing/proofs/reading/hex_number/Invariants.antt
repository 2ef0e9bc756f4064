use Rattle.std.proofs.Common.{◌≡◌, drop}
use Rattle.rv_listing.specs.Reading.{hex_all}
use Rattle.rv_listing.proofs.reading.hex_number.Given as goal

abbrev pub invariant-loop-byte : goal.invariant-loop-byte
invariant-loop-byte l = hex_all l.number (drop l.byte-index l.bytes) ≡ hex_all 0 l.bytes
