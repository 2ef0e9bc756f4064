use Rattle.std.proofs.Common.{◌≡◌, ◌+◌, ◌-◌, ◌*◌, ◌++◌, None}
use Rattle.elf_image.specs.Exports.{bad_records, symbols_at, are_right}
use Rattle.elf_image.proofs.exports.read_each.Given as goal

abbrev pub invariant-loop-i : goal.invariant-loop-i
invariant-loop-i l =
    (l.exports.items ++ symbols_at (l.count - l.i) l.layout l.bytes (l.first + 24 * l.i) ≡ symbols_at l.count l.layout l.bytes l.first)
    × (are_right (l.count - l.i) l.layout l.bytes (l.first + 24 * l.i) (l.symbols + 24 * l.i) ≡ are_right l.count l.layout l.bytes l.first l.symbols)
    × (bad_records (l.count - l.i) l.bytes (l.first + 24 * l.i) ≡ None)
