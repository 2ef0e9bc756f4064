use Rattle.std.proofs.Common.{◌≡◌, ◌+◌, length, drop}
use Rattle.elf_image.specs.Exports.{before_zero}
use Rattle.elf_image.proofs.exports.length_before_zero.Given as goal

abbrev pub invariant-loop-i : goal.invariant-loop-i
invariant-loop-i l = l.i + length (before_zero (drop l.i l.bytes)) ≡ length (before_zero l.bytes)
