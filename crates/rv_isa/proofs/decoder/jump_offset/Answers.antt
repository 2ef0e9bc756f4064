-- Each `|` joins a slice of the offset to those above it, as a sum.
use Rattle.std.proofs.Common.{◌≡◌, ℕ, ◌+◌, ◌*◌, ◌%◌, ◌<◌, bit_or, arith}
use Rattle.rv_isa.proofs.Bits.{or_joins}
use Rattle.rv_isa.proofs.decoder.jump_offset.Goals as goal

offset_joined : (sign high bit low : ℕ) → sign < 2 → high < 256 → bit < 2 → low < 1024 → bit_or (bit_or (bit_or (sign * 1048576 % 4294967296) (high * 4096 % 4294967296)) (bit * 2048 % 4294967296)) (low * 2 % 4294967296) ≡ sign * 1048576 + high * 4096 + bit * 2048 + low * 2
offset_joined sign high bit low al bl cl ll =
    let first = or_joins (sign * 1048576 % 4294967296) (sign * 1048576) 20 (high * 4096 % 4294967296) (high * 4096) (omega arith) (omega arith) (omega arith) (omega arith) in
    let second = or_joins _ (sign * 1048576 + high * 4096) 12 (bit * 2048 % 4294967296) (bit * 2048) first (omega arith) (omega arith) (omega arith) in
    or_joins _ (sign * 1048576 + high * 4096 + bit * 2048) 11 (low * 2 % 4294967296) (low * 2) second (omega arith) (omega arith) (omega arith)

pub from_bits-requires-clause-size : goal.from_bits-requires-clause-size
from_bits-requires-clause-size c = omega (arith, offset_joined c.field.result c.field-2.result c.field-3.result c.field-4.result (omega arith) (omega arith) (omega arith) (omega arith))

pub from_bits-requires-clause-even : goal.from_bits-requires-clause-even
from_bits-requires-clause-even c = omega (arith, offset_joined c.field.result c.field-2.result c.field-3.result c.field-4.result (omega arith) (omega arith) (omega arith) (omega arith))

pub returns : goal.returns
returns c = omega (arith, offset_joined c.field.result c.field-2.result c.field-3.result c.field-4.result (omega arith) (omega arith) (omega arith) (omega arith))
