-- Each `|` joins a slice of the offset to those above it, as a sum.
use Rattle.std.proofs.Common.{◌≡◌, ℕ, ◌+◌, ◌*◌, ◌%◌, ◌<◌, bit_or, refl, arith}
use Rattle.rv_isa.proofs.Bits.{or_joins}
use Rattle.rv_isa.proofs.encoder.j_word.Goals as goal

upper_joined : (sign low bit high : ℕ) → sign < 2 → low < 1024 → bit < 2 → high < 256 → bit_or (bit_or (bit_or (sign * 524288 % 4294967296) (low * 512 % 4294967296)) (bit * 256 % 4294967296)) high ≡ sign * 524288 + low * 512 + bit * 256 + high
upper_joined sign low bit high s l b h =
    let first = or_joins (sign * 524288 % 4294967296) (sign * 524288) 19 (low * 512 % 4294967296) (low * 512) (omega arith) (omega arith) (omega arith) (omega arith) in
    let second = or_joins _ (sign * 524288 + low * 512) 9 (bit * 256 % 4294967296) (bit * 256) first (omega arith) (omega arith) (omega arith) in
    or_joins _ (sign * 524288 + low * 512 + bit * 256) 8 high high second refl (omega arith) (omega arith)

pub u_word-requires-clause-imm : goal.u_word-requires-clause-imm
u_word-requires-clause-imm c = omega (arith, upper_joined c.field.result c.field-2.result c.field-3.result c.field-4.result (omega arith) (omega arith) (omega arith) (omega arith))

pub returns : goal.returns
returns c =
    let upper = upper_joined c.field.result c.field-2.result c.field-3.result c.field-4.result (omega arith) (omega arith) (omega arith) (omega arith) in
    omega arith
