-- Each `|` joins a slice of the offset to those above it, as a sum.
use Rattle.std.proofs.Common.{◌≡◌, ℕ, ◌+◌, ◌*◌, ◌%◌, ◌<◌, bit_or, refl, arith}
use Rattle.rv_isa.proofs.Bits.{or_joins}
use Rattle.rv_isa.proofs.encoder.b_word.Goals as goal

-- what stands in the place of imm[11:0]
upper_joined : (high middle rs2 : ℕ) → high < 2 → middle < 64 → rs2 < 32 → bit_or (bit_or (high * 2048 % 4294967296) (middle * 32 % 4294967296)) rs2 ≡ high * 2048 + middle * 32 + rs2
upper_joined high middle rs2 h m r =
    let joined = or_joins (high * 2048 % 4294967296) (high * 2048) 11 (middle * 32 % 4294967296) (middle * 32) (omega arith) (omega arith) (omega arith) (omega arith) in
    or_joins _ (high * 2048 + middle * 32) 5 rs2 rs2 joined refl (omega arith) (omega arith)

-- what stands in the place of rd
lower_joined : (low bit : ℕ) → low < 16 → bit < 2 → bit_or (low * 2 % 4294967296) bit ≡ low * 2 + bit
lower_joined low bit l b = or_joins (low * 2 % 4294967296) (low * 2) 1 bit bit (omega arith) refl (omega arith) (omega arith)

pub compose-requires-clause-upper : goal.compose-requires-clause-upper
compose-requires-clause-upper c = omega (arith, upper_joined c.field.result c.field-2.result c.from.result (omega arith) (omega arith) (omega arith))

pub compose-requires-clause-lower : goal.compose-requires-clause-lower
compose-requires-clause-lower c = omega (arith, lower_joined c.field-3.result c.field-4.result (omega arith) (omega arith))

pub returns : goal.returns
returns c =
    let upper = upper_joined c.field.result c.field-2.result c.from.result (omega arith) (omega arith) (omega arith) in
    let lower = lower_joined c.field-3.result c.field-4.result (omega arith) (omega arith) in
    omega arith
