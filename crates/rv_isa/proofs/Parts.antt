-- Every word is an upper part of twelve bits, rs1, funct3, a lower part of five bits and an opcode. The parts of an instruction
-- are the parts of its word.
use Rattle.std.proofs.Common.{◌≡◌, ◌∙◌, ℕ, ◌+◌, ◌-◌, ◌*◌, ◌/◌, ◌%◌, ◌^◌, ◌<◌, ◌≤ℤ◌, ℤ, pos, negsuc, sym, refl, arith}
use Rattle.std.proofs.lemmas.Int.{ints}
use Rattle.std.specs.Prelude.{unsigned_abs}
use Rattle.rv_isa.specs.Formats.{bits, twos_complement, i_type}
use Rattle.rv_isa.specs.Rows.{branch_funct3, load_funct3, store_funct3, immediate_funct3, shift_funct3, shift_funct6, shift_word_funct7}
use Rattle.rv_isa.specs.Rows.{register_funct7, register_funct3, register_word_funct7, register_word_funct3}
use Rattle.rv_isa.specs.Table.{word_of}
use Rattle.rv_isa.specs.declared.operand.Immediate.{Immediate}
use Rattle.rv_isa.specs.declared.operand.BranchOffset.{BranchOffset}
use Rattle.rv_isa.specs.declared.operand.JumpOffset.{JumpOffset}
use Rattle.rv_isa.specs.declared.instr.Instr.{Instr}
use Rattle.rv_isa.specs.declared.instr.Instr.TheVariants.{Lui, Auipc, Jal, Jalr, Branch, Load, Store, RegisterImmediate, Shift, Addiw}
use Rattle.rv_isa.specs.declared.instr.Instr.TheVariants.{ShiftWord, RegisterRegister, RegisterRegisterWord, Fence, Ecall, Ebreak}
use Rattle.rv_isa.specs.declared.operation.BranchCondition.{BranchCondition}
use Rattle.rv_isa.specs.declared.operation.LoadOp.{LoadOp}
use Rattle.rv_isa.specs.declared.operation.StoreOp.{StoreOp}
use Rattle.rv_isa.specs.declared.operation.ImmediateOp.{ImmediateOp}
use Rattle.rv_isa.specs.declared.operation.ShiftOp.{ShiftOp}
use Rattle.rv_isa.specs.declared.operation.RegisterOp.{RegisterOp}
use Rattle.rv_isa.specs.declared.operation.RegisterWordOp.{RegisterWordOp}

pub record Parts : Type 0 where
  pub upper : ℕ
  pub rs1 : ℕ
  pub funct3 : ℕ
  pub lower : ℕ
  pub opcode : ℕ

pub record Fit (p : Parts) : Type 0 where
  pub upper : p.upper < 4096
  pub rs1 : p.rs1 < 32
  pub funct3 : p.funct3 < 8
  pub lower : p.lower < 32
  pub opcode : p.opcode < 128

pub record Same (p q : Parts) : Type 0 where
  pub upper : p.upper ≡ q.upper
  pub rs1 : p.rs1 ≡ q.rs1
  pub funct3 : p.funct3 ≡ q.funct3
  pub lower : p.lower ≡ q.lower
  pub opcode : p.opcode ≡ q.opcode

abbrev pub joined : Parts → ℕ
joined p = i_type p.upper p.rs1 p.funct3 p.lower p.opcode

-- the parts of a word
abbrev pub parts : ℕ → Parts
parts w = record { upper = bits 31 20 w; rs1 = bits 19 15 w; funct3 = bits 14 12 w; lower = bits 11 7 w; opcode = bits 6 0 w }

joined_same : (a b c d e a' b' c' d' e' : ℕ) → b < 32 → c < 8 → d < 32 → e < 128 → b' < 32 → c' < 8 → d' < 32 → e' < 128 → i_type a b c d e ≡ i_type a' b' c' d' e' → (a ≡ a') × (b ≡ b') × (c ≡ c') × (d ≡ d') × (e ≡ e')
joined_same a b c d e a' b' c' d' e' bs cs ds es bs' cs' ds' es' h = (omega arith, omega arith, omega arith, omega arith, omega arith)

pub joined-parts : (w : ℕ) → w < 2 ^ 32 → joined (parts w) ≡ w
joined-parts w h =
    let a : w / 128 / 32 ≡ w / 4096 = omega arith in
    let b : w / 4096 / 8 ≡ w / 32768 = omega arith in
    let c : w / 32768 / 32 ≡ w / 1048576 = omega arith in
    omega arith

-- Two words with parts in range are the same only if all their parts are.
pub same_parts : (p q : Parts) → Fit p → Fit q → joined p ≡ joined q → Same p q
same_parts p q f g e =
    let all = joined_same p.upper p.rs1 p.funct3 p.lower p.opcode q.upper q.rs1 q.funct3 q.lower q.opcode f.rs1 f.funct3 f.lower f.opcode g.rs1 g.funct3 g.lower g.opcode e in
    record { upper = all.0; rs1 = all.1; funct3 = all.2; lower = all.3; opcode = all.4 }

pub parts-Fit : (w : ℕ) → Fit (parts w)
parts-Fit w = record { upper = omega arith; rs1 = omega arith; funct3 = omega arith; lower = omega arith; opcode = omega arith }

-- a format whose immediate of twenty bits covers three parts
abbrev pub wide : (imm rd opcode : ℕ) → Parts
wide imm rd opcode = record { upper = imm / 256; rs1 = imm / 8 % 32; funct3 = imm % 8; lower = rd; opcode = opcode }

-- the twenty bits of JAL
abbrev pub jump_bits : ℕ → ℕ
jump_bits imm = bits 20 20 imm * 2 ^ 19 + bits 10 1 imm * 2 ^ 9 + bits 11 11 imm * 2 ^ 8 + bits 19 12 imm

-- the parts of a branch's offset, and of a store's
abbrev pub branch_upper : ℕ → ℕ → ℕ
branch_upper imm rs2 = bits 12 12 imm * 2 ^ 11 + bits 10 5 imm * 2 ^ 5 + rs2

abbrev pub branch_lower : ℕ → ℕ
branch_lower imm = bits 4 1 imm * 2 + bits 11 11 imm

abbrev pub store_upper : ℕ → ℕ → ℕ
store_upper imm rs2 = bits 11 5 imm * 2 ^ 5 + rs2

abbrev pub parts_of : Instr → Parts
parts_of (Lui rd imm) = wide imm.value rd.number 0b0110111
parts_of (Auipc rd imm) = wide imm.value rd.number 0b0010111
parts_of (Jal rd offset) = wide (jump_bits (twos_complement 21 offset.bytes)) rd.number 0b1101111
parts_of (Jalr rd rs1 offset) = record { upper = twos_complement 12 offset.value; rs1 = rs1.number; funct3 = 0; lower = rd.number; opcode = 0b1100111 }
parts_of (Branch condition rs1 rs2 offset) = record { upper = branch_upper (twos_complement 13 offset.bytes) rs2.number; rs1 = rs1.number; funct3 = branch_funct3 condition; lower = branch_lower (twos_complement 13 offset.bytes); opcode = 0b1100011 }
parts_of (Load op rd rs1 offset) = record { upper = twos_complement 12 offset.value; rs1 = rs1.number; funct3 = load_funct3 op; lower = rd.number; opcode = 0b0000011 }
parts_of (Store op rs1 rs2 offset) = record { upper = store_upper (twos_complement 12 offset.value) rs2.number; rs1 = rs1.number; funct3 = store_funct3 op; lower = bits 4 0 (twos_complement 12 offset.value); opcode = 0b0100011 }
parts_of (RegisterImmediate op rd rs1 imm) = record { upper = twos_complement 12 imm.value; rs1 = rs1.number; funct3 = immediate_funct3 op; lower = rd.number; opcode = 0b0010011 }
parts_of (Shift op rd rs1 count) = record { upper = shift_funct6 op * 2 ^ 6 + count.count; rs1 = rs1.number; funct3 = shift_funct3 op; lower = rd.number; opcode = 0b0010011 }
parts_of (Addiw rd rs1 imm) = record { upper = twos_complement 12 imm.value; rs1 = rs1.number; funct3 = 0; lower = rd.number; opcode = 0b0011011 }
parts_of (ShiftWord op rd rs1 count) = record { upper = shift_word_funct7 op * 2 ^ 5 + count.count; rs1 = rs1.number; funct3 = shift_funct3 op; lower = rd.number; opcode = 0b0011011 }
parts_of (RegisterRegister op rd rs1 rs2) = record { upper = register_funct7 op * 2 ^ 5 + rs2.number; rs1 = rs1.number; funct3 = register_funct3 op; lower = rd.number; opcode = 0b0110011 }
parts_of (RegisterRegisterWord op rd rs1 rs2) = record { upper = register_word_funct7 op * 2 ^ 5 + rs2.number; rs1 = rs1.number; funct3 = register_word_funct3 op; lower = rd.number; opcode = 0b0111011 }
parts_of (Fence rd rs1 fields) = record { upper = fields.bits; rs1 = rs1.number; funct3 = 0; lower = rd.number; opcode = 0b0001111 }
parts_of Ecall = record { upper = 0; rs1 = 0; funct3 = 0; lower = 0; opcode = 0b1110011 }
parts_of Ebreak = record { upper = 1; rs1 = 0; funct3 = 0; lower = 0; opcode = 0b1110011 }

-- An instruction's word is its parts, joined.
pub word_of-joined : (i : Instr) → word_of i ≡ joined (parts_of i)
word_of-joined (Lui rd imm) = omega arith
word_of-joined (Auipc rd imm) = omega arith
word_of-joined (Jal rd offset) = omega arith
word_of-joined _ = omega arith

-- Each row's fields are in range.
branch_funct3_below : (op : BranchCondition) → branch_funct3 op < 8
branch_funct3_below op = grind arith

load_funct3_below : (op : LoadOp) → load_funct3 op < 8
load_funct3_below op = grind arith

store_funct3_below : (op : StoreOp) → store_funct3 op < 8
store_funct3_below op = grind arith

immediate_funct3_below : (op : ImmediateOp) → immediate_funct3 op < 8
immediate_funct3_below op = grind arith

shift_below : (op : ShiftOp) → (shift_funct6 op < 64) × (shift_word_funct7 op < 128) × (shift_funct3 op < 8)
shift_below op = (grind arith, grind arith, grind arith)

register_below : (op : RegisterOp) → (register_funct7 op < 128) × (register_funct3 op < 8)
register_below op = (grind arith, grind arith)

register_word_below : (op : RegisterWordOp) → (register_word_funct7 op < 128) × (register_word_funct3 op < 8)
register_word_below op = (grind arith, grind arith)

-- Each operand's two's complement is in range, and an offset's is even.
below : (size half : ℕ) → 2 ^ size ≡ half + half → 0 < half → (z : ℤ) → z ≤ℤ pos (half - 1) → twos_complement size z < 2 ^ size
below size half whole some (pos n) h = omega (arith, ints)
below size half whole some (negsuc n) h = omega (arith, ints)

even : (size half : ℕ) → 2 ^ size ≡ 2 * half → (z : ℤ) → unsigned_abs z % 2 ≡ 0 → twos_complement size z % 2 ≡ 0
even size half whole (pos n) h = h
even size half whole (negsuc n) h = omega arith

pub immediate_below : (a : Immediate) → twos_complement 12 a.value < 4096
immediate_below a = below 12 2048 refl (omega arith) a.value a.highest

pub branch_offset_below : (a : BranchOffset) → (twos_complement 13 a.bytes < 8192) × (twos_complement 13 a.bytes % 2 ≡ 0)
branch_offset_below a = (below 13 4096 refl (omega arith) a.bytes (omega (arith, ints, a.highest)), even 13 4096 refl a.bytes a.even)

pub jump_offset_below : (a : JumpOffset) → (twos_complement 21 a.bytes < 2097152) × (twos_complement 21 a.bytes % 2 ≡ 0)
jump_offset_below a = (below 21 1048576 refl (omega arith) a.bytes (omega (arith, ints, a.highest)), even 21 1048576 refl a.bytes a.even)

-- The parts of an instruction are in range.
pub parts_of-Fit : (i : Instr) → Fit (parts_of i)
parts_of-Fit (Lui rd imm) = record { upper = omega arith; rs1 = omega arith; funct3 = omega arith; lower = omega arith; opcode = omega arith }
parts_of-Fit (Auipc rd imm) = record { upper = omega arith; rs1 = omega arith; funct3 = omega arith; lower = omega arith; opcode = omega arith }
parts_of-Fit (Jal rd offset) = record { upper = omega arith; rs1 = omega arith; funct3 = omega arith; lower = omega arith; opcode = omega arith }
parts_of-Fit (Jalr rd rs1 offset) = record { upper = immediate_below offset; rs1 = omega arith; funct3 = omega arith; lower = omega arith; opcode = omega arith }
parts_of-Fit (Branch condition rs1 rs2 offset) = record { upper = omega arith; rs1 = omega arith; funct3 = branch_funct3_below condition; lower = omega arith; opcode = omega arith }
parts_of-Fit (Load op rd rs1 offset) = record { upper = immediate_below offset; rs1 = omega arith; funct3 = load_funct3_below op; lower = omega arith; opcode = omega arith }
parts_of-Fit (Store op rs1 rs2 offset) = record { upper = omega arith; rs1 = omega arith; funct3 = store_funct3_below op; lower = omega arith; opcode = omega arith }
parts_of-Fit (RegisterImmediate op rd rs1 imm) = record { upper = immediate_below imm; rs1 = omega arith; funct3 = immediate_funct3_below op; lower = omega arith; opcode = omega arith }
parts_of-Fit (Shift op rd rs1 count) = record { upper = omega (arith, (shift_below op).0); rs1 = omega arith; funct3 = (shift_below op).2; lower = omega arith; opcode = omega arith }
parts_of-Fit (Addiw rd rs1 imm) = record { upper = immediate_below imm; rs1 = omega arith; funct3 = omega arith; lower = omega arith; opcode = omega arith }
parts_of-Fit (ShiftWord op rd rs1 count) = record { upper = omega (arith, (shift_below op).1); rs1 = omega arith; funct3 = (shift_below op).2; lower = omega arith; opcode = omega arith }
parts_of-Fit (RegisterRegister op rd rs1 rs2) = record { upper = omega (arith, (register_below op).0); rs1 = omega arith; funct3 = (register_below op).1; lower = omega arith; opcode = omega arith }
parts_of-Fit (RegisterRegisterWord op rd rs1 rs2) = record { upper = omega (arith, (register_word_below op).0); rs1 = omega arith; funct3 = (register_word_below op).1; lower = omega arith; opcode = omega arith }
parts_of-Fit (Fence rd rs1 fields) = record { upper = omega arith; rs1 = omega arith; funct3 = omega arith; lower = omega arith; opcode = omega arith }
parts_of-Fit Ecall = record { upper = omega arith; rs1 = omega arith; funct3 = omega arith; lower = omega arith; opcode = omega arith }
parts_of-Fit Ebreak = record { upper = omega arith; rs1 = omega arith; funct3 = omega arith; lower = omega arith; opcode = omega arith }

-- Instructions with one word have the same parts, and these are the word's.
pub parts_of-same : (i j : Instr) → word_of i ≡ word_of j → Same (parts_of i) (parts_of j)
parts_of-same i j e = same_parts (parts_of i) (parts_of j) (parts_of-Fit i) (parts_of-Fit j) (sym (word_of-joined i) ∙ (e ∙ word_of-joined j))

pub parts_of-parts : (i : Instr) (w : ℕ) → w < 2 ^ 32 → word_of i ≡ w → Same (parts_of i) (parts w)
parts_of-parts i w h e = same_parts (parts_of i) (parts w) (parts_of-Fit i) (parts-Fit w) (sym (word_of-joined i) ∙ (e ∙ sym (joined-parts w h)))
