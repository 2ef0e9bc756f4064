-- Instructions with one word are the same.
use Rattle.std.proofs.Common.{◌≡◌, ℕ, ◌%◌, ◌<◌, sym, refl, arith}
use Rattle.rv_isa.specs.Formats.{bits, twos_complement}
use Rattle.rv_isa.specs.Rows.{immediate_funct3, shift_funct3}
use Rattle.rv_isa.specs.declared.operation.ImmediateOp.{ImmediateOp}
use Rattle.rv_isa.specs.declared.operation.ShiftOp.{ShiftOp}
use Rattle.rv_isa.specs.Table.{word_of}
use Rattle.rv_isa.specs.declared.instr.Instr.{Instr}
use Rattle.rv_isa.specs.declared.instr.Instr.TheVariants.{Lui, Auipc, Jal, Jalr, Branch, Load, Store, RegisterImmediate, Shift, Addiw}
use Rattle.rv_isa.specs.declared.instr.Instr.TheVariants.{ShiftWord, RegisterRegister, RegisterRegisterWord, Fence, Ecall, Ebreak}
use Rattle.rv_isa.proofs.Operands.{register_same, immediate_same, upper_immediate_same, branch_offset_same, jump_offset_same}
use Rattle.rv_isa.proofs.Operands.{shift_count_same, word_shift_count_same, fence_fields_same}
use Rattle.rv_isa.proofs.RowsApart.{branch_same, load_same, store_same, immediate_same as immediate_op_same, shift_same, shift_word_same}
use Rattle.rv_isa.proofs.RowsApart.{register_same as register_op_same, register_word_same}
use Rattle.rv_isa.proofs.Parts.{Same, parts_of, parts_of-same, jump_bits, branch_upper, branch_lower, store_upper, immediate_below}
use Rattle.rv_isa.proofs.Parts.{branch_offset_below, jump_offset_below}

-- The parts tell operands apart that share an upper part.
jump_bits_same : (m n : ℕ) → m < 2097152 → n < 2097152 → m % 2 ≡ 0 → n % 2 ≡ 0 → jump_bits m ≡ jump_bits n → m ≡ n
jump_bits_same m n ml nl me ne e = omega arith

branch_same_parts : (m n r s : ℕ) → m < 8192 → n < 8192 → m % 2 ≡ 0 → n % 2 ≡ 0 → r < 32 → s < 32 → branch_upper m r ≡ branch_upper n s → branch_lower m ≡ branch_lower n → (m ≡ n) × (r ≡ s)
branch_same_parts m n r s ml nl me ne rl sl u l = (omega arith, omega arith)

store_same_parts : (m n r s : ℕ) → m < 4096 → n < 4096 → r < 32 → s < 32 → store_upper m r ≡ store_upper n s → bits 4 0 m ≡ bits 4 0 n → (m ≡ n) × (r ≡ s)
store_same_parts m n r s ml nl rl sl u l = (omega arith, omega arith)

-- No operation of one opcode has the funct3 of another.
immediate_no_shift : (op : ImmediateOp) (shift : ShiftOp) → immediate_funct3 op ≡ shift_funct3 shift → ⊥
immediate_no_shift op shift e = grind arith

no_shift_at_zero : (op : ShiftOp) → shift_funct3 op ≡ 0 → ⊥
no_shift_at_zero op e = grind arith

-- Instructions with the same parts are the same. Where the opcodes differ there is nothing to show.
apart : (i j : Instr) → Same (parts_of i) (parts_of j) → i ≡ j
apart (Lui rd imm) (Lui rd' imm') s = cc (register_same rd rd' s.lower, upper_immediate_same imm imm' (omega (arith, s.upper, s.rs1, s.funct3)))
apart (Auipc rd imm) (Auipc rd' imm') s = cc (register_same rd rd' s.lower, upper_immediate_same imm imm' (omega (arith, s.upper, s.rs1, s.funct3)))
apart (Jal rd offset) (Jal rd' offset') s =
    let m = twos_complement 21 offset.bytes in
    let n = twos_complement 21 offset'.bytes in
    let a = jump_offset_below offset in
    let b = jump_offset_below offset' in
    let all : jump_bits m ≡ jump_bits n = omega (arith, s.upper, s.rs1, s.funct3) in
    cc (register_same rd rd' s.lower, jump_offset_same offset offset' (jump_bits_same m n a.0 b.0 a.1 b.1 all))
apart (Jalr rd rs1 offset) (Jalr rd' rs1' offset') s = cc (register_same rd rd' s.lower, register_same rs1 rs1' s.rs1, immediate_same offset offset' s.upper)
apart (Branch condition rs1 rs2 offset) (Branch condition' rs1' rs2' offset') s =
    let a = branch_offset_below offset in
    let b = branch_offset_below offset' in
    let both = branch_same_parts (twos_complement 13 offset.bytes) (twos_complement 13 offset'.bytes) rs2.number rs2'.number a.0 b.0 a.1 b.1 (omega arith) (omega arith) s.upper s.lower in
    cc (branch_same condition condition' s.funct3, register_same rs1 rs1' s.rs1, register_same rs2 rs2' both.1, branch_offset_same offset offset' both.0)
apart (Load op rd rs1 offset) (Load op' rd' rs1' offset') s = cc (load_same op op' s.funct3, register_same rd rd' s.lower, register_same rs1 rs1' s.rs1, immediate_same offset offset' s.upper)
apart (Store op rs1 rs2 offset) (Store op' rs1' rs2' offset') s =
    let both = store_same_parts (twos_complement 12 offset.value) (twos_complement 12 offset'.value) rs2.number rs2'.number (immediate_below offset) (immediate_below offset') (omega arith) (omega arith) s.upper s.lower in
    cc (store_same op op' s.funct3, register_same rs1 rs1' s.rs1, register_same rs2 rs2' both.1, immediate_same offset offset' both.0)
apart (RegisterImmediate op rd rs1 imm) (RegisterImmediate op' rd' rs1' imm') s = cc (immediate_op_same op op' s.funct3, register_same rd rd' s.lower, register_same rs1 rs1' s.rs1, immediate_same imm imm' s.upper)
apart (RegisterImmediate op rd rs1 imm) (Shift op' rd' rs1' count) s = absurd (immediate_no_shift op op' s.funct3)
apart (Shift op rd rs1 count) (RegisterImmediate op' rd' rs1' imm) s = absurd (immediate_no_shift op' op (sym s.funct3))
apart (Shift op rd rs1 count) (Shift op' rd' rs1' count') s =
    cc (shift_same op op' (omega (arith, s.upper)) s.funct3, register_same rd rd' s.lower, register_same rs1 rs1' s.rs1, shift_count_same count count' (omega (arith, s.upper)))
apart (Addiw rd rs1 imm) (Addiw rd' rs1' imm') s = cc (register_same rd rd' s.lower, register_same rs1 rs1' s.rs1, immediate_same imm imm' s.upper)
apart (Addiw rd rs1 imm) (ShiftWord op rd' rs1' count) s = absurd (no_shift_at_zero op (sym s.funct3))
apart (ShiftWord op rd rs1 count) (Addiw rd' rs1' imm) s = absurd (no_shift_at_zero op s.funct3)
apart (ShiftWord op rd rs1 count) (ShiftWord op' rd' rs1' count') s =
    cc (shift_word_same op op' (omega (arith, s.upper)) s.funct3, register_same rd rd' s.lower, register_same rs1 rs1' s.rs1, word_shift_count_same count count' (omega (arith, s.upper)))
apart (RegisterRegister op rd rs1 rs2) (RegisterRegister op' rd' rs1' rs2') s =
    cc (register_op_same op op' (omega (arith, s.upper)) s.funct3, register_same rd rd' s.lower, register_same rs1 rs1' s.rs1, register_same rs2 rs2' (omega (arith, s.upper)))
apart (RegisterRegisterWord op rd rs1 rs2) (RegisterRegisterWord op' rd' rs1' rs2') s =
    cc (register_word_same op op' (omega (arith, s.upper)) s.funct3, register_same rd rd' s.lower, register_same rs1 rs1' s.rs1, register_same rs2 rs2' (omega (arith, s.upper)))
apart (Fence rd rs1 fields) (Fence rd' rs1' fields') s = cc (register_same rd rd' s.lower, register_same rs1 rs1' s.rs1, fence_fields_same fields fields' s.upper)
apart Ecall Ecall s = refl
apart Ecall Ebreak s = absurd (omega (arith, s.upper))
apart Ebreak Ecall s = absurd (omega (arith, s.upper))
apart Ebreak Ebreak s = refl
apart _ _ s = absurd (omega (arith, s.opcode))

pub word_of-same : (i j : Instr) → word_of i ≡ word_of j → i ≡ j
word_of-same i j e = apart i j (parts_of-same i j e)
