-- The table of RV64IM: the word of each instruction, by its format and its row. RISC-V Unprivileged ISA, chapter "RV32/64G
-- Instruction Set Listings", the tables of RV32I, RV64I, RV32M and RV64M.
use Rattle.std.specs.Prelude.{ℕ, ◌+◌, ◌*◌, ◌^◌}
use Rattle.rv_isa.specs.Formats.{twos_complement, r_type, i_type, s_type, b_type, u_type, j_type}
use Rattle.rv_isa.specs.Rows.{branch_funct3, load_funct3, store_funct3, immediate_funct3, shift_funct3, shift_funct6, shift_word_funct7}
use Rattle.rv_isa.specs.Rows.{register_funct7, register_funct3, register_word_funct7, register_word_funct3}
use Rattle.rv_isa.specs.declared.instr.Instr.{Instr}
use Rattle.rv_isa.specs.declared.instr.Instr.TheVariants.{Lui, Auipc, Jal, Jalr, Branch, Load, Store, RegisterImmediate, Shift, Addiw}
use Rattle.rv_isa.specs.declared.instr.Instr.TheVariants.{ShiftWord, RegisterRegister, RegisterRegisterWord, Fence, Ecall, Ebreak}

-- An instruction's operands stand in the order of its declaration in `Instr`.
abbrev pub word_of : Instr → ℕ
word_of (Lui rd imm) = u_type imm.value rd.number 0b0110111
word_of (Auipc rd imm) = u_type imm.value rd.number 0b0010111
word_of (Jal rd offset) = j_type (twos_complement 21 offset.bytes) rd.number 0b1101111
word_of (Jalr rd rs1 offset) = i_type (twos_complement 12 offset.value) rs1.number 0b000 rd.number 0b1100111
word_of (Branch condition rs1 rs2 offset) =
    b_type (twos_complement 13 offset.bytes) rs2.number rs1.number (branch_funct3 condition) 0b1100011
word_of (Load op rd rs1 offset) =
    i_type (twos_complement 12 offset.value) rs1.number (load_funct3 op) rd.number 0b0000011
word_of (Store op rs1 rs2 offset) =
    s_type (twos_complement 12 offset.value) rs2.number rs1.number (store_funct3 op) 0b0100011
word_of (RegisterImmediate op rd rs1 imm) =
    i_type (twos_complement 12 imm.value) rs1.number (immediate_funct3 op) rd.number 0b0010011
-- imm[11:6] tells the shifts apart, and imm[5:0] is the count
word_of (Shift op rd rs1 count) =
    i_type (shift_funct6 op * 2 ^ 6 + count.count) rs1.number (shift_funct3 op) rd.number 0b0010011
word_of (Addiw rd rs1 imm) = i_type (twos_complement 12 imm.value) rs1.number 0b000 rd.number 0b0011011
-- the count stands in the place of rs2
word_of (ShiftWord op rd rs1 count) =
    r_type (shift_word_funct7 op) count.count rs1.number (shift_funct3 op) rd.number 0b0011011
word_of (RegisterRegister op rd rs1 rs2) =
    r_type (register_funct7 op) rs2.number rs1.number (register_funct3 op) rd.number 0b0110011
word_of (RegisterRegisterWord op rd rs1 rs2) =
    r_type (register_word_funct7 op) rs2.number rs1.number (register_word_funct3 op) rd.number 0b0111011
word_of (Fence rd rs1 fields) = i_type fields.bits rs1.number 0b000 rd.number 0b0001111
word_of Ecall = 0x00000073
word_of Ebreak = 0x00100073
