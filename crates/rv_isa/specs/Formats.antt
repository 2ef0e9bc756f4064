-- The instruction formats of RISC-V, as sums of fields times powers of two. RISC-V Unprivileged ISA, chapter "RV32I",
-- sections "Base Instruction Formats" and "Immediate Encoding Variants". The arguments stand as in the manual's figures, from
-- the word's high bits to its low bits. An immediate is given as its bits.
use Rattle.std.specs.Prelude.{ℕ, suc, ◌+◌, ◌-◌, ◌*◌, ◌/◌, ◌%◌, ◌^◌, ℤ, pos, negsuc}

-- imm[high:low], the bits of a number from high down to low
abbrev pub bits : ℕ → ℕ → ℕ → ℕ
bits high low n = n / 2 ^ low % 2 ^ (high + 1 - low)

-- The two's complement of a number in so many bits: the number, or, where it is negative, 2 ^ size more. `negsuc n` is
-- -(n + 1). The operands' ranges keep it below 2 ^ size.
abbrev pub twos_complement : ℕ → ℤ → ℕ
twos_complement size (pos n) = n
twos_complement size (negsuc n) = 2 ^ size - suc n

abbrev pub r_type : (funct7 rs2 rs1 funct3 rd opcode : ℕ) → ℕ
r_type funct7 rs2 rs1 funct3 rd opcode =
    funct7 * 2 ^ 25 + rs2 * 2 ^ 20 + rs1 * 2 ^ 15 + funct3 * 2 ^ 12 + rd * 2 ^ 7 + opcode

-- imm[11:0] is one field
abbrev pub i_type : (imm rs1 funct3 rd opcode : ℕ) → ℕ
i_type imm rs1 funct3 rd opcode =
    imm * 2 ^ 20 + rs1 * 2 ^ 15 + funct3 * 2 ^ 12 + rd * 2 ^ 7 + opcode

abbrev pub s_type : (imm rs2 rs1 funct3 opcode : ℕ) → ℕ
s_type imm rs2 rs1 funct3 opcode =
    bits 11 5 imm * 2 ^ 25 + rs2 * 2 ^ 20 + rs1 * 2 ^ 15 + funct3 * 2 ^ 12 + bits 4 0 imm * 2 ^ 7 + opcode

-- imm[0] is 0, and has no field
abbrev pub b_type : (imm rs2 rs1 funct3 opcode : ℕ) → ℕ
b_type imm rs2 rs1 funct3 opcode =
    bits 12 12 imm * 2 ^ 31 + bits 10 5 imm * 2 ^ 25 + rs2 * 2 ^ 20 + rs1 * 2 ^ 15
    + funct3 * 2 ^ 12 + bits 4 1 imm * 2 ^ 8 + bits 11 11 imm * 2 ^ 7 + opcode

-- imm[31:12] is one field, and here the immediate is this field alone
abbrev pub u_type : (imm rd opcode : ℕ) → ℕ
u_type imm rd opcode = imm * 2 ^ 12 + rd * 2 ^ 7 + opcode

-- imm[0] is 0, and has no field
abbrev pub j_type : (imm rd opcode : ℕ) → ℕ
j_type imm rd opcode =
    bits 20 20 imm * 2 ^ 31 + bits 10 1 imm * 2 ^ 21 + bits 11 11 imm * 2 ^ 20 + bits 19 12 imm * 2 ^ 12 + rd * 2 ^ 7 + opcode
