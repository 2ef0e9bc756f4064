-- The fields that tell the operations of one opcode apart, in binary as in the manual's listing: RISC-V Unprivileged ISA,
-- chapter "RV32/64G Instruction Set Listings".
use Rattle.std.specs.Prelude.{ℕ}
use Rattle.rv_isa.specs.declared.operation.BranchCondition.{BranchCondition}
use Rattle.rv_isa.specs.declared.operation.BranchCondition.TheVariants.{Eq, Ne, Lt, Ge, Ltu, Geu}
use Rattle.rv_isa.specs.declared.operation.LoadOp.{LoadOp}
use Rattle.rv_isa.specs.declared.operation.LoadOp.TheVariants.{Lb, Lh, Lw, Ld, Lbu, Lhu, Lwu}
use Rattle.rv_isa.specs.declared.operation.StoreOp.{StoreOp}
use Rattle.rv_isa.specs.declared.operation.StoreOp.TheVariants.{Sb, Sh, Sw, Sd}
use Rattle.rv_isa.specs.declared.operation.ImmediateOp.{ImmediateOp}
use Rattle.rv_isa.specs.declared.operation.ImmediateOp.TheVariants.{Addi, Slti, Sltiu, Xori, Ori, Andi}
use Rattle.rv_isa.specs.declared.operation.ShiftOp.{ShiftOp}
use Rattle.rv_isa.specs.declared.operation.ShiftOp.TheVariants.{Slli, Srli, Srai}
use Rattle.rv_isa.specs.declared.operation.RegisterOp.{RegisterOp}
use Rattle.rv_isa.specs.declared.operation.RegisterOp.TheVariants.{Add, Sub, Sll, Slt, Sltu, Xor, Srl, Sra, Or, And, Mul, Mulh, Mulhsu}
use Rattle.rv_isa.specs.declared.operation.RegisterOp.TheVariants.{Mulhu, Div, Divu, Rem, Remu}
use Rattle.rv_isa.specs.declared.operation.RegisterWordOp.{RegisterWordOp}
use Rattle.rv_isa.specs.declared.operation.RegisterWordOp.TheVariants.{Addw, Subw, Sllw, Srlw, Sraw, Mulw, Divw, Divuw, Remw, Remuw}

abbrev pub branch_funct3 : BranchCondition → ℕ
branch_funct3 Eq = 0b000
branch_funct3 Ne = 0b001
branch_funct3 Lt = 0b100
branch_funct3 Ge = 0b101
branch_funct3 Ltu = 0b110
branch_funct3 Geu = 0b111

abbrev pub load_funct3 : LoadOp → ℕ
load_funct3 Lb = 0b000
load_funct3 Lh = 0b001
load_funct3 Lw = 0b010
load_funct3 Ld = 0b011
load_funct3 Lbu = 0b100
load_funct3 Lhu = 0b101
load_funct3 Lwu = 0b110

abbrev pub store_funct3 : StoreOp → ℕ
store_funct3 Sb = 0b000
store_funct3 Sh = 0b001
store_funct3 Sw = 0b010
store_funct3 Sd = 0b011

abbrev pub immediate_funct3 : ImmediateOp → ℕ
immediate_funct3 Addi = 0b000
immediate_funct3 Slti = 0b010
immediate_funct3 Sltiu = 0b011
immediate_funct3 Xori = 0b100
immediate_funct3 Ori = 0b110
immediate_funct3 Andi = 0b111

-- SLLI, SRLI and SRAI, and SLLIW, SRLIW and SRAIW
abbrev pub shift_funct3 : ShiftOp → ℕ
shift_funct3 Slli = 0b001
shift_funct3 Srli = 0b101
shift_funct3 Srai = 0b101

-- the six bits above the count of SLLI, SRLI and SRAI
abbrev pub shift_funct6 : ShiftOp → ℕ
shift_funct6 Slli = 0b000000
shift_funct6 Srli = 0b000000
shift_funct6 Srai = 0b010000

-- the seven bits above the count of SLLIW, SRLIW and SRAIW
abbrev pub shift_word_funct7 : ShiftOp → ℕ
shift_word_funct7 Slli = 0b0000000
shift_word_funct7 Srli = 0b0000000
shift_word_funct7 Srai = 0b0100000

abbrev pub register_funct7 : RegisterOp → ℕ
register_funct7 Add = 0b0000000
register_funct7 Sub = 0b0100000
register_funct7 Sll = 0b0000000
register_funct7 Slt = 0b0000000
register_funct7 Sltu = 0b0000000
register_funct7 Xor = 0b0000000
register_funct7 Srl = 0b0000000
register_funct7 Sra = 0b0100000
register_funct7 Or = 0b0000000
register_funct7 And = 0b0000000
register_funct7 Mul = 0b0000001
register_funct7 Mulh = 0b0000001
register_funct7 Mulhsu = 0b0000001
register_funct7 Mulhu = 0b0000001
register_funct7 Div = 0b0000001
register_funct7 Divu = 0b0000001
register_funct7 Rem = 0b0000001
register_funct7 Remu = 0b0000001

abbrev pub register_funct3 : RegisterOp → ℕ
register_funct3 Add = 0b000
register_funct3 Sub = 0b000
register_funct3 Sll = 0b001
register_funct3 Slt = 0b010
register_funct3 Sltu = 0b011
register_funct3 Xor = 0b100
register_funct3 Srl = 0b101
register_funct3 Sra = 0b101
register_funct3 Or = 0b110
register_funct3 And = 0b111
register_funct3 Mul = 0b000
register_funct3 Mulh = 0b001
register_funct3 Mulhsu = 0b010
register_funct3 Mulhu = 0b011
register_funct3 Div = 0b100
register_funct3 Divu = 0b101
register_funct3 Rem = 0b110
register_funct3 Remu = 0b111

abbrev pub register_word_funct7 : RegisterWordOp → ℕ
register_word_funct7 Addw = 0b0000000
register_word_funct7 Subw = 0b0100000
register_word_funct7 Sllw = 0b0000000
register_word_funct7 Srlw = 0b0000000
register_word_funct7 Sraw = 0b0100000
register_word_funct7 Mulw = 0b0000001
register_word_funct7 Divw = 0b0000001
register_word_funct7 Divuw = 0b0000001
register_word_funct7 Remw = 0b0000001
register_word_funct7 Remuw = 0b0000001

abbrev pub register_word_funct3 : RegisterWordOp → ℕ
register_word_funct3 Addw = 0b000
register_word_funct3 Subw = 0b000
register_word_funct3 Sllw = 0b001
register_word_funct3 Srlw = 0b101
register_word_funct3 Sraw = 0b101
register_word_funct3 Mulw = 0b000
register_word_funct3 Divw = 0b100
register_word_funct3 Divuw = 0b101
register_word_funct3 Remw = 0b110
register_word_funct3 Remuw = 0b111
