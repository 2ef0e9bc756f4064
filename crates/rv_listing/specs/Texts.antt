-- The texts of instructions: a name in lower case, a space, and operands with a comma and a space between. A register
-- is `x` and its number. Immediates and offsets are decimal numbers with a minus where they are negative, as the
-- manual's assembler listings write them: RISC-V Unprivileged ISA, chapter "RISC-V Assembly Programmer's Handbook".
use Rattle.std.specs.Prelude.{◌≡◌, ℕ, ◌+◌, ◌-◌, ◌/◌, ◌%◌, ◌^◌, ℤ, pos, negsuc, nat_lt}
use Rattle.std.specs.Prelude.{if◌then◌else◌, List, [], ◌∷◌, ◌++◌, codes, decimal, Option, Some, None}
use Rattle.std.specs.Fmt.{signed_decimal}
use Rattle.rv_isa.specs.Finds.{Finds}
use Rattle.rv_isa.specs.Table.{word_of}
use Rattle.rv_isa.specs.declared.operand.Register.{Register}
use Rattle.rv_isa.specs.declared.operand.FenceFields.{FenceFields}
use Rattle.rv_isa.specs.declared.operation.BranchCondition.{BranchCondition}
use Rattle.rv_isa.specs.declared.operation.BranchCondition.TheVariants.{Eq, Ne, Lt, Ge, Ltu, Geu}
use Rattle.rv_isa.specs.declared.operation.LoadOp.{LoadOp}
use Rattle.rv_isa.specs.declared.operation.LoadOp.TheVariants.{Lb, Lh, Lw, Ld, Lbu, Lhu, Lwu}
use Rattle.rv_isa.specs.declared.operation.StoreOp.{StoreOp}
use Rattle.rv_isa.specs.declared.operation.StoreOp.TheVariants.{Sb, Sh, Sw, Sd}
use Rattle.rv_isa.specs.declared.operation.ImmediateOp.{ImmediateOp}
use Rattle.rv_isa.specs.declared.operation.ImmediateOp.TheVariants.{Addi, Slti, Sltiu, Xori, Ori, Andi}
use Rattle.rv_isa.specs.declared.operation.ShiftOp.{ShiftOp}
use Rattle.rv_isa.specs.declared.operation.ShiftOp.TheVariants.{Slli, Srli, Srai}
use Rattle.rv_isa.specs.declared.operation.RegisterOp.{RegisterOp}
use Rattle.rv_isa.specs.declared.operation.RegisterOp.TheVariants.{Add, Sub, Sll, Slt, Sltu, Xor, Srl, Sra, Or}
use Rattle.rv_isa.specs.declared.operation.RegisterOp.TheVariants.{And, Mul, Mulh, Mulhsu, Mulhu, Div, Divu}
use Rattle.rv_isa.specs.declared.operation.RegisterOp.TheVariants.{Rem, Remu}
use Rattle.rv_isa.specs.declared.operation.RegisterWordOp.{RegisterWordOp}
use Rattle.rv_isa.specs.declared.operation.RegisterWordOp.TheVariants.{Addw, Subw, Sllw, Srlw, Sraw, Mulw, Divw}
use Rattle.rv_isa.specs.declared.operation.RegisterWordOp.TheVariants.{Divuw, Remw, Remuw}
use Rattle.rv_isa.specs.declared.instr.Instr.{Instr}
use Rattle.rv_isa.specs.declared.instr.Instr.TheVariants.{Lui, Auipc, Jal, Jalr, Branch, Load, Store}
use Rattle.rv_isa.specs.declared.instr.Instr.TheVariants.{RegisterImmediate, Shift, Addiw, ShiftWord}
use Rattle.rv_isa.specs.declared.instr.Instr.TheVariants.{RegisterRegister, RegisterRegisterWord, Fence, Ecall}
use Rattle.rv_isa.specs.declared.instr.Instr.TheVariants.{Ebreak}

abbrev pub branch_name : BranchCondition → List ℕ
branch_name Eq = codes "beq"
branch_name Ne = codes "bne"
branch_name Lt = codes "blt"
branch_name Ge = codes "bge"
branch_name Ltu = codes "bltu"
branch_name Geu = codes "bgeu"

abbrev pub load_name : LoadOp → List ℕ
load_name Lb = codes "lb"
load_name Lh = codes "lh"
load_name Lw = codes "lw"
load_name Ld = codes "ld"
load_name Lbu = codes "lbu"
load_name Lhu = codes "lhu"
load_name Lwu = codes "lwu"

abbrev pub store_name : StoreOp → List ℕ
store_name Sb = codes "sb"
store_name Sh = codes "sh"
store_name Sw = codes "sw"
store_name Sd = codes "sd"

abbrev pub immediate_name : ImmediateOp → List ℕ
immediate_name Addi = codes "addi"
immediate_name Slti = codes "slti"
immediate_name Sltiu = codes "sltiu"
immediate_name Xori = codes "xori"
immediate_name Ori = codes "ori"
immediate_name Andi = codes "andi"

abbrev pub shift_name : ShiftOp → List ℕ
shift_name Slli = codes "slli"
shift_name Srli = codes "srli"
shift_name Srai = codes "srai"

abbrev pub shift_word_name : ShiftOp → List ℕ
shift_word_name Slli = codes "slliw"
shift_word_name Srli = codes "srliw"
shift_word_name Srai = codes "sraiw"

abbrev pub register_name : RegisterOp → List ℕ
register_name Add = codes "add"
register_name Sub = codes "sub"
register_name Sll = codes "sll"
register_name Slt = codes "slt"
register_name Sltu = codes "sltu"
register_name Xor = codes "xor"
register_name Srl = codes "srl"
register_name Sra = codes "sra"
register_name Or = codes "or"
register_name And = codes "and"
register_name Mul = codes "mul"
register_name Mulh = codes "mulh"
register_name Mulhsu = codes "mulhsu"
register_name Mulhu = codes "mulhu"
register_name Div = codes "div"
register_name Divu = codes "divu"
register_name Rem = codes "rem"
register_name Remu = codes "remu"

abbrev pub register_word_name : RegisterWordOp → List ℕ
register_word_name Addw = codes "addw"
register_word_name Subw = codes "subw"
register_word_name Sllw = codes "sllw"
register_word_name Srlw = codes "srlw"
register_word_name Sraw = codes "sraw"
register_word_name Mulw = codes "mulw"
register_word_name Divw = codes "divw"
register_word_name Divuw = codes "divuw"
register_word_name Remw = codes "remw"
register_word_name Remuw = codes "remuw"

abbrev pub name_of : Instr → List ℕ
name_of (Lui rd imm) = codes "lui"
name_of (Auipc rd imm) = codes "auipc"
name_of (Jal rd offset) = codes "jal"
name_of (Jalr rd rs1 offset) = codes "jalr"
name_of (Branch condition rs1 rs2 offset) = branch_name condition
name_of (Load op rd rs1 offset) = load_name op
name_of (Store op rs1 rs2 offset) = store_name op
name_of (RegisterImmediate op rd rs1 imm) = immediate_name op
name_of (Shift op rd rs1 count) = shift_name op
name_of (Addiw rd rs1 imm) = codes "addiw"
name_of (ShiftWord op rd rs1 count) = shift_word_name op
name_of (RegisterRegister op rd rs1 rs2) = register_name op
name_of (RegisterRegisterWord op rd rs1 rs2) = register_word_name op
name_of (Fence rd rs1 fields) = codes "fence"
name_of Ecall = codes "ecall"
name_of Ebreak = codes "ebreak"

-- a register, with its number from 0 to 31
abbrev pub register_text : Register → List ℕ
register_text a = codes "x" ++ decimal a.number

-- the upper twelve bits of FENCE as the signed number that they stand for in the place of an immediate
abbrev pub fence_value : FenceFields → ℤ
fence_value fields = if nat_lt fields.bits 2048 then pos fields.bits else negsuc (4095 - fields.bits)

-- one register and a number
abbrev pub one_register : Register → List ℕ → List ℕ
one_register a number = codes " " ++ (register_text a ++ (codes ", " ++ number))

-- two registers and a number, or a third register
abbrev pub two_registers : Register → Register → List ℕ → List ℕ
two_registers a b last = codes " " ++ (register_text a ++ (codes ", " ++ (register_text b ++ (codes ", " ++ last))))

-- a register, and an address as an offset from a register
abbrev pub based : Register → ℤ → Register → List ℕ
based a offset base =
    codes " "
    ++ (register_text a
    ++ (codes ", " ++ (signed_decimal offset ++ (codes "(" ++ (register_text base ++ codes ")")))))

-- the operands, with the space before the first
abbrev pub operands_of : Instr → List ℕ
operands_of (Lui rd imm) = one_register rd (decimal imm.value)
operands_of (Auipc rd imm) = one_register rd (decimal imm.value)
operands_of (Jal rd offset) = one_register rd (signed_decimal offset.bytes)
operands_of (Jalr rd rs1 offset) = based rd offset.value rs1
operands_of (Branch condition rs1 rs2 offset) = two_registers rs1 rs2 (signed_decimal offset.bytes)
operands_of (Load op rd rs1 offset) = based rd offset.value rs1
operands_of (Store op rs1 rs2 offset) = based rs2 offset.value rs1
operands_of (RegisterImmediate op rd rs1 imm) = two_registers rd rs1 (signed_decimal imm.value)
operands_of (Shift op rd rs1 count) = two_registers rd rs1 (decimal count.count)
operands_of (Addiw rd rs1 imm) = two_registers rd rs1 (signed_decimal imm.value)
operands_of (ShiftWord op rd rs1 count) = two_registers rd rs1 (decimal count.count)
operands_of (RegisterRegister op rd rs1 rs2) = two_registers rd rs1 (register_text rs2)
operands_of (RegisterRegisterWord op rd rs1 rs2) = two_registers rd rs1 (register_text rs2)
operands_of (Fence rd rs1 fields) = two_registers rd rs1 (signed_decimal (fence_value fields))
operands_of Ecall = []
operands_of Ebreak = []

abbrev pub instr_text : Instr → List ℕ
instr_text i = name_of i ++ operands_of i

-- a hexadecimal digit in lower case, from `0` or from `a` on
abbrev pub hex_digit : ℕ → ℕ
hex_digit digit = if nat_lt digit 10 then 48 + digit else 87 + digit

-- the low 32 bits of a number in eight hexadecimal digits
unfoldable pub hex8 : ℕ → List ℕ
hex8 w =
    hex_digit (w / 2 ^ 28 % 16) ∷ hex_digit (w / 2 ^ 24 % 16) ∷ hex_digit (w / 2 ^ 20 % 16)
    ∷ hex_digit (w / 2 ^ 16 % 16) ∷ hex_digit (w / 2 ^ 12 % 16) ∷ hex_digit (w / 2 ^ 8 % 16)
    ∷ hex_digit (w / 2 ^ 4 % 16) ∷ hex_digit (w % 16) ∷ []

-- the text of a word: that of its instruction, or, where it is none, the word itself
abbrev pub text_in : ℕ → Option Instr → List ℕ
text_in w (Some i) = instr_text i
text_in w None = codes "word 0x" ++ hex8 w

-- the text of a word, by the table of instructions
abbrev pub IsWordText : ℕ → List ℕ → Type 0
IsWordText w text = (found : Option Instr) × Finds word_of w found × (text ≡ text_in w found)
