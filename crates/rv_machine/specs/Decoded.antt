-- What contracts see of a decoded word.
use Rattle.std.specs.Prelude.{Option, Some, None}
use Rattle.rv_isa.specs.declared.instr.Instr.{Instr}
use Rattle.rv_isa.specs.declared.instr.Instr.TheVariants as instructions
use Rattle.rv_isa.specs.declared.operation.BranchCondition.TheVariants.{Eq, Ne}
use Rattle.rv_isa.specs.declared.operation.ImmediateOp.TheVariants.{Addi}
use Rattle.rv_isa.specs.declared.operation.LoadOp.TheVariants.{Lbu, Lw, Ld}
use Rattle.rv_isa.specs.declared.operation.RegisterOp.TheVariants as operations
use Rattle.rv_isa.specs.declared.operation.ShiftOp.TheVariants.{Slli}
use Rattle.rv_isa.specs.declared.operation.StoreOp.TheVariants.{Sb, Sw, Sd}
use Rattle.rv_machine.specs.declared.decoded.Decoded.{Decoded}
use Rattle.rv_machine.specs.declared.decoded.Decoded.TheVariants.{Illegal, LoadUpper, Jump, JumpRegister, BranchEqual, BranchNotEqual}
use Rattle.rv_machine.specs.declared.decoded.Decoded.TheVariants.{AddImmediate, ShiftLeft, Add, Subtract, Xor, Multiply, LoadByte, LoadWord}
use Rattle.rv_machine.specs.declared.decoded.Decoded.TheVariants.{LoadDouble, StoreByte, StoreWord, StoreDouble, AddUpper, Branch, Load}
use Rattle.rv_machine.specs.declared.decoded.Decoded.TheVariants.{Store, RegisterImmediate, Shift, AddImmediateWord, ShiftWord, Registers}
use Rattle.rv_machine.specs.declared.decoded.Decoded.TheVariants.{RegistersWord, Fence, Call, Break}

-- the instruction of a word, if it is one
abbrev pub found_of : Decoded → Option Instr
found_of Illegal = None
found_of (LoadUpper rd imm) = Some (instructions.Lui rd imm)
found_of (Jump rd offset) = Some (instructions.Jal rd offset)
found_of (JumpRegister rd rs1 offset) = Some (instructions.Jalr rd rs1 offset)
found_of (BranchEqual rs1 rs2 offset) = Some (instructions.Branch Eq rs1 rs2 offset)
found_of (BranchNotEqual rs1 rs2 offset) = Some (instructions.Branch Ne rs1 rs2 offset)
found_of (AddImmediate rd rs1 imm) = Some (instructions.RegisterImmediate Addi rd rs1 imm)
found_of (ShiftLeft rd rs1 count) = Some (instructions.Shift Slli rd rs1 count)
found_of (Add rd rs1 rs2) = Some (instructions.RegisterRegister operations.Add rd rs1 rs2)
found_of (Subtract rd rs1 rs2) = Some (instructions.RegisterRegister operations.Sub rd rs1 rs2)
found_of (Xor rd rs1 rs2) = Some (instructions.RegisterRegister operations.Xor rd rs1 rs2)
found_of (Multiply rd rs1 rs2) = Some (instructions.RegisterRegister operations.Mul rd rs1 rs2)
found_of (LoadByte rd rs1 offset) = Some (instructions.Load Lbu rd rs1 offset)
found_of (LoadWord rd rs1 offset) = Some (instructions.Load Lw rd rs1 offset)
found_of (LoadDouble rd rs1 offset) = Some (instructions.Load Ld rd rs1 offset)
found_of (StoreByte rs1 rs2 offset) = Some (instructions.Store Sb rs1 rs2 offset)
found_of (StoreWord rs1 rs2 offset) = Some (instructions.Store Sw rs1 rs2 offset)
found_of (StoreDouble rs1 rs2 offset) = Some (instructions.Store Sd rs1 rs2 offset)
found_of (AddUpper rd imm) = Some (instructions.Auipc rd imm)
found_of (Branch condition rs1 rs2 offset) = Some (instructions.Branch condition rs1 rs2 offset)
found_of (Load op rd rs1 offset) = Some (instructions.Load op rd rs1 offset)
found_of (Store op rs1 rs2 offset) = Some (instructions.Store op rs1 rs2 offset)
found_of (RegisterImmediate op rd rs1 imm) = Some (instructions.RegisterImmediate op rd rs1 imm)
found_of (Shift op rd rs1 count) = Some (instructions.Shift op rd rs1 count)
found_of (AddImmediateWord rd rs1 imm) = Some (instructions.Addiw rd rs1 imm)
found_of (ShiftWord op rd rs1 count) = Some (instructions.ShiftWord op rd rs1 count)
found_of (Registers op rd rs1 rs2) = Some (instructions.RegisterRegister op rd rs1 rs2)
found_of (RegistersWord op rd rs1 rs2) = Some (instructions.RegisterRegisterWord op rd rs1 rs2)
found_of (Fence rd rs1 fields) = Some (instructions.Fence rd rs1 fields)
found_of Call = Some instructions.Ecall
found_of Break = Some instructions.Ebreak
