-- Names tell operations apart, and no name has a space.
use Rattle.std.proofs.Common.{◌≡◌, ℕ, Bool, true, false, List, [], ◌∷◌, ◌++◌, Some, refl}
use Rattle.std.specs.Prelude.{if◌then◌else◌}
use Rattle.std.specs.Str.{bytes_eq}
use Rattle.std.proofs.lemmas.Slice.Eq.{bytes_eq-Decides}
use Rattle.rv_isa.specs.declared.operation.BranchCondition.TheVariants as branchconditions
use Rattle.rv_isa.specs.declared.operation.ImmediateOp.TheVariants as immediateops
use Rattle.rv_isa.specs.declared.operation.LoadOp.TheVariants as loadops
use Rattle.rv_isa.specs.declared.operation.RegisterOp.TheVariants as registerops
use Rattle.rv_isa.specs.declared.operation.RegisterWordOp.TheVariants as registerwordops
use Rattle.rv_isa.specs.declared.operation.ShiftOp.TheVariants as shiftops
use Rattle.rv_isa.specs.declared.operation.StoreOp.TheVariants as storeops
use Rattle.rv_isa.specs.declared.instr.Instr.{Instr}
use Rattle.rv_isa.specs.declared.instr.Instr.TheVariants as instructions
use Rattle.rv_listing.specs.declared.names.Operation.{Operation}
use Rattle.rv_listing.specs.declared.names.Operation.TheVariants as operations
use Rattle.rv_listing.specs.Texts.{name_of, instr_text}
use Rattle.rv_listing.specs.Assembly.{name_in}
use Rattle.rv_listing.specs.Reading.{operation_of, operation_name, operation_named, first_named}
use Rattle.rv_listing.specs.declared.names.TheConstants.{OPERATIONS}

-- the operation of a name is the one that has it
pub named_again : (o : Operation) → operation_named (operation_name o) ≡ Some o
named_again operations.Lui = refl
named_again operations.Auipc = refl
named_again operations.Jal = refl
named_again operations.Jalr = refl
named_again operations.Addiw = refl
named_again operations.Fence = refl
named_again operations.Ecall = refl
named_again operations.Ebreak = refl
named_again (operations.Branch branchconditions.Eq) = refl
named_again (operations.Branch branchconditions.Ne) = refl
named_again (operations.Branch branchconditions.Lt) = refl
named_again (operations.Branch branchconditions.Ge) = refl
named_again (operations.Branch branchconditions.Ltu) = refl
named_again (operations.Branch branchconditions.Geu) = refl
named_again (operations.Load loadops.Lb) = refl
named_again (operations.Load loadops.Lh) = refl
named_again (operations.Load loadops.Lw) = refl
named_again (operations.Load loadops.Ld) = refl
named_again (operations.Load loadops.Lbu) = refl
named_again (operations.Load loadops.Lhu) = refl
named_again (operations.Load loadops.Lwu) = refl
named_again (operations.Store storeops.Sb) = refl
named_again (operations.Store storeops.Sh) = refl
named_again (operations.Store storeops.Sw) = refl
named_again (operations.Store storeops.Sd) = refl
named_again (operations.RegisterImmediate immediateops.Addi) = refl
named_again (operations.RegisterImmediate immediateops.Slti) = refl
named_again (operations.RegisterImmediate immediateops.Sltiu) = refl
named_again (operations.RegisterImmediate immediateops.Xori) = refl
named_again (operations.RegisterImmediate immediateops.Ori) = refl
named_again (operations.RegisterImmediate immediateops.Andi) = refl
named_again (operations.Shift shiftops.Slli) = refl
named_again (operations.Shift shiftops.Srli) = refl
named_again (operations.Shift shiftops.Srai) = refl
named_again (operations.ShiftWord shiftops.Slli) = refl
named_again (operations.ShiftWord shiftops.Srli) = refl
named_again (operations.ShiftWord shiftops.Srai) = refl
named_again (operations.RegisterRegister registerops.Add) = refl
named_again (operations.RegisterRegister registerops.Sub) = refl
named_again (operations.RegisterRegister registerops.Sll) = refl
named_again (operations.RegisterRegister registerops.Slt) = refl
named_again (operations.RegisterRegister registerops.Sltu) = refl
named_again (operations.RegisterRegister registerops.Xor) = refl
named_again (operations.RegisterRegister registerops.Srl) = refl
named_again (operations.RegisterRegister registerops.Sra) = refl
named_again (operations.RegisterRegister registerops.Or) = refl
named_again (operations.RegisterRegister registerops.And) = refl
named_again (operations.RegisterRegister registerops.Mul) = refl
named_again (operations.RegisterRegister registerops.Mulh) = refl
named_again (operations.RegisterRegister registerops.Mulhsu) = refl
named_again (operations.RegisterRegister registerops.Mulhu) = refl
named_again (operations.RegisterRegister registerops.Div) = refl
named_again (operations.RegisterRegister registerops.Divu) = refl
named_again (operations.RegisterRegister registerops.Rem) = refl
named_again (operations.RegisterRegister registerops.Remu) = refl
named_again (operations.RegisterRegisterWord registerwordops.Addw) = refl
named_again (operations.RegisterRegisterWord registerwordops.Subw) = refl
named_again (operations.RegisterRegisterWord registerwordops.Sllw) = refl
named_again (operations.RegisterRegisterWord registerwordops.Srlw) = refl
named_again (operations.RegisterRegisterWord registerwordops.Sraw) = refl
named_again (operations.RegisterRegisterWord registerwordops.Mulw) = refl
named_again (operations.RegisterRegisterWord registerwordops.Divw) = refl
named_again (operations.RegisterRegisterWord registerwordops.Divuw) = refl
named_again (operations.RegisterRegisterWord registerwordops.Remw) = refl
named_again (operations.RegisterRegisterWord registerwordops.Remuw) = refl

-- a name ends before the first space
pub name_before_space : (o : Operation) (rest : List ℕ) → name_in (operation_name o ++ 32 ∷ rest) ≡ operation_name o
name_before_space operations.Lui rest = refl
name_before_space operations.Auipc rest = refl
name_before_space operations.Jal rest = refl
name_before_space operations.Jalr rest = refl
name_before_space operations.Addiw rest = refl
name_before_space operations.Fence rest = refl
name_before_space operations.Ecall rest = refl
name_before_space operations.Ebreak rest = refl
name_before_space (operations.Branch branchconditions.Eq) rest = refl
name_before_space (operations.Branch branchconditions.Ne) rest = refl
name_before_space (operations.Branch branchconditions.Lt) rest = refl
name_before_space (operations.Branch branchconditions.Ge) rest = refl
name_before_space (operations.Branch branchconditions.Ltu) rest = refl
name_before_space (operations.Branch branchconditions.Geu) rest = refl
name_before_space (operations.Load loadops.Lb) rest = refl
name_before_space (operations.Load loadops.Lh) rest = refl
name_before_space (operations.Load loadops.Lw) rest = refl
name_before_space (operations.Load loadops.Ld) rest = refl
name_before_space (operations.Load loadops.Lbu) rest = refl
name_before_space (operations.Load loadops.Lhu) rest = refl
name_before_space (operations.Load loadops.Lwu) rest = refl
name_before_space (operations.Store storeops.Sb) rest = refl
name_before_space (operations.Store storeops.Sh) rest = refl
name_before_space (operations.Store storeops.Sw) rest = refl
name_before_space (operations.Store storeops.Sd) rest = refl
name_before_space (operations.RegisterImmediate immediateops.Addi) rest = refl
name_before_space (operations.RegisterImmediate immediateops.Slti) rest = refl
name_before_space (operations.RegisterImmediate immediateops.Sltiu) rest = refl
name_before_space (operations.RegisterImmediate immediateops.Xori) rest = refl
name_before_space (operations.RegisterImmediate immediateops.Ori) rest = refl
name_before_space (operations.RegisterImmediate immediateops.Andi) rest = refl
name_before_space (operations.Shift shiftops.Slli) rest = refl
name_before_space (operations.Shift shiftops.Srli) rest = refl
name_before_space (operations.Shift shiftops.Srai) rest = refl
name_before_space (operations.ShiftWord shiftops.Slli) rest = refl
name_before_space (operations.ShiftWord shiftops.Srli) rest = refl
name_before_space (operations.ShiftWord shiftops.Srai) rest = refl
name_before_space (operations.RegisterRegister registerops.Add) rest = refl
name_before_space (operations.RegisterRegister registerops.Sub) rest = refl
name_before_space (operations.RegisterRegister registerops.Sll) rest = refl
name_before_space (operations.RegisterRegister registerops.Slt) rest = refl
name_before_space (operations.RegisterRegister registerops.Sltu) rest = refl
name_before_space (operations.RegisterRegister registerops.Xor) rest = refl
name_before_space (operations.RegisterRegister registerops.Srl) rest = refl
name_before_space (operations.RegisterRegister registerops.Sra) rest = refl
name_before_space (operations.RegisterRegister registerops.Or) rest = refl
name_before_space (operations.RegisterRegister registerops.And) rest = refl
name_before_space (operations.RegisterRegister registerops.Mul) rest = refl
name_before_space (operations.RegisterRegister registerops.Mulh) rest = refl
name_before_space (operations.RegisterRegister registerops.Mulhsu) rest = refl
name_before_space (operations.RegisterRegister registerops.Mulhu) rest = refl
name_before_space (operations.RegisterRegister registerops.Div) rest = refl
name_before_space (operations.RegisterRegister registerops.Divu) rest = refl
name_before_space (operations.RegisterRegister registerops.Rem) rest = refl
name_before_space (operations.RegisterRegister registerops.Remu) rest = refl
name_before_space (operations.RegisterRegisterWord registerwordops.Addw) rest = refl
name_before_space (operations.RegisterRegisterWord registerwordops.Subw) rest = refl
name_before_space (operations.RegisterRegisterWord registerwordops.Sllw) rest = refl
name_before_space (operations.RegisterRegisterWord registerwordops.Srlw) rest = refl
name_before_space (operations.RegisterRegisterWord registerwordops.Sraw) rest = refl
name_before_space (operations.RegisterRegisterWord registerwordops.Mulw) rest = refl
name_before_space (operations.RegisterRegisterWord registerwordops.Divw) rest = refl
name_before_space (operations.RegisterRegisterWord registerwordops.Divuw) rest = refl
name_before_space (operations.RegisterRegisterWord registerwordops.Remw) rest = refl
name_before_space (operations.RegisterRegisterWord registerwordops.Remuw) rest = refl

-- an instruction has the name of its operation
pub name_of_operation : (i : Instr) → name_of i ≡ operation_name (operation_of i)
name_of_operation (instructions.Lui a b) = refl
name_of_operation (instructions.Auipc a b) = refl
name_of_operation (instructions.Jal a b) = refl
name_of_operation (instructions.Jalr a b c) = refl
name_of_operation (instructions.Branch a b c d) = refl
name_of_operation (instructions.Load a b c d) = refl
name_of_operation (instructions.Store a b c d) = refl
name_of_operation (instructions.RegisterImmediate a b c d) = refl
name_of_operation (instructions.Shift a b c d) = refl
name_of_operation (instructions.Addiw a b c) = refl
name_of_operation (instructions.ShiftWord a b c d) = refl
name_of_operation (instructions.RegisterRegister a b c d) = refl
name_of_operation (instructions.RegisterRegisterWord a b c d) = refl
name_of_operation (instructions.Fence a b c) = refl
name_of_operation instructions.Ecall = refl
name_of_operation instructions.Ebreak = refl

-- the text of an instruction begins with its name
pub name_in_text : (i : Instr) → name_in (instr_text i) ≡ name_of i
name_in_text (instructions.Lui a b) = refl
name_in_text (instructions.Auipc a b) = refl
name_in_text (instructions.Jal a b) = refl
name_in_text (instructions.Jalr a b c) = refl
name_in_text (instructions.Branch a b c d) = name_before_space (operations.Branch a) _
name_in_text (instructions.Load a b c d) = name_before_space (operations.Load a) _
name_in_text (instructions.Store a b c d) = name_before_space (operations.Store a) _
name_in_text (instructions.RegisterImmediate a b c d) = name_before_space (operations.RegisterImmediate a) _
name_in_text (instructions.Shift a b c d) = name_before_space (operations.Shift a) _
name_in_text (instructions.Addiw a b c) = refl
name_in_text (instructions.ShiftWord a b c d) = name_before_space (operations.ShiftWord a) _
name_in_text (instructions.RegisterRegister a b c d) = name_before_space (operations.RegisterRegister a) _
name_in_text (instructions.RegisterRegisterWord a b c d) = name_before_space (operations.RegisterRegisterWord a) _
name_in_text (instructions.Fence a b c) = refl
name_in_text instructions.Ecall = refl
name_in_text instructions.Ebreak = refl

-- what is found by a name has it
first_has_name : (os : List Operation) (name : List ℕ) (o : Operation) → first_named os name ≡ Some o → operation_name o ≡ name
first_has_name [] name o e = absurd cc
first_has_name (p ∷ os) name o e =
    let P : Bool → Type 0 = λ v. ((v ≡ true) → operation_name p ≡ name) → (if v then Some p else first_named os name) ≡ Some o → operation_name o ≡ name in
    let both : P (bytes_eq (operation_name p) name) = elim (bytes_eq (operation_name p) name) as P [
      | true ↦ λ (h : (true ≡ true) → operation_name p ≡ name) (same : Some p ≡ Some o). let is = h refl in cc
      | false ↦ λ (h : (false ≡ true) → operation_name p ≡ name) (same : first_named os name ≡ Some o). first_has_name os name o same
    ] in
    both (bytes_eq-Decides (operation_name p) name).0 e

pub named_has_name : (name : List ℕ) (o : Operation) → operation_named name ≡ Some o → operation_name o ≡ name
named_has_name name o e = first_has_name OPERATIONS name o e
