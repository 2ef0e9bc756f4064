-- What the numbers of operands give is the instruction that has them.
use Rattle.std.proofs.Common.{◌≡◌, ap}
use Rattle.rv_isa.specs.declared.operation.BranchCondition.{BranchCondition}
use Rattle.rv_isa.specs.declared.operation.LoadOp.{LoadOp}
use Rattle.rv_isa.specs.declared.operation.StoreOp.{StoreOp}
use Rattle.rv_isa.specs.declared.operation.ImmediateOp.{ImmediateOp}
use Rattle.rv_isa.specs.declared.operation.ShiftOp.{ShiftOp}
use Rattle.rv_isa.specs.declared.operation.RegisterOp.{RegisterOp}
use Rattle.rv_isa.specs.declared.operation.RegisterWordOp.{RegisterWordOp}
use Rattle.rv_isa.specs.declared.operand.Register.{Register}
use Rattle.rv_isa.specs.declared.operand.Immediate.{Immediate}
use Rattle.rv_isa.specs.declared.operand.UpperImmediate.{UpperImmediate}
use Rattle.rv_isa.specs.declared.operand.BranchOffset.{BranchOffset}
use Rattle.rv_isa.specs.declared.operand.JumpOffset.{JumpOffset}
use Rattle.rv_isa.specs.declared.operand.ShiftCount.{ShiftCount}
use Rattle.rv_isa.specs.declared.operand.WordShiftCount.{WordShiftCount}
use Rattle.rv_isa.specs.declared.operand.FenceFields.{FenceFields}
use Rattle.rv_isa.specs.declared.instr.Instr.{Instr}
use Rattle.rv_isa.specs.declared.instr.Instr.TheVariants.{Lui, Auipc, Jal, Jalr, Branch, Load, Store, RegisterImmediate, Shift, Addiw}
use Rattle.rv_isa.specs.declared.instr.Instr.TheVariants.{ShiftWord, RegisterRegister, RegisterRegisterWord, Fence}
use Rattle.rv_listing.specs.declared.names.Operation.TheVariants as operations
use Rattle.rv_listing.specs.declared.scan.Number.{Number}
use Rattle.rv_listing.specs.declared.scan.Scan.{Scan}
use Rattle.rv_listing.specs.Texts.{fence_value}
use Rattle.rv_listing.specs.Reading.{operation_of, number_of, Fills}

pub lui : (s : Scan) (rd : Register) (imm : UpperImmediate) (i : Instr)
    → ((a : Register) → s.second.size ≡ a.number → rd ≡ a)
    → ((a : UpperImmediate) → s.third.size ≡ a.value → imm ≡ a)
    → operation_of i ≡ operations.Lui → Fills i s → Lui rd imm ≡ i
lui s rd imm (Lui rd' imm') is-rd is-imm same fills =
    cc (is-rd rd' (ap (λ (n : Number). n.size) fills.0), is-imm imm' (ap (λ (n : Number). n.size) fills.1))
lui s rd imm _ is-rd is-imm same fills = absurd cc

pub auipc : (s : Scan) (rd : Register) (imm : UpperImmediate) (i : Instr)
    → ((a : Register) → s.second.size ≡ a.number → rd ≡ a)
    → ((a : UpperImmediate) → s.third.size ≡ a.value → imm ≡ a)
    → operation_of i ≡ operations.Auipc → Fills i s → Auipc rd imm ≡ i
auipc s rd imm (Auipc rd' imm') is-rd is-imm same fills =
    cc (is-rd rd' (ap (λ (n : Number). n.size) fills.0), is-imm imm' (ap (λ (n : Number). n.size) fills.1))
auipc s rd imm _ is-rd is-imm same fills = absurd cc

pub jal : (s : Scan) (rd : Register) (offset : JumpOffset) (i : Instr)
    → ((a : Register) → s.second.size ≡ a.number → rd ≡ a)
    → ((a : JumpOffset) → s.third ≡ number_of a.bytes → offset ≡ a)
    → operation_of i ≡ operations.Jal → Fills i s → Jal rd offset ≡ i
jal s rd offset (Jal rd' offset') is-rd is-offset same fills =
    cc (is-rd rd' (ap (λ (n : Number). n.size) fills.0), is-offset offset' fills.1)
jal s rd offset _ is-rd is-offset same fills = absurd cc

pub jalr : (s : Scan) (rd : Register) (rs1 : Register) (offset : Immediate) (i : Instr)
    → ((a : Register) → s.first.size ≡ a.number → rd ≡ a)
    → ((a : Register) → s.third.size ≡ a.number → rs1 ≡ a)
    → ((a : Immediate) → s.second ≡ number_of a.value → offset ≡ a)
    → operation_of i ≡ operations.Jalr → Fills i s → Jalr rd rs1 offset ≡ i
jalr s rd rs1 offset (Jalr rd' rs1' offset') is-rd is-rs1 is-offset same fills =
    cc (is-rd rd' (ap (λ (n : Number). n.size) fills.0), is-rs1 rs1' (ap (λ (n : Number). n.size) fills.2), is-offset offset' fills.1)
jalr s rd rs1 offset _ is-rd is-rs1 is-offset same fills = absurd cc

pub branch : (s : Scan) (op : BranchCondition) (rs1 : Register) (rs2 : Register) (offset : BranchOffset) (i : Instr)
    → ((a : Register) → s.first.size ≡ a.number → rs1 ≡ a)
    → ((a : Register) → s.second.size ≡ a.number → rs2 ≡ a)
    → ((a : BranchOffset) → s.third ≡ number_of a.bytes → offset ≡ a)
    → operation_of i ≡ (operations.Branch op) → Fills i s → Branch op rs1 rs2 offset ≡ i
branch s op rs1 rs2 offset (Branch op' rs1' rs2' offset') is-rs1 is-rs2 is-offset same fills =
    cc (same, is-rs1 rs1' (ap (λ (n : Number). n.size) fills.0), is-rs2 rs2' (ap (λ (n : Number). n.size) fills.1), is-offset offset' fills.2)
branch s op rs1 rs2 offset _ is-rs1 is-rs2 is-offset same fills = absurd cc

pub load : (s : Scan) (op : LoadOp) (rd : Register) (rs1 : Register) (offset : Immediate) (i : Instr)
    → ((a : Register) → s.first.size ≡ a.number → rd ≡ a)
    → ((a : Register) → s.third.size ≡ a.number → rs1 ≡ a)
    → ((a : Immediate) → s.second ≡ number_of a.value → offset ≡ a)
    → operation_of i ≡ (operations.Load op) → Fills i s → Load op rd rs1 offset ≡ i
load s op rd rs1 offset (Load op' rd' rs1' offset') is-rd is-rs1 is-offset same fills =
    cc (same, is-rd rd' (ap (λ (n : Number). n.size) fills.0), is-rs1 rs1' (ap (λ (n : Number). n.size) fills.2), is-offset offset' fills.1)
load s op rd rs1 offset _ is-rd is-rs1 is-offset same fills = absurd cc

pub store : (s : Scan) (op : StoreOp) (rs1 : Register) (rs2 : Register) (offset : Immediate) (i : Instr)
    → ((a : Register) → s.third.size ≡ a.number → rs1 ≡ a)
    → ((a : Register) → s.first.size ≡ a.number → rs2 ≡ a)
    → ((a : Immediate) → s.second ≡ number_of a.value → offset ≡ a)
    → operation_of i ≡ (operations.Store op) → Fills i s → Store op rs1 rs2 offset ≡ i
store s op rs1 rs2 offset (Store op' rs1' rs2' offset') is-rs1 is-rs2 is-offset same fills =
    cc (same, is-rs1 rs1' (ap (λ (n : Number). n.size) fills.2), is-rs2 rs2' (ap (λ (n : Number). n.size) fills.0), is-offset offset' fills.1)
store s op rs1 rs2 offset _ is-rs1 is-rs2 is-offset same fills = absurd cc

pub register_immediate : (s : Scan) (op : ImmediateOp) (rd : Register) (rs1 : Register) (imm : Immediate) (i : Instr)
    → ((a : Register) → s.first.size ≡ a.number → rd ≡ a)
    → ((a : Register) → s.second.size ≡ a.number → rs1 ≡ a)
    → ((a : Immediate) → s.third ≡ number_of a.value → imm ≡ a)
    → operation_of i ≡ (operations.RegisterImmediate op) → Fills i s → RegisterImmediate op rd rs1 imm ≡ i
register_immediate s op rd rs1 imm (RegisterImmediate op' rd' rs1' imm') is-rd is-rs1 is-imm same fills =
    cc (same, is-rd rd' (ap (λ (n : Number). n.size) fills.0), is-rs1 rs1' (ap (λ (n : Number). n.size) fills.1), is-imm imm' fills.2)
register_immediate s op rd rs1 imm _ is-rd is-rs1 is-imm same fills = absurd cc

pub shift : (s : Scan) (op : ShiftOp) (rd : Register) (rs1 : Register) (count : ShiftCount) (i : Instr)
    → ((a : Register) → s.first.size ≡ a.number → rd ≡ a)
    → ((a : Register) → s.second.size ≡ a.number → rs1 ≡ a)
    → ((a : ShiftCount) → s.third.size ≡ a.count → count ≡ a)
    → operation_of i ≡ (operations.Shift op) → Fills i s → Shift op rd rs1 count ≡ i
shift s op rd rs1 count (Shift op' rd' rs1' count') is-rd is-rs1 is-count same fills =
    cc (same, is-rd rd' (ap (λ (n : Number). n.size) fills.0), is-rs1 rs1' (ap (λ (n : Number). n.size) fills.1), is-count count' (ap (λ (n : Number). n.size) fills.2))
shift s op rd rs1 count _ is-rd is-rs1 is-count same fills = absurd cc

pub addiw : (s : Scan) (rd : Register) (rs1 : Register) (imm : Immediate) (i : Instr)
    → ((a : Register) → s.first.size ≡ a.number → rd ≡ a)
    → ((a : Register) → s.second.size ≡ a.number → rs1 ≡ a)
    → ((a : Immediate) → s.third ≡ number_of a.value → imm ≡ a)
    → operation_of i ≡ operations.Addiw → Fills i s → Addiw rd rs1 imm ≡ i
addiw s rd rs1 imm (Addiw rd' rs1' imm') is-rd is-rs1 is-imm same fills =
    cc (is-rd rd' (ap (λ (n : Number). n.size) fills.0), is-rs1 rs1' (ap (λ (n : Number). n.size) fills.1), is-imm imm' fills.2)
addiw s rd rs1 imm _ is-rd is-rs1 is-imm same fills = absurd cc

pub shift_word : (s : Scan) (op : ShiftOp) (rd : Register) (rs1 : Register) (count : WordShiftCount) (i : Instr)
    → ((a : Register) → s.first.size ≡ a.number → rd ≡ a)
    → ((a : Register) → s.second.size ≡ a.number → rs1 ≡ a)
    → ((a : WordShiftCount) → s.third.size ≡ a.count → count ≡ a)
    → operation_of i ≡ (operations.ShiftWord op) → Fills i s → ShiftWord op rd rs1 count ≡ i
shift_word s op rd rs1 count (ShiftWord op' rd' rs1' count') is-rd is-rs1 is-count same fills =
    cc (same, is-rd rd' (ap (λ (n : Number). n.size) fills.0), is-rs1 rs1' (ap (λ (n : Number). n.size) fills.1), is-count count' (ap (λ (n : Number). n.size) fills.2))
shift_word s op rd rs1 count _ is-rd is-rs1 is-count same fills = absurd cc

pub register_register : (s : Scan) (op : RegisterOp) (rd : Register) (rs1 : Register) (rs2 : Register) (i : Instr)
    → ((a : Register) → s.first.size ≡ a.number → rd ≡ a)
    → ((a : Register) → s.second.size ≡ a.number → rs1 ≡ a)
    → ((a : Register) → s.third.size ≡ a.number → rs2 ≡ a)
    → operation_of i ≡ (operations.RegisterRegister op) → Fills i s → RegisterRegister op rd rs1 rs2 ≡ i
register_register s op rd rs1 rs2 (RegisterRegister op' rd' rs1' rs2') is-rd is-rs1 is-rs2 same fills =
    cc (same, is-rd rd' (ap (λ (n : Number). n.size) fills.0), is-rs1 rs1' (ap (λ (n : Number). n.size) fills.1), is-rs2 rs2' (ap (λ (n : Number). n.size) fills.2))
register_register s op rd rs1 rs2 _ is-rd is-rs1 is-rs2 same fills = absurd cc

pub register_register_word : (s : Scan) (op : RegisterWordOp) (rd : Register) (rs1 : Register) (rs2 : Register) (i : Instr)
    → ((a : Register) → s.first.size ≡ a.number → rd ≡ a)
    → ((a : Register) → s.second.size ≡ a.number → rs1 ≡ a)
    → ((a : Register) → s.third.size ≡ a.number → rs2 ≡ a)
    → operation_of i ≡ (operations.RegisterRegisterWord op) → Fills i s → RegisterRegisterWord op rd rs1 rs2 ≡ i
register_register_word s op rd rs1 rs2 (RegisterRegisterWord op' rd' rs1' rs2') is-rd is-rs1 is-rs2 same fills =
    cc (same, is-rd rd' (ap (λ (n : Number). n.size) fills.0), is-rs1 rs1' (ap (λ (n : Number). n.size) fills.1), is-rs2 rs2' (ap (λ (n : Number). n.size) fills.2))
register_register_word s op rd rs1 rs2 _ is-rd is-rs1 is-rs2 same fills = absurd cc

pub fence : (s : Scan) (rd : Register) (rs1 : Register) (fields : FenceFields) (i : Instr)
    → ((a : Register) → s.first.size ≡ a.number → rd ≡ a)
    → ((a : Register) → s.second.size ≡ a.number → rs1 ≡ a)
    → ((a : FenceFields) → s.third ≡ number_of (fence_value a) → fields ≡ a)
    → operation_of i ≡ operations.Fence → Fills i s → Fence rd rs1 fields ≡ i
fence s rd rs1 fields (Fence rd' rs1' fields') is-rd is-rs1 is-fields same fills =
    cc (is-rd rd' (ap (λ (n : Number). n.size) fills.0), is-rs1 rs1' (ap (λ (n : Number). n.size) fills.1), is-fields fields' fills.2)
fence s rd rs1 fields _ is-rd is-rs1 is-fields same fills = absurd cc
