-- What each arm finds under the word is its instruction. In the first three arms the word of the operands that were read is the
-- word itself.
use Rattle.std.proofs.Common.{Some, arith}
use Rattle.rv_isa.specs.declared.instr.Instr.TheVariants.{Lui, Auipc, Jal}
use Rattle.rv_isa.proofs.Found.{found_some, found_none}
use Rattle.rv_isa.proofs.decoder.decode.Goals as goal

pub returns-in-55-clause-some : goal.returns-in-55-clause-some
returns-in-55-clause-some c = found_some c.args.w (Some (Lui c.rd.result c.upper_immediate.result)) (omega arith)

pub returns-in-55-clause-none : goal.returns-in-55-clause-none
returns-in-55-clause-none c = found_none c.args.w (Some (Lui c.rd.result c.upper_immediate.result)) (omega arith)

pub returns-in-23-clause-some : goal.returns-in-23-clause-some
returns-in-23-clause-some c = found_some c.args.w (Some (Auipc c.rd-in-23.result c.upper_immediate-in-23.result)) (omega arith)

pub returns-in-23-clause-none : goal.returns-in-23-clause-none
returns-in-23-clause-none c = found_none c.args.w (Some (Auipc c.rd-in-23.result c.upper_immediate-in-23.result)) (omega arith)

pub returns-in-111-clause-some : goal.returns-in-111-clause-some
returns-in-111-clause-some c = found_some c.args.w (Some (Jal c.rd-in-111.result c.jump_offset.result)) (omega arith)

pub returns-in-111-clause-none : goal.returns-in-111-clause-none
returns-in-111-clause-none c = found_none c.args.w (Some (Jal c.rd-in-111.result c.jump_offset.result)) (omega arith)

pub returns-in-103-clause-some : goal.returns-in-103-clause-some
returns-in-103-clause-some c = found_some c.args.w c.decode_jalr.result c.decode_jalr.ensures

pub returns-in-99-clause-some : goal.returns-in-99-clause-some
returns-in-99-clause-some c = found_some c.args.w c.decode_branch.result c.decode_branch.ensures

pub returns-in-3-clause-some : goal.returns-in-3-clause-some
returns-in-3-clause-some c = found_some c.args.w c.decode_load.result c.decode_load.ensures

pub returns-in-35-clause-some : goal.returns-in-35-clause-some
returns-in-35-clause-some c = found_some c.args.w c.decode_store.result c.decode_store.ensures

pub returns-in-19-clause-some : goal.returns-in-19-clause-some
returns-in-19-clause-some c = found_some c.args.w c.decode_op_imm.result c.decode_op_imm.ensures

pub returns-in-27-clause-some : goal.returns-in-27-clause-some
returns-in-27-clause-some c = found_some c.args.w c.decode_op_imm_32.result c.decode_op_imm_32.ensures

pub returns-in-51-clause-some : goal.returns-in-51-clause-some
returns-in-51-clause-some c = found_some c.args.w c.decode_op.result c.decode_op.ensures

pub returns-in-59-clause-some : goal.returns-in-59-clause-some
returns-in-59-clause-some c = found_some c.args.w c.decode_op_32.result c.decode_op_32.ensures

pub returns-in-15-clause-some : goal.returns-in-15-clause-some
returns-in-15-clause-some c = found_some c.args.w c.decode_misc_mem.result c.decode_misc_mem.ensures
