use Rattle.std.proofs.Common.{◌∙◌}
use Rattle.rv_listing.proofs.Filling.{lui, auipc, jal, jalr, branch, load, store, register_immediate}
use Rattle.rv_listing.proofs.Filling.{shift, addiw, shift_word, register_register, register_register_word, fence}
use Rattle.rv_listing.proofs.operands.filled.Goals as goal

pub returns-in-Lui-clause-filled : goal.returns-in-Lui-clause-filled
returns-in-Lui-clause-filled c i o fills =
    lui c.args.s c.register.result c.upper.result i c.register.ensures c.upper.ensures (o ∙ c.in-Lui.is) fills

pub returns-in-Auipc-clause-filled : goal.returns-in-Auipc-clause-filled
returns-in-Auipc-clause-filled c i o fills =
    auipc c.args.s c.register-in-Auipc.result c.upper-in-Auipc.result i c.register-in-Auipc.ensures c.upper-in-Auipc.ensures (o ∙ c.in-Auipc.is) fills

pub returns-in-Jal-clause-filled : goal.returns-in-Jal-clause-filled
returns-in-Jal-clause-filled c i o fills =
    jal c.args.s c.register-in-Jal.result c.jump_offset.result i c.register-in-Jal.ensures c.jump_offset.ensures (o ∙ c.in-Jal.is) fills

pub returns-in-Jalr-clause-filled : goal.returns-in-Jalr-clause-filled
returns-in-Jalr-clause-filled c i o fills =
    jalr c.args.s c.register-in-Jalr.result c.register-in-Jalr-2.result c.immediate.result i c.register-in-Jalr.ensures c.register-in-Jalr-2.ensures c.immediate.ensures (o ∙ c.in-Jalr.is) fills

pub returns-in-Branch-clause-filled : goal.returns-in-Branch-clause-filled
returns-in-Branch-clause-filled c i o fills =
    branch c.args.s c.in-Branch.condition c.register-in-Branch.result c.register-in-Branch-2.result c.branch_offset.result i c.register-in-Branch.ensures c.register-in-Branch-2.ensures c.branch_offset.ensures (o ∙ c.in-Branch.is) fills

pub returns-in-Load-clause-filled : goal.returns-in-Load-clause-filled
returns-in-Load-clause-filled c i o fills =
    load c.args.s c.in-Load.op c.register-in-Load.result c.register-in-Load-2.result c.immediate-in-Load.result i c.register-in-Load.ensures c.register-in-Load-2.ensures c.immediate-in-Load.ensures (o ∙ c.in-Load.is) fills

pub returns-in-Store-clause-filled : goal.returns-in-Store-clause-filled
returns-in-Store-clause-filled c i o fills =
    store c.args.s c.in-Store.op c.register-in-Store.result c.register-in-Store-2.result c.immediate-in-Store.result i c.register-in-Store.ensures c.register-in-Store-2.ensures c.immediate-in-Store.ensures (o ∙ c.in-Store.is) fills

pub returns-in-RegisterImmediate-clause-filled : goal.returns-in-RegisterImmediate-clause-filled
returns-in-RegisterImmediate-clause-filled c i o fills =
    register_immediate c.args.s c.in-RegisterImmediate.op c.register-in-RegisterImmediate.result c.register-in-RegisterImmediate-2.result c.immediate-in-RegisterImmediate.result i c.register-in-RegisterImmediate.ensures c.register-in-RegisterImmediate-2.ensures c.immediate-in-RegisterImmediate.ensures (o ∙ c.in-RegisterImmediate.is) fills

pub returns-in-Shift-clause-filled : goal.returns-in-Shift-clause-filled
returns-in-Shift-clause-filled c i o fills =
    shift c.args.s c.in-Shift.op c.register-in-Shift.result c.register-in-Shift-2.result c.shift_count.result i c.register-in-Shift.ensures c.register-in-Shift-2.ensures c.shift_count.ensures (o ∙ c.in-Shift.is) fills

pub returns-in-Addiw-clause-filled : goal.returns-in-Addiw-clause-filled
returns-in-Addiw-clause-filled c i o fills =
    addiw c.args.s c.register-in-Addiw.result c.register-in-Addiw-2.result c.immediate-in-Addiw.result i c.register-in-Addiw.ensures c.register-in-Addiw-2.ensures c.immediate-in-Addiw.ensures (o ∙ c.in-Addiw.is) fills

pub returns-in-ShiftWord-clause-filled : goal.returns-in-ShiftWord-clause-filled
returns-in-ShiftWord-clause-filled c i o fills =
    shift_word c.args.s c.in-ShiftWord.op c.register-in-ShiftWord.result c.register-in-ShiftWord-2.result c.word_shift_count.result i c.register-in-ShiftWord.ensures c.register-in-ShiftWord-2.ensures c.word_shift_count.ensures (o ∙ c.in-ShiftWord.is) fills

pub returns-in-RegisterRegister-clause-filled : goal.returns-in-RegisterRegister-clause-filled
returns-in-RegisterRegister-clause-filled c i o fills =
    register_register c.args.s c.in-RegisterRegister.op c.register-in-RegisterRegister.result c.register-in-RegisterRegister-2.result c.register-in-RegisterRegister-3.result i c.register-in-RegisterRegister.ensures c.register-in-RegisterRegister-2.ensures c.register-in-RegisterRegister-3.ensures (o ∙ c.in-RegisterRegister.is) fills

pub returns-in-RegisterRegisterWord-clause-filled : goal.returns-in-RegisterRegisterWord-clause-filled
returns-in-RegisterRegisterWord-clause-filled c i o fills =
    register_register_word c.args.s c.in-RegisterRegisterWord.op c.register-in-RegisterRegisterWord.result c.register-in-RegisterRegisterWord-2.result c.register-in-RegisterRegisterWord-3.result i c.register-in-RegisterRegisterWord.ensures c.register-in-RegisterRegisterWord-2.ensures c.register-in-RegisterRegisterWord-3.ensures (o ∙ c.in-RegisterRegisterWord.is) fills

pub returns-in-Fence-clause-filled : goal.returns-in-Fence-clause-filled
returns-in-Fence-clause-filled c i o fills =
    fence c.args.s c.register-in-Fence.result c.register-in-Fence-2.result c.fence_fields.result i c.register-in-Fence.ensures c.register-in-Fence-2.ensures c.fence_fields.ensures (o ∙ c.in-Fence.is) fills
