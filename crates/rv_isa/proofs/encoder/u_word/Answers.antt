-- Each `|` joins a field to those above it, as a sum.
use Rattle.std.proofs.Common.{◌+◌, ◌*◌, ◌%◌, arith}
use Rattle.rv_isa.proofs.Bits.{or_joins}
use Rattle.rv_isa.proofs.encoder.u_word.Goals as goal

pub returns : goal.returns
returns c =
    let imm = c.args.imm in
    let rd = c.args.rd.number in
    let joined = or_joins (imm * 4096 % 4294967296) (imm * 4096) 12 (c.from.result * 128 % 4294967296) (rd * 128) (omega arith) (omega arith) (omega arith) (omega arith) in
    or_joins _ (imm * 4096 + rd * 128) 7 c.args.opcode c.args.opcode joined (omega arith) (omega arith) (omega arith)
