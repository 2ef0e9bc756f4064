-- Each `|` joins a field to those above it, as a sum.
use Rattle.std.proofs.Common.{◌+◌, ◌*◌, ◌%◌, arith}
use Rattle.rv_isa.proofs.Bits.{or_joins}
use Rattle.rv_isa.proofs.encoder.compose.Goals as goal

pub returns : goal.returns
returns c =
    let a = c.args in
    let rs1 = or_joins (a.upper * 1048576 % 4294967296) (a.upper * 1048576) 20 (a.rs1 * 32768 % 4294967296) (a.rs1 * 32768) (omega arith) (omega arith) (omega arith) (omega arith) in
    let funct3 = or_joins _ (a.upper * 1048576 + a.rs1 * 32768) 15 (a.funct3 * 4096 % 4294967296) (a.funct3 * 4096) rs1 (omega arith) (omega arith) (omega arith) in
    let lower = or_joins _ (a.upper * 1048576 + a.rs1 * 32768 + a.funct3 * 4096) 12 (a.lower * 128 % 4294967296) (a.lower * 128) funct3 (omega arith) (omega arith) (omega arith) in
    or_joins _ (a.upper * 1048576 + a.rs1 * 32768 + a.funct3 * 4096 + a.lower * 128) 7 a.opcode a.opcode lower (omega arith) (omega arith) (omega arith)
