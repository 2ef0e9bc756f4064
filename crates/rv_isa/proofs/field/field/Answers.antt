-- A mask of ones below 2 ^ size leaves the remainder.
use Rattle.std.proofs.Common.{◌+◌, ◌-◌, ◌/◌, ◌^◌, arith}
use Rattle.std.proofs.lemmas.Nat.{one_shl, and_mask}
use Rattle.rv_isa.proofs.field.field.Goals as goal

pub returns : goal.returns
returns c =
    let size = c.args.high + 1 - c.args.low in
    rw (one_shl size 32 (omega arith)) (and_mask (c.args.word / 2 ^ c.args.low) size)
