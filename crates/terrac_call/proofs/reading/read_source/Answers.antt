use Rattle.std.proofs.Common.{rules}
use Rattle.terrac_call.proofs.Buffers.{grown_bound}
use Rattle.terrac_call.proofs.reading.read_source.Goals as goal

pub returns-in_err-read_more-clause-bound : goal.returns-in_err-read_more-clause-bound
returns-in_err-read_more-clause-bound g c =
    grown_bound c.args.most c.min-room.result c.reads.text.items _ _ _ c.reads.invariant.grown (search rules)
    (search rules)
