use Rattle.std.proofs.Common.{sym, ◌∙◌}
use Rattle.rv_select.proofs.Pairing.{last-pair}
use Rattle.rv_select.proofs.pairs.pair_of.Goals as goal

pub returns : goal.returns
returns c =
    last-pair c.args.reads.now c.args.block.now c.as_slice-instructions.result.now c.index-instructions-instructions.result c.pair_at.result
    c.as_slice-instructions.ensures c.index-instructions-instructions.is (sym c.is_empty.ensures ∙ c.if-is_empty.false) c.pair_at.ensures
