use Rattle.std.proofs.Common.{◌∙◌, drop, length}
use Rattle.rv_select.proofs.Counting.{reads-made}
use Rattle.rv_select.proofs.pairs.reads_of.Goals as goal

pub returns : goal.returns
returns c =
    reads-made c.args.tac.now c.deref.result.now c.deref_mut.result.now c.count_blocks.new.reads
    (drop (length c.count_blocks.new.reads) c.in_ok-reads.reads.items) c.in_ok-reads.reads.len
    (c.deref.ensures.value ∙ c.in_ok-graph.ensures)
    (c.deref_mut.ensures.value ∙ c.in_ok-reads.ensures) c.deref_mut.ensures.len c.count_blocks.ensures
