use Rattle.std.proofs.Common.{◌≡◌, ◌-◌, ◌<◌, length}
use Rattle.terrac_call.proofs.Buffers.{Grown}
use Rattle.terrac_call.proofs.reading.read_source.Given as goal

abbrev pub invariant-reads : goal.invariant-reads
invariant-reads g l = record {
  grown : Grown l.most l.text.items (g.S.Source.left l.initial.source) (g.S.Source.left l.source);
  same : g.S.Source.faults l.source ≡ g.S.Source.faults l.initial.source;
  some : 0 < length l.chunk.items;
}

abbrev pub decreases-reads : goal.decreases-reads
decreases-reads g l = l.most - length l.text.items
