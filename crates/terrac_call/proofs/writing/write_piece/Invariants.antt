use Rattle.std.proofs.Common.{◌≡◌, length, []}
use Rattle.terrac_call.proofs.Pieces.{Sent}
use Rattle.terrac_call.proofs.writing.write_piece.Given as goal

abbrev pub invariant-pieces : goal.invariant-pieces
invariant-pieces g l = record {
  sent : Sent l.piece l.rest (g.K.Sink.taken l.initial.sink) (g.K.Sink.taken l.sink) (g.K.Sink.faults l.initial.sink)
      (g.K.Sink.faults l.sink);
  untouched : l.piece ≡ [] → l.sink ≡ l.initial.sink;
}

abbrev pub decreases-pieces : goal.decreases-pieces
decreases-pieces g l = length l.rest
