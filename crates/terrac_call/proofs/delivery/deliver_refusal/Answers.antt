use Rattle.std.proofs.Common.{refl}
use Rattle.terrac_call.proofs.Deliveries.{refusal_whole, refusal_short}
use Rattle.terrac_call.proofs.delivery.deliver_refusal.Goals as goal

pub returns-in-Ok : goal.returns-in-Ok
returns-in-Ok g c =
    refusal_whole c.args.status c.args.line.now (g.K.Sink.taken c.args.out.now) (g.N.Sink.taken c.args.notes.now)
    (g.N.Sink.taken c.write_piece.new.sink) (g.K.Sink.faults c.args.out.now) (g.N.Sink.faults c.args.notes.now)
    (g.N.Sink.faults c.write_piece.new.sink) _ _ c.requires.refusal c.requires.other c.in-Ok.ensures.whole c.in-Ok.ensures.quiet refl

pub returns-in-Err : goal.returns-in-Err
returns-in-Err g c =
    refusal_short c.args.status c.write_fault.result c.args.line.now (g.K.Sink.taken c.args.out.now) (g.N.Sink.taken c.args.notes.now)
    (g.N.Sink.taken c.write_piece.new.sink) (g.N.Sink.taken c.write_fault.new.notes) (g.K.Sink.faults c.args.out.now)
    (g.N.Sink.faults c.args.notes.now) (g.N.Sink.faults c.write_piece.new.sink) (g.N.Sink.faults c.write_fault.new.notes) _ _
    c.requires.refusal refl c.in-Err.ensures.short c.write_fault.ensures.status c.write_fault.ensures.said
