use Rattle.std.proofs.Common.{refl}
use Rattle.terrac_call.proofs.Deliveries.{result_whole, result_short}
use Rattle.terrac_call.proofs.delivery.deliver_result.Goals as goal

pub returns-in-Ok : goal.returns-in-Ok
returns-in-Ok g c =
    result_whole c.args.line.now (g.K.Sink.taken c.args.out.now) (g.K.Sink.taken c.write_piece.new.sink)
    (g.N.Sink.taken c.args.notes.now) (g.K.Sink.faults c.args.out.now) (g.K.Sink.faults c.write_piece.new.sink)
    (g.N.Sink.faults c.args.notes.now) _ _ c.in-Ok.ensures.whole c.in-Ok.ensures.quiet c.write_piece.ensures.empty refl

pub returns-in-Err : goal.returns-in-Err
returns-in-Err g c =
    result_short c.args.line.now c.write_fault.result (g.K.Sink.taken c.args.out.now) (g.K.Sink.taken c.write_piece.new.sink)
    (g.N.Sink.taken c.args.notes.now) (g.N.Sink.taken c.write_fault.new.notes) (g.K.Sink.faults c.args.out.now)
    (g.K.Sink.faults c.write_piece.new.sink) (g.N.Sink.faults c.args.notes.now) (g.N.Sink.faults c.write_fault.new.notes) _ _
    c.in-Err.ensures.some c.in-Err.ensures.short c.write_fault.ensures.status c.write_fault.ensures.said
