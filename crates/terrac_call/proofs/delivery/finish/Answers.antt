use Rattle.std.proofs.Common.{◌≡◌, List, ℕ, ap, refl, subst, sym, ◌∙◌}
use Rattle.tl_base.specs.Outside.{with_back}
use Rattle.terrac_call.specs.declared.due.Rest.{Rest}
use Rattle.terrac_call.specs.DueView.{due_of_rest, due_of_run}
use Rattle.terrac_call.specs.Delivery.{Delivered, StopsShort}
use Rattle.terrac_call.proofs.Deliveries.{behind_notes, noted_short}
use Rattle.terrac_call.proofs.delivery.finish.Goals as goal

pub returns-in-Ok : goal.returns-in-Ok
returns-in-Ok g c =
    let ready = c.in-Run.ready in
    let same = c.deref.ensures.value in
    subst (λ (r : Rest). Delivered (due_of_rest r) c.run.result (g.K.Sink.taken c.args.out.now) (g.K.Sink.taken c.run.new.out)
    (g.N.Sink.taken c.args.notes.now) (g.N.Sink.taken c.run.new.notes) (g.K.Sink.faults c.args.out.now)
    (g.K.Sink.faults c.run.new.out) (g.N.Sink.faults c.args.notes.now) (g.N.Sink.faults c.run.new.notes)
    (c.run.new.out ≡ c.args.out.now) (c.run.new.notes ≡ c.args.notes.now)) (sym c.in-Run.is)
    (behind_notes ready.file.items (due_of_run ready) c.run.result (g.K.Sink.taken c.args.out.now) (g.K.Sink.taken c.run.new.out)
    (g.N.Sink.taken c.args.notes.now) (g.N.Sink.taken c.write_piece.new.sink) (g.N.Sink.taken c.run.new.notes)
    (g.K.Sink.faults c.args.out.now) (g.K.Sink.faults c.run.new.out) (g.N.Sink.faults c.args.notes.now)
    (g.N.Sink.faults c.write_piece.new.sink) (g.N.Sink.faults c.run.new.notes) (c.run.new.out ≡ c.args.out.now)
    (c.run.new.notes ≡ c.write_piece.new.sink) (c.run.new.notes ≡ c.args.notes.now)
    (c.in-Ok.ensures.whole ∙ ap (with_back (g.N.Sink.taken c.args.notes.now)) same) c.in-Ok.ensures.quiet
    (λ none mid. mid ∙ c.write_piece.ensures.empty (same ∙ none)) c.run.ensures)

pub returns-in-Err : goal.returns-in-Err
returns-in-Err g c =
    let ready = c.in-Run.ready in
    let short : StopsShort ready.file.items (g.N.Sink.taken c.args.notes.now) (g.N.Sink.taken c.write_piece.new.sink)
    (g.N.Sink.faults c.args.notes.now) (g.N.Sink.faults c.write_piece.new.sink) =
    subst (λ (p : List ℕ). StopsShort p (g.N.Sink.taken c.args.notes.now) (g.N.Sink.taken c.write_piece.new.sink)
    (g.N.Sink.faults c.args.notes.now) (g.N.Sink.faults c.write_piece.new.sink)) c.deref.ensures.value c.in-Err.ensures.short in
    subst (λ (r : Rest). Delivered (due_of_rest r) c.write_fault.result (g.K.Sink.taken c.args.out.now) (g.K.Sink.taken c.args.out.now)
    (g.N.Sink.taken c.args.notes.now) (g.N.Sink.taken c.write_fault.new.notes) (g.K.Sink.faults c.args.out.now)
    (g.K.Sink.faults c.args.out.now) (g.N.Sink.faults c.args.notes.now) (g.N.Sink.faults c.write_fault.new.notes)
    (c.args.out.now ≡ c.args.out.now) (c.write_fault.new.notes ≡ c.args.notes.now)) (sym c.in-Run.is)
    (noted_short (due_of_run ready) ready.file.items c.write_fault.result (g.K.Sink.taken c.args.out.now) (g.N.Sink.taken c.args.notes.now)
    (g.N.Sink.taken c.write_piece.new.sink) (g.N.Sink.taken c.write_fault.new.notes) (g.K.Sink.faults c.args.out.now)
    (g.N.Sink.faults c.args.notes.now) (g.N.Sink.faults c.write_piece.new.sink) (g.N.Sink.faults c.write_fault.new.notes)
    (c.args.out.now ≡ c.args.out.now) (c.write_fault.new.notes ≡ c.args.notes.now) refl short c.write_fault.ensures.status c.write_fault.ensures.said)
