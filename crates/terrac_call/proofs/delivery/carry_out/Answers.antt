use Rattle.std.proofs.Common.{◌≡◌, List, ℕ, ap, refl, sym, subst, ◌∙◌}
use Rattle.tl_base.specs.Outside.{with_back}
use Rattle.terrac_call.specs.Due.{after}
use Rattle.terrac_call.specs.DueView.{due_of_rest, told_to}
use Rattle.terrac_call.specs.Delivery.{Delivered, StopsShort}
use Rattle.terrac_call.specs.declared.due.Stream.{Stream}
use Rattle.terrac_call.proofs.Deliveries.{behind_notes, behind_out, noted_short, out_short}
use Rattle.terrac_call.proofs.delivery.carry_out.Goals as goal

pub returns-in-Ok : goal.returns-in-Ok
returns-in-Ok g c =
    let printed = c.args.work.printed in
    let rest = due_of_rest c.args.work.rest in
    let same = c.as_slice.ensures in
    subst (λ (to : Stream). Delivered (told_to to printed rest) c.finish.result (g.K.Sink.taken c.args.out.now)
    (g.K.Sink.taken c.finish.new.out) (g.N.Sink.taken c.args.notes.now) (g.N.Sink.taken c.finish.new.notes)
    (g.K.Sink.faults c.args.out.now) (g.K.Sink.faults c.finish.new.out) (g.N.Sink.faults c.args.notes.now)
    (g.N.Sink.faults c.finish.new.notes) (c.finish.new.out ≡ c.args.out.now) (c.finish.new.notes ≡ c.args.notes.now))
    (sym c.in-Out.is)
    (behind_out printed rest c.finish.result (g.K.Sink.taken c.args.out.now) (g.K.Sink.taken c.write_piece.new.sink)
    (g.K.Sink.taken c.finish.new.out) (g.N.Sink.taken c.args.notes.now) (g.N.Sink.taken c.finish.new.notes)
    (g.K.Sink.faults c.args.out.now) (g.K.Sink.faults c.write_piece.new.sink) (g.K.Sink.faults c.finish.new.out)
    (g.N.Sink.faults c.args.notes.now) (g.N.Sink.faults c.finish.new.notes)
    (c.finish.new.out ≡ c.write_piece.new.sink) (c.finish.new.out ≡ c.args.out.now)
    (c.finish.new.notes ≡ c.args.notes.now)
    (c.in-Ok.ensures.whole ∙ ap (with_back (g.K.Sink.taken c.args.out.now)) same) c.in-Ok.ensures.quiet
    (λ none mid. mid ∙ c.write_piece.ensures.empty (same ∙ none)) c.finish.ensures)

pub returns-in-Out : goal.returns-in-Out
returns-in-Out g c =
    let printed = c.args.work.printed in
    let rest = due_of_rest c.args.work.rest in
    let same = c.as_slice.ensures in
    let oo = g.K.Sink.taken c.args.out.now in
    let on = g.K.Sink.taken c.write_piece.new.sink in
    let o0 = g.K.Sink.faults c.args.out.now in
    let o1 = g.K.Sink.faults c.write_piece.new.sink in
    let short : StopsShort printed oo on o0 o1 =
    subst (λ (p : List ℕ). StopsShort p oo on o0 o1) same c.in-Err.ensures.short in
    subst (λ (to : Stream). Delivered (told_to to printed rest) c.write_fault.result oo on (g.N.Sink.taken c.args.notes.now)
    (g.N.Sink.taken c.write_fault.new.notes) o0 o1 (g.N.Sink.faults c.args.notes.now)
    (g.N.Sink.faults c.write_fault.new.notes) (c.write_piece.new.sink ≡ c.args.out.now)
    (c.write_fault.new.notes ≡ c.args.notes.now))
    (sym c.in-Out.is)
    (out_short (after printed rest) printed rest.out c.write_fault.result oo on (g.N.Sink.taken c.args.notes.now)
    (g.N.Sink.taken c.write_fault.new.notes) o0 o1 (g.N.Sink.faults c.args.notes.now)
    (g.N.Sink.faults c.write_fault.new.notes) (c.write_piece.new.sink ≡ c.args.out.now)
    (c.write_fault.new.notes ≡ c.args.notes.now) refl (λ none. c.in-Err.ensures.some (same ∙ none)) short
    c.write_fault.ensures.status c.write_fault.ensures.said)

pub returns-in-Ok-write_piece : goal.returns-in-Ok-write_piece
returns-in-Ok-write_piece g c =
    let printed = c.args.work.printed in
    let rest = due_of_rest c.args.work.rest in
    let same = c.as_slice-in-Notes.ensures in
    let done = c.finish-in-Ok-write_piece in
    subst (λ (to : Stream). Delivered (told_to to printed rest) done.result (g.K.Sink.taken c.args.out.now) (g.K.Sink.taken done.new.out)
    (g.N.Sink.taken c.args.notes.now) (g.N.Sink.taken done.new.notes) (g.K.Sink.faults c.args.out.now)
    (g.K.Sink.faults done.new.out) (g.N.Sink.faults c.args.notes.now) (g.N.Sink.faults done.new.notes)
    (done.new.out ≡ c.args.out.now) (done.new.notes ≡ c.args.notes.now)) (sym c.in-Notes.is)
    (behind_notes printed rest done.result (g.K.Sink.taken c.args.out.now) (g.K.Sink.taken done.new.out)
    (g.N.Sink.taken c.args.notes.now) (g.N.Sink.taken c.write_piece-in-Notes.new.sink) (g.N.Sink.taken done.new.notes)
    (g.K.Sink.faults c.args.out.now) (g.K.Sink.faults done.new.out) (g.N.Sink.faults c.args.notes.now)
    (g.N.Sink.faults c.write_piece-in-Notes.new.sink) (g.N.Sink.faults done.new.notes) (done.new.out ≡ c.args.out.now)
    (done.new.notes ≡ c.write_piece-in-Notes.new.sink) (done.new.notes ≡ c.args.notes.now)
    (c.in-Ok-write_piece.ensures.whole ∙ ap (with_back (g.N.Sink.taken c.args.notes.now)) same) c.in-Ok-write_piece.ensures.quiet
    (λ none mid. mid ∙ c.write_piece-in-Notes.ensures.empty (same ∙ none)) done.ensures)

pub returns : goal.returns
returns g c =
    let printed = c.args.work.printed in
    let rest = due_of_rest c.args.work.rest in
    let same = c.as_slice-in-Notes.ensures in
    let failed = c.write_fault-in-Err-write_piece in
    let nb = g.N.Sink.taken c.args.notes.now in
    let nm = g.N.Sink.taken c.write_piece-in-Notes.new.sink in
    let n0 = g.N.Sink.faults c.args.notes.now in
    let n1 = g.N.Sink.faults c.write_piece-in-Notes.new.sink in
    let short : StopsShort printed nb nm n0 n1 =
    subst (λ (p : List ℕ). StopsShort p nb nm n0 n1) same c.in-Err-write_piece.ensures.short in
    subst (λ (to : Stream). Delivered (told_to to printed rest) failed.result (g.K.Sink.taken c.args.out.now)
    (g.K.Sink.taken c.args.out.now) nb (g.N.Sink.taken failed.new.notes) (g.K.Sink.faults c.args.out.now)
    (g.K.Sink.faults c.args.out.now) n0 (g.N.Sink.faults failed.new.notes) (c.args.out.now ≡ c.args.out.now)
    (failed.new.notes ≡ c.args.notes.now))
    (sym c.in-Notes.is)
    (noted_short rest printed failed.result (g.K.Sink.taken c.args.out.now) nb nm (g.N.Sink.taken failed.new.notes)
    (g.K.Sink.faults c.args.out.now) n0 n1 (g.N.Sink.faults failed.new.notes) (c.args.out.now ≡ c.args.out.now)
    (failed.new.notes ≡ c.args.notes.now) refl short failed.ensures.status failed.ensures.said)
