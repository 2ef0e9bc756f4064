use Rattle.std.proofs.Common.{◌≡◌, List, ℕ, option_map, ap, ◌∙◌}
use Rattle.std.specs.Prelude.{string_bytes}
use Rattle.terrac_call.specs.DueView.{ran_of, shown_due, written_by}
use Rattle.terrac_call.specs.Exec.{due_of_stop}
use Rattle.terrac_call.proofs.Deliveries.{run_short, run_whole}
use Rattle.terrac_call.proofs.delivery.run.Goals as goal

pub returns-in-WriteFault : goal.returns-in-WriteFault
returns-in-WriteFault g c =
    let ready = c.args.ready in
    run_short (written_by ready) (string_bytes ready.front) ready.code (ran_of ready).stop
    (g.K.Sink.taken c.args.out.now) (g.K.Sink.taken c.run_machine-stop.new.out) (g.N.Sink.taken c.args.notes.now)
    (g.N.Sink.taken c.write_fault.new.notes) (c.write_fault.new.notes ≡ c.args.notes.now)
    c.write_fault.result (g.K.Sink.faults c.args.out.now) (g.K.Sink.faults c.run_machine-stop.new.out)
    (g.N.Sink.faults c.args.notes.now) (g.N.Sink.faults c.write_fault.new.notes) (c.run_machine-stop.new.out ≡ c.args.out.now)
    (c.run_machine-stop.ensures.cut_off c.in-WriteFault.is) c.write_fault.ensures.status c.write_fault.ensures.said

pub returns : goal.returns
returns g c =
    let ready = c.args.ready in
    let other = c.in_default.not-WriteFault in
    run_whole (written_by ready) (string_bytes ready.front) ready.code (ran_of ready).stop
    (g.K.Sink.taken c.args.out.now) (g.K.Sink.taken c.deliver.new.out) (g.N.Sink.taken c.args.notes.now)
    (g.N.Sink.taken c.deliver.new.notes) (c.deliver.new.notes ≡ c.args.notes.now) c.run_machine-stop.result
    (g.K.Sink.taken c.run_machine-stop.new.out) (shown_due c.stop_due.result) c.deliver.result (g.K.Sink.faults c.args.out.now)
    (g.K.Sink.faults c.run_machine-stop.new.out) (g.K.Sink.faults c.deliver.new.out) (g.N.Sink.faults c.args.notes.now)
    (g.N.Sink.faults c.deliver.new.notes) (c.run_machine-stop.new.out ≡ c.args.out.now)
    (c.deliver.new.out ≡ c.run_machine-stop.new.out) (c.deliver.new.out ≡ c.args.out.now) (c.run_machine-stop.ensures.whole other)
    (c.run_machine-stop.ensures.ended other) (λ mid last. last ∙ mid)
    (c.stop_due.ensures ∙ ap (λ (f : List ℕ). due_of_stop f ready.code c.run_machine-stop.result) c.as_str.ensures.value)
    c.deliver.ensures
