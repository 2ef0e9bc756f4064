use Rattle.std.proofs.Common.{List, ℕ, Option, sym, ap, subst}
use Rattle.rv_machine.specs.Shown.{program_of, state_of}
use Rattle.terrac_call.specs.Tracing.{TookPart, words_in, written_of}
use Rattle.terrac_call.proofs.Deliveries.{output_cut_off}
use Rattle.terrac_call.proofs.delivery.run_machine.Goals as goal

pub returns-in-None-clause-cut_off : goal.returns-in-None-clause-cut_off
returns-in-None-clause-cut_off g c = λ fault.
    let program = program_of c.args.machine.now in
    let s = state_of c.args.machine.now in
    subst (λ (words : Option (List ℕ)). TookPart (written_of words program s c.args.steps) (g.K.Sink.taken c.args.out.now)
    (g.K.Sink.taken c.run.new.out) (g.K.Sink.faults c.args.out.now) (g.K.Sink.faults c.run.new.out)) (sym (ap words_in c.in-None.is))
    (output_cut_off program s c.args.steps c.run.result (state_of c.run.new.self) (g.K.Sink.taken c.args.out.now)
    (g.K.Sink.taken c.run.new.out) (g.K.Sink.faults c.args.out.now) (g.K.Sink.faults c.run.new.out) (c.run.ensures.fault fault)
    c.run.ensures.counted fault)
