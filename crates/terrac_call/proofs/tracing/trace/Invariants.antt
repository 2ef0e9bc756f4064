use Rattle.std.proofs.Common.{◌≡◌}
use Rattle.rv_machine.specs.Program.{IsProgram}
use Rattle.rv_machine.specs.Shown.{program_of, state_of}
use Rattle.terrac_call.proofs.TracedRuns.{Along}
use Rattle.terrac_call.proofs.tracing.trace.Given as goal

abbrev pub invariant-turns : goal.invariant-turns
invariant-turns g l = record {
  program : program_of l.machine ≡ program_of l.initial.machine;
  along : Along (program_of l.initial.machine) l.words (state_of l.initial.machine) (state_of l.machine) l.steps l.left
      (g.K.Sink.taken l.initial.out) (g.K.Sink.taken l.out) (g.K.Sink.faults l.initial.out) (g.K.Sink.faults l.out)
      (l.out ≡ l.initial.out);
}

abbrev pub decreases-turns : goal.decreases-turns
decreases-turns g l = l.left
