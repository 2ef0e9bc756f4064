use Rattle.std.proofs.Common.{◌≡◌, ◌≢◌, ℕ, suc, ◌+◌, ◌-◌, List, Option, refl, sym, ap, subst, ◌∙◌, arith}
use Rattle.rv_isa.specs.declared.instr.Instr.{Instr}
use Rattle.rv_machine.specs.declared.stops.Stop.{Stop}
use Rattle.rv_machine.specs.declared.stops.Stop.TheVariants as stops
use Rattle.rv_machine.specs.Machine.{run_of}
use Rattle.rv_machine.specs.Shown.{program_of, state_of}
use Rattle.terrac_call.specs.Tracing.{Ended, TookAll, TookPart, lines_of}
use Rattle.terrac_call.proofs.TracedRuns.{along_cut, along_ends, along_more, along_start}
use Rattle.terrac_call.proofs.tracing.trace.Goals as goal

pub turns-init : goal.turns-init
turns-init g c = record {
  program = refl;
  along = along_start (program_of c.args.machine.now) c.args.words.now (state_of c.args.machine.now) c.args.steps
      (g.K.Sink.taken c.args.out.now) (g.K.Sink.faults c.args.out.now) (c.args.out.now ≡ c.args.out.now) refl;
}

pub turns-preserved : goal.turns-preserved
turns-preserved g c =
    let program = program_of c.args.machine.now in
    let words = c.args.words.now in
    let now = state_of c.turns.machine in
    let next = state_of c.trace_step.new.machine in
    let left = c.turns.left in
    let mid = g.K.Sink.taken c.turns.out in
    let new = g.K.Sink.taken c.trace_step.new.out in
    let f1 = g.K.Sink.faults c.turns.out in
    let f2 = g.K.Sink.faults c.trace_step.new.out in
    let same : program_of c.turns.machine ≡ program = c.turns.invariant.program in
    let is : left ≡ suc (left - 1) = omega (arith, c.turns-test.true) in
    let other : c.trace_step.result ≢ stops.WriteFault =
    λ e. let bad : stops.Unfinished ≡ stops.WriteFault = sym c.in-Unfinished.is ∙ e in absurd cc in
    let ended : Ended (run_of program now 1) stops.Unfinished next =
    subst (λ (p : List (Option Instr)). Ended (run_of p now 1) stops.Unfinished next) same
    (subst (λ (stop : Stop). Ended (run_of (program_of c.turns.machine) now 1) stop next) c.in-Unfinished.is (c.trace_step.ensures.ended other)) in
    let step : TookAll (lines_of program words now (c.args.steps - left + 1) 1) mid new f1 f2 (c.trace_step.new.out ≡ c.turns.out) =
    subst (λ (p : List (Option Instr)). TookAll (lines_of p words now (c.args.steps - left + 1) 1) mid new f1 f2
    (c.trace_step.new.out ≡ c.turns.out)) same (c.trace_step.ensures.whole other) in
    record {
      program = c.trace_step.ensures.program ∙ same;
      along = along_more program words (state_of c.args.machine.now) now c.args.steps left (left - 1) (g.K.Sink.taken c.args.out.now) mid new
          (g.K.Sink.faults c.args.out.now) f1 f2 (c.turns.out ≡ c.args.out.now) (c.trace_step.new.out ≡ c.turns.out)
          (c.trace_step.new.out ≡ c.args.out.now) c.turns.invariant.along is next (λ first last. last ∙ first) ended step;
    }

pub returns-in_default : goal.returns-in_default
returns-in_default g c =
    let program = program_of c.args.machine.now in
    let words = c.args.words.now in
    let now = state_of c.turns.machine in
    let next = state_of c.trace_step.new.machine in
    let left = c.turns.left in
    let mid = g.K.Sink.taken c.turns.out in
    let new = g.K.Sink.taken c.trace_step.new.out in
    let f0 = g.K.Sink.faults c.args.out.now in
    let f1 = g.K.Sink.faults c.turns.out in
    let f2 = g.K.Sink.faults c.trace_step.new.out in
    let same : program_of c.turns.machine ≡ program = c.turns.invariant.program in
    let is : left ≡ suc (left - 1) = omega (arith, c.turns-test.true) in
    let ended : c.trace_step.result ≢ stops.WriteFault → Ended (run_of program now 1) c.trace_step.result next =
    λ other. subst (λ (p : List (Option Instr)). Ended (run_of p now 1) c.trace_step.result next) same (c.trace_step.ensures.ended other) in
    let step : c.trace_step.result ≢ stops.WriteFault
    → TookAll (lines_of program words now (c.args.steps - left + 1) 1) mid new f1 f2 (c.trace_step.new.out ≡ c.turns.out) =
    λ other. subst (λ (p : List (Option Instr)). TookAll (lines_of p words now (c.args.steps - left + 1) 1) mid new f1 f2
    (c.trace_step.new.out ≡ c.turns.out)) same (c.trace_step.ensures.whole other) in
    let cut : c.trace_step.result ≡ stops.WriteFault
    → TookPart (lines_of program words now (c.args.steps - left + 1) 1) mid new f1 f2 =
    λ fault. subst (λ (p : List (Option Instr)). TookPart (lines_of p words now (c.args.steps - left + 1) 1) mid new f1 f2) same
    (c.trace_step.ensures.cut_off fault) in
    let all = λ (other : c.trace_step.result ≢ stops.WriteFault).
    along_ends program words (state_of c.args.machine.now) now c.args.steps left (left - 1) (g.K.Sink.taken c.args.out.now) mid new f0 f1 f2
    (c.turns.out ≡ c.args.out.now) (c.trace_step.new.out ≡ c.turns.out) (c.trace_step.new.out ≡ c.args.out.now) c.turns.invariant.along is
    c.trace_step.result next (λ first last. last ∙ first) (ended other) c.in_default.not-Unfinished (step other) in
    record {
      whole = λ other. (all other).0;
      ended = λ other. (all other).1;
      cut_off = λ fault. along_cut program words (state_of c.args.machine.now) now c.args.steps left (left - 1)
          (g.K.Sink.taken c.args.out.now) mid new f0 f1 f2 (c.turns.out ≡ c.args.out.now) (c.trace_step.new.out ≡ c.turns.out)
          (c.trace_step.new.out ≡ c.args.out.now) c.turns.invariant.along is (cut fault);
    }
