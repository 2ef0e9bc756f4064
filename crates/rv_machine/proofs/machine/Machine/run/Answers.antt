use Rattle.std.proofs.Common.{◌≡◌, ◌+◌, ◌-◌, ◌<◌, List, inl, map, refl, sym, ap, ◌∙◌, subst, ⊎_elim, arith, Option}
use Rattle.std.proofs.lemmas.Bool.{cases_eq}
use Rattle.rv_isa.specs.declared.instr.Instr.{Instr}
use Rattle.rv_machine.specs.declared.stops.Stop.{Stop}
use Rattle.rv_machine.specs.declared.stops.Stop.TheVariants.{Returned}
use Rattle.rv_machine.specs.Decoded.{found_of}
use Rattle.rv_machine.specs.Machine.{State, after_output, step, run_of}
use Rattle.rv_machine.specs.Runs.{Agrees, IsBeforeWrite}
use Rattle.rv_machine.specs.Steps.{WentOn, StoppedAt}
use Rattle.rv_machine.specs.Count.{count_after, steps_to, StepsBetween, CountsToWrite}
use Rattle.rv_machine.specs.Shown.{program_of, hart_state, state_of, taken_of}
use Rattle.rv_machine.proofs.Runs.{run_of-at_zero}
use Rattle.rv_machine.proofs.Reaches.{ends, over, stopped, before_write, counts_to_write, steps_to_stop, none_before, went_on, between_on, between-both}
use Rattle.rv_machine.proofs.machine.Machine.run.Goals as goal

pub returns-in-Err-clause-run : goal.returns-in-Err-clause-run
returns-in-Err-clause-run g c =
    let h = c.loop-left.invariant.3 in
    let count = c.args.steps - c.loop-left.left in
    let more : count < c.args.steps = omega (arith, c.loop-left.invariant.4, c.loop-left-test.true) in
    let at = λ (on : (state_of c.loop-left.self).pc ≡ 0 → ⊥). subst (λ p. StoppedAt c.in-Err.stop (state_of c.loop-left.self).pc (step p (state_of c.loop-left.self)) (g.K.Sink.taken c.loop-left.out) (g.K.Sink.taken c.step.new.out)) c.loop-left.invariant.0 (c.in-Err.ensures.err on) in
    λ other.
    subst (λ (s : State). Agrees (run_of (program_of c.args.self.now) (state_of c.args.self.now) c.args.steps) c.in-Err.stop s (g.K.Sink.taken c.args.out.now) (g.K.Sink.taken c.step.new.out)) (sym (c.count.ensures.state ∙ c.in-Err.ensures.same))
    (⊎_elim
    (λ zero. over (program_of c.args.self.now) (state_of c.args.self.now) (state_of c.loop-left.self) count h.0 _ _ h.2 h.1 c.args.steps c.in-Err.stop _ more zero (c.in-Err.ensures.over zero))
    (λ on. stopped (program_of c.args.self.now) (state_of c.args.self.now) (state_of c.loop-left.self) count h.0 _ _ h.2 h.1 c.args.steps c.in-Err.stop _ more on (at on) other)
    (cases_eq (state_of c.loop-left.self).pc 0))

pub returns-in-Err-clause-fault : goal.returns-in-Err-clause-fault
returns-in-Err-clause-fault g c =
    let h = c.loop-left.invariant.3 in
    let count = c.args.steps - c.loop-left.left in
    let more : count < c.args.steps = omega (arith, c.loop-left.invariant.4, c.loop-left-test.true) in
    λ is.
    let on : (state_of c.loop-left.self).pc ≡ 0 → ⊥ = λ zero. let e = sym is ∙ (c.in-Err.ensures.over zero).0 in cc in
    let at = subst (λ p. StoppedAt c.in-Err.stop (state_of c.loop-left.self).pc (step p (state_of c.loop-left.self)) (g.K.Sink.taken c.loop-left.out) (g.K.Sink.taken c.step.new.out)) c.loop-left.invariant.0 (c.in-Err.ensures.err on) in
    let part = subst (λ (k : Stop). StoppedAt k (state_of c.loop-left.self).pc (step (program_of c.args.self.now) (state_of c.loop-left.self)) (g.K.Sink.taken c.loop-left.out) (g.K.Sink.taken c.step.new.out)) is at in
    subst (λ (s : State). IsBeforeWrite (program_of c.args.self.now) (state_of c.args.self.now) c.args.steps s (g.K.Sink.taken c.args.out.now) (g.K.Sink.taken c.step.new.out)) (sym (c.count.ensures.state ∙ c.in-Err.ensures.same))
    (before_write (program_of c.args.self.now) (state_of c.args.self.now) (state_of c.loop-left.self) count h.0 _ _ h.2 h.1 c.args.steps _ more on part)

pub returns-in-Err-clause-taken : goal.returns-in-Err-clause-taken
returns-in-Err-clause-taken g c =
    let program = program_of c.args.self.now in
    let count = c.args.steps - c.loop-left.left in
    let more : count < c.args.steps = omega (arith, c.loop-left.invariant.4, c.loop-left-test.true) in
    let at = λ (on : (state_of c.loop-left.self).pc ≡ 0 → ⊥). subst (λ p. StoppedAt c.in-Err.stop (state_of c.loop-left.self).pc (step p (state_of c.loop-left.self)) (g.K.Sink.taken c.loop-left.out) (g.K.Sink.taken c.step.new.out)) c.loop-left.invariant.0 (c.in-Err.ensures.err on) in
    λ other.
    c.count.ensures.taken
    ∙ ap (λ n. count_after n (count + c.steps_to.result)) (c.in-Err.ensures.taken ∙ c.loop-left.invariant.5)
    ∙ ap (λ n. count_after (taken_of c.args.self.now) n)
    (ap (λ n. count + n) c.steps_to.ensures.value
    ∙ sym (steps_to_stop program (state_of c.args.self.now) (state_of c.loop-left.self) count c.args.steps c.in-Err.stop _ _ c.loop-left.invariant.6 more (λ zero. (c.in-Err.ensures.over zero).0) at other))

pub returns-in-Err-clause-taken_before : goal.returns-in-Err-clause-taken_before
returns-in-Err-clause-taken_before g c =
    let h = c.loop-left.invariant.3 in
    let count = c.args.steps - c.loop-left.left in
    let more : count < c.args.steps = omega (arith, c.loop-left.invariant.4, c.loop-left-test.true) in
    λ is.
    let on : (state_of c.loop-left.self).pc ≡ 0 → ⊥ = λ zero. let e = sym is ∙ (c.in-Err.ensures.over zero).0 in cc in
    let at = subst (λ p. StoppedAt c.in-Err.stop (state_of c.loop-left.self).pc (step p (state_of c.loop-left.self)) (g.K.Sink.taken c.loop-left.out) (g.K.Sink.taken c.step.new.out)) c.loop-left.invariant.0 (c.in-Err.ensures.err on) in
    let part = subst (λ (k : Stop). StoppedAt k (state_of c.loop-left.self).pc (step (program_of c.args.self.now) (state_of c.loop-left.self)) (g.K.Sink.taken c.loop-left.out) (g.K.Sink.taken c.step.new.out)) is at in
    let none : count + c.steps_to.result ≡ count = (let e = c.steps_to.ensures.value ∙ ap steps_to is in omega (arith, e)) in
    let counted = c.count.ensures.taken ∙ ap (λ n. count_after n (count + c.steps_to.result)) (c.in-Err.ensures.taken ∙ c.loop-left.invariant.5) ∙ ap (λ n. count_after (taken_of c.args.self.now) n) none in
    subst (λ (s : State). CountsToWrite (program_of c.args.self.now) (state_of c.args.self.now) c.args.steps s (g.K.Sink.taken c.args.out.now) (g.K.Sink.taken c.step.new.out) (taken_of c.args.self.now) (taken_of c.count.new.self)) (sym (c.count.ensures.state ∙ c.in-Err.ensures.same))
    (counts_to_write (program_of c.args.self.now) (state_of c.args.self.now) (state_of c.loop-left.self) count h.0 _ _ h.2 h.1 c.args.steps _ _ _ more on part counted)

pub returns-in-Err-clause-unwritten : goal.returns-in-Err-clause-unwritten
returns-in-Err-clause-unwritten g c =
    let h = c.loop-left.invariant.3 in
    let count = c.args.steps - c.loop-left.left in
    let more : count < c.args.steps = omega (arith, c.loop-left.invariant.4, c.loop-left-test.true) in
    λ other none. c.in-Err.ensures.untouched other ∙ h.3 (none_before (program_of c.args.self.now) (state_of c.args.self.now) (state_of c.loop-left.self) count h.0 _ _ h.2 h.1 c.args.steps (inl more) none)

pub returns-then-self-eq0-clause-run : goal.returns-then-self-eq0-clause-run
returns-then-self-eq0-clause-run g c =
    let h = c.loop-left.invariant.3 in
    let program = program_of c.args.self.now in
    let start = state_of c.args.self.now in
    let now = state_of c.loop-left.self in
    let count = c.args.steps - c.loop-left.left in
    let e = c.count-2.ensures.state in
    let last : count + 0 ≡ c.args.steps = omega (arith, c.loop-left-test.false, c.loop-left.invariant.4) in
    λ other.
    subst (λ (s : State). Agrees (run_of program start c.args.steps) (Returned (s.registers 10)) s (g.K.Sink.taken c.args.out.now) (g.K.Sink.taken c.loop-left.out)) (sym e)
    (ends program start now count h.0 _ _ h.2 h.1 c.args.steps 0 (Returned (now.registers 10)) last (run_of-at_zero program now 0 (sym (ap (λ (s : State). s.pc) e) ∙ c.if-self-eq0.true)))

pub loop-left-preserved : goal.loop-left-preserved
loop-left-preserved g c =
    let h = c.loop-left.invariant.3 in
    let program = program_of c.args.self.now in
    let start = state_of c.args.self.now in
    let count = c.args.steps - c.loop-left.left in
    let quiet = c.run_quietly-left.result in
    let at = subst (λ p. WentOn (step p (state_of c.loop-left.self)) (state_of c.step.new.self) (g.K.Sink.taken c.loop-left.out) (g.K.Sink.taken c.step.new.out) (c.step.new.out ≡ c.loop-left.out)) c.loop-left.invariant.0 c.in_default.ensures.ok in
    let same = c.in_default.ensures.program ∙ c.loop-left.invariant.0 in
    let went = went_on program start (state_of c.loop-left.self) count h.0 _ _ h.2 h.1 (state_of c.step.new.self) _ (step program (state_of c.loop-left.self)) (c.step.new.out ≡ c.loop-left.out) (c.loop-left.out ≡ c.args.out.now) (c.step.new.out ≡ c.args.out.now) h.3 (λ a b. b ∙ a) c.in_default.ensures.going refl at in (
      same,
      c.in_default.ensures.heap ∙ c.loop-left.invariant.1,
      c.in_default.ensures.quiet ∙ c.loop-left.invariant.2,
      (
        went.0,
        went.1,
        λ k.
            (let sum : c.args.steps - quiet + k ≡ count + 1 + (c.loop-left.left - 1 - quiet + k) = omega (arith, c.run_quietly-left.ensures.left, c.loop-left.invariant.4, c.loop-left-test.true) in
            ap (run_of program start) sum
            ∙ went.2 (c.loop-left.left - 1 - quiet + k)
            ∙ ap (after_output went.0) (subst (λ (p : List (Option Instr)). run_of p (state_of c.step.new.self) (c.loop-left.left - 1 - quiet + k) ≡ run_of p (hart_state c.run_quietly-left.new.self) k) (ap (map found_of) c.deref.ensures.value ∙ same) (c.run_quietly-left.ensures.run k))),
        went.3,
      ),
      omega (arith, c.run_quietly-left.ensures.left, c.loop-left.invariant.4),
      c.in_default.ensures.taken ∙ c.loop-left.invariant.5,
      subst (StepsBetween program start (hart_state c.run_quietly-left.new.self)) (let sum : count + 1 + (c.loop-left.left - 1 - quiet) ≡ c.args.steps - quiet = omega (arith, c.run_quietly-left.ensures.left, c.loop-left.invariant.4, c.loop-left-test.true) in sum)
          (between-both program start (state_of c.step.new.self) (hart_state c.run_quietly-left.new.self) (count + 1) (c.loop-left.left - 1 - quiet)
          (between_on program start (state_of c.loop-left.self) (state_of c.step.new.self) count _ _ _ c.loop-left.invariant.6 c.in_default.ensures.going at)
          (subst (λ (p : List (Option Instr)). StepsBetween p (state_of c.step.new.self) (hart_state c.run_quietly-left.new.self) (c.loop-left.left - 1 - quiet)) (ap (map found_of) c.deref.ensures.value ∙ same) c.run_quietly-left.ensures.taken)),
    )
