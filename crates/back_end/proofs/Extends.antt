-- Runs of the machine only extend.
use Rattle.std.proofs.Common.{◌≡◌, ℕ, zero, suc, ◌+◌, ◌-◌, Bool, true, false, List, [], ◌++◌, Option, refl, sym, ap, ◌∙◌, subst}
use Rattle.std.proofs.Common.{append_assoc, arith}
use Rattle.std.specs.Prelude.{nat_eq, if◌then◌else◌}
use Rattle.tl_base.specs.Outside.{IsFront}
use Rattle.rv_isa.specs.declared.instr.Instr.{Instr}
use Rattle.rv_machine.specs.declared.stops.Stop.TheVariants as stops
use Rattle.rv_machine.specs.Machine.{State, Moved, GoesOn, Writes, Faults, Throws, step, Ran, stands, after_step, unless_returned, run_of}
use Rattle.rv_machine.proofs.Runs.{run_of-over}
use Rattle.back_end.proofs.Composes.{Extend, front-self}

module _ (program : List (Option Instr)) where
  returned-grows : (s : State) (a b : Ran) → IsFront a.output b.output → IsFront (unless_returned s a).output (unless_returned s b).output
  returned-grows s a b h = by (nat_eq s.pc 0)
    where
      by : (r : Bool) → IsFront (if r then stands (stops.Returned (s.registers 10)) s else a).output
          (if r then stands (stops.Returned (s.registers 10)) s else b).output
      by true = front-self []
      by false = h

  step-grows : (m : Moved) (s : State) (k more : ℕ) →
      ((next : State) → IsFront (run_of program next k).output (run_of program next (k + more)).output) →
      IsFront (after_step m s (λ next. run_of program next k)).output (after_step m s (λ next. run_of program next (k + more))).output
  step-grows (GoesOn next) s k more h = h next
  step-grows (Writes next bytes) s k more h =
      let f = h next in
      (f.0, ap (λ o. bytes ++ o) f.1 ∙ sym (append_assoc bytes (run_of program next k).output f.0))
  step-grows (Faults kind) s k more h = front-self []
  step-grows (Throws kind place) s k more h = front-self []

  all : (o : List ℕ) → IsFront [] o
  all o = (o, refl)

  -- nothing is written before the first step
  begin : (s : State) (r : Ran) → IsFront (unless_returned s (stands stops.Unfinished s)).output r.output
  begin s r = by (nat_eq s.pc 0)
    where
      by : (b : Bool) → IsFront (if b then stands (stops.Returned (s.registers 10)) s else stands stops.Unfinished s).output r.output
      by true = all r.output
      by false = all r.output

  run-grows : (k more : ℕ) (s : State) → IsFront (run_of program s k).output (run_of program s (k + more)).output
  run-grows zero more s = begin s (run_of program s (0 + more))
  run-grows (suc k) more s =
      let sum : suc (k + more) ≡ suc k + more = omega arith in
      subst (λ n. IsFront (run_of program s (suc k)).output (run_of program s n).output) sum
      (returned-grows s (after_step (step program s) s (λ next. run_of program next k))
      (after_step (step program s) s (λ next. run_of program next (k + more)))
      (step-grows (step program s) s k more (λ next. run-grows k more next)))

  pub extends : (s : State) → Extend (run_of program s)
  extends s = record {
    stays = λ k k' le over.
        let sum : k + (k' - k) ≡ k' = omega (arith, le) in
        ap (run_of program s) (sym sum) ∙ run_of-over program s (run_of program s k) k (k' - k) refl over;
    grows = λ k k' le.
        let sum : k + (k' - k) ≡ k' = omega (arith, le) in
        subst (λ n. IsFront (run_of program s k).output (run_of program s n).output) sum (run-grows k (k' - k) s);
  }
