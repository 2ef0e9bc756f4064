-- Runs: what each step adds to one, and how they go on.
use Rattle.std.proofs.Common.{◌≡◌, ◌≢◌, ℕ, zero, suc, ◌+◌, List, [], ◌++◌, Option, refl, sym, ap, ◌∙◌, subst, ⊎_elim, append_assoc, arith}
use Rattle.std.specs.Prelude.{if◌then◌else◌}
use Rattle.std.proofs.lemmas.Bool.{cases_eq, eq-eqb, ne_eqb}
use Rattle.rv_isa.specs.declared.instr.Instr.{Instr}
use Rattle.rv_machine.specs.declared.stops.MachineKind.{MachineKind}
use Rattle.rv_machine.specs.declared.stops.Stop.{Stop}
use Rattle.rv_machine.specs.declared.stops.Stop.TheVariants.{Returned, TerraFault, MachineFault, Unfinished}
use Rattle.rv_machine.specs.Machine.{State, Moved, GoesOn, Writes, Faults, Throws, step, Ran, stands, after_output, after_step, run_of}

module _ (program : List (Option Instr)) where
  -- at address 0 the run is over, whatever steps are left
  pub run_of-at_zero : (s : State) (steps : ℕ) → s.pc ≡ 0 → run_of program s steps ≡ stands (Returned (s.registers 10)) s
  run_of-at_zero s zero e = ap (λ b. if b then stands (Returned (s.registers 10)) s else stands Unfinished s) (eq-eqb s.pc 0 e)
  run_of-at_zero s (suc steps) e = ap (λ b. if b then stands (Returned (s.registers 10)) s else after_step (step program s) s (λ next. run_of program next steps)) (eq-eqb s.pc 0 e)

  -- elsewhere it stops where no steps are left
  pub run_of-used_up : (s : State) → (s.pc ≡ 0 → ⊥) → run_of program s 0 ≡ stands Unfinished s
  run_of-used_up s e = ap (λ b. if b then stands (Returned (s.registers 10)) s else stands Unfinished s) (ne_eqb s.pc 0 e)

  -- and else takes a step
  pub run_of-turn : (s : State) (left : ℕ) → (s.pc ≡ 0 → ⊥) → run_of program s (suc left) ≡ after_step (step program s) s (λ next. run_of program next left)
  run_of-turn s left e =
      ap (λ b. if b then stands (Returned (s.registers 10)) s else after_step (step program s) s (λ next. run_of program next left)) (ne_eqb s.pc 0 e)

  pub run_of-moved : (s : State) (left : ℕ) (moved : Moved) → (s.pc ≡ 0 → ⊥) → step program s ≡ moved → run_of program s (suc left) ≡ after_step moved s (λ next. run_of program next left)
  run_of-moved s left moved e by = run_of-turn s left e ∙ ap (λ m. after_step m s (λ next. run_of program next left)) by

-- bytes before a run
pub after_output-none : (r : Ran) → after_output [] r ≡ r
after_output-none r = refl

pub after_output-both : (a b : List ℕ) (r : Ran) → after_output a (after_output b r) ≡ after_output (a ++ b) r
after_output-both a b r = ap (λ output. record { stop = r.stop; state = r.state; output = output }) (sym (append_assoc a b r.output))

not_returned : (v : ℕ) (r a : State) (output : List ℕ) → ◌≡◌ {A = Ran} (stands (Returned v) r) (record { stop = Unfinished; state = a; output = output }) → ⊥
not_returned v r a output e = let k = ap (λ (r : Ran). r.stop) e in cc

not_faulted : (kind : MachineKind) (pc : ℕ) (r a : State) (output : List ℕ) → ◌≡◌ {A = Ran} (stands (MachineFault kind pc) r) (record { stop = Unfinished; state = a; output = output }) → ⊥
not_faulted kind pc r a output e = let k = ap (λ (r : Ran). r.stop) e in cc

not_thrown : (kind place : ℕ) (r a : State) (output : List ℕ) → ◌≡◌ {A = Ran} (stands (TerraFault kind place) r) (record { stop = Unfinished; state = a; output = output }) → ⊥
not_thrown kind place r a output e = let k = ap (λ (r : Ran). r.stop) e in cc

module _ (program : List (Option Instr)) where
  abbrev paused : State → List ℕ → Ran
  paused middle output = record { stop = Unfinished; state = middle; output = output }

  -- a step of a run that is unfinished later
  goes_through : (s middle : State) (output : List ℕ) (first rest : ℕ) (m : Moved) → ((next : State) (more : List ℕ) → run_of program next first ≡ paused middle more → run_of program next (first + rest) ≡ after_output more (run_of program middle rest)) → after_step m s (λ next. run_of program next first) ≡ paused middle output → after_step m s (λ next. run_of program next (first + rest)) ≡ after_output output (run_of program middle rest)
  goes_through s middle output first rest (GoesOn next) on e = on next output e
  goes_through s middle output first rest (Writes next bytes) on e =
      let r = run_of program next first in
      let wrote : bytes ++ r.output ≡ output = ap (λ (r : Ran). r.output) e in
      let same : r ≡ paused middle r.output = (let stop = ap (λ (r : Ran). r.stop) e in let state = ap (λ (r : Ran). r.state) e in ap (λ (k : Stop). record { stop = k; state = r.state; output = r.output }) stop ∙ ap (λ (k : State). record { stop = Unfinished; state = k; output = r.output }) state) in
      ap (after_output bytes) (on next r.output same)
      ∙ after_output-both bytes r.output (run_of program middle rest)
      ∙ ap (λ o. after_output o (run_of program middle rest)) wrote
  goes_through s middle output first rest (Faults kind) on e = absurd (not_faulted kind s.pc s middle output e)
  goes_through s middle output first rest (Throws kind place) on e = absurd (not_thrown kind place s middle output e)

  -- a run that isn't over goes on from where it stands
  pub run_of-add : (s middle : State) (output : List ℕ) (first rest : ℕ) → run_of program s first ≡ paused middle output → run_of program s (first + rest) ≡ after_output output (run_of program middle rest)
  run_of-add s middle output zero rest e =
      ⊎_elim
      (λ over. absurd (not_returned _ _ _ _ (sym (run_of-at_zero program s zero over) ∙ e)))
      (λ on.
      let here = sym (run_of-used_up program s on) ∙ e in
      let same = ap (λ (r : Ran). r.state) here in
      let none = ap (λ (r : Ran). r.output) here in
      let sum : zero + rest ≡ rest = omega arith in
      ap (run_of program s) sum ∙ ap (λ t. run_of program t rest) same ∙ ap (λ o. after_output o (run_of program middle rest)) none)
      (cases_eq s.pc 0)
  run_of-add s middle output (suc first) rest e =
      let sum : suc first + rest ≡ suc (first + rest) = omega arith in
      ⊎_elim
      (λ over. absurd (not_returned _ _ _ _ (sym (run_of-at_zero program s (suc first) over) ∙ e)))
      (λ on.
      ap (run_of program s) sum
      ∙ run_of-turn program s (first + rest) on
      ∙ goes_through s middle output first rest (step program s) (λ next more. run_of-add next middle more first rest) (sym (run_of-turn program s first on) ∙ e))
      (cases_eq s.pc 0)

  -- a step of a run that is over later
  stays_over : (s : State) (first more : ℕ) (m : Moved) → ((next : State) → (run_of program next first).stop ≢ Unfinished → run_of program next (first + more) ≡ run_of program next first) → (after_step m s (λ next. run_of program next first)).stop ≢ Unfinished → after_step m s (λ next. run_of program next (first + more)) ≡ after_step m s (λ next. run_of program next first)
  stays_over s first more (GoesOn next) on over = on next over
  stays_over s first more (Writes next bytes) on over = ap (after_output bytes) (on next over)
  stays_over s first more (Faults kind) on over = refl
  stays_over s first more (Throws kind place) on over = refl

  over_more : (s : State) (first more : ℕ) → (run_of program s first).stop ≢ Unfinished → run_of program s (first + more) ≡ run_of program s first
  over_more s zero more over =
      ⊎_elim
      (λ at. run_of-at_zero program s (zero + more) at ∙ sym (run_of-at_zero program s zero at))
      (λ on. absurd (over (ap (λ (r : Ran). r.stop) (run_of-used_up program s on))))
      (cases_eq s.pc 0)
  over_more s (suc first) more over =
      let sum : suc first + more ≡ suc (first + more) = omega arith in
      ⊎_elim
      (λ at. run_of-at_zero program s (suc first + more) at ∙ sym (run_of-at_zero program s (suc first) at))
      (λ on.
      ap (run_of program s) sum
      ∙ run_of-turn program s (first + more) on
      ∙ stays_over s first more (step program s) (λ next. over_more next first more) (λ h. over (ap (λ (r : Ran). r.stop) (run_of-turn program s first on) ∙ h))
      ∙ sym (run_of-turn program s first on))
      (cases_eq s.pc 0)

  -- a run that is over stays over
  pub run_of-over : (s : State) (ran : Ran) (first more : ℕ) → run_of program s first ≡ ran → ran.stop ≢ Unfinished → run_of program s (first + more) ≡ ran
  run_of-over s ran first more e over =
      over_more s first more (λ h. over (sym (ap (λ (r : Ran). r.stop) e) ∙ h)) ∙ e

  -- where a run stands that is over, it is over at the next step in the same way
  abbrev Again : Ran → ℕ → Type 0
  Again ran more = run_of program ran.state (suc more) ≡ stands ran.stop ran.state

  -- a step of a run that is over later
  stops_again : (s : State) (first more : ℕ) (m : Moved) → (s.pc ≡ 0 → ⊥) → step program s ≡ m → ((next : State) → (run_of program next first).stop ≢ Unfinished → Again (run_of program next first) more) → (after_step m s (λ next. run_of program next first)).stop ≢ Unfinished → Again (after_step m s (λ next. run_of program next first)) more
  stops_again s first more (GoesOn next) on by again over = again next over
  stops_again s first more (Writes next bytes) on by again over = again next over
  stops_again s first more (Faults kind) on by again over = run_of-moved program s more (Faults kind) on by
  stops_again s first more (Throws kind place) on by again over = run_of-moved program s more (Throws kind place) on by

  over_again : (s : State) (first more : ℕ) → (run_of program s first).stop ≢ Unfinished → Again (run_of program s first) more
  over_again s zero more over =
      ⊎_elim
      (λ at. subst (λ (r : Ran). Again r more) (sym (run_of-at_zero program s zero at)) (run_of-at_zero program s (suc more) at))
      (λ on. absurd (over (ap (λ (r : Ran). r.stop) (run_of-used_up program s on))))
      (cases_eq s.pc 0)
  over_again s (suc first) more over =
      ⊎_elim
      (λ at. subst (λ (r : Ran). Again r more) (sym (run_of-at_zero program s (suc first) at)) (run_of-at_zero program s (suc more) at))
      (λ on.
      let turn = run_of-turn program s first on in
      subst (λ (r : Ran). Again r more) (sym turn)
      (stops_again s first more (step program s) on refl (λ next. over_again next first more) (λ h. over (ap (λ (r : Ran). r.stop) turn ∙ h))))
      (cases_eq s.pc 0)

  -- a run that is over ends again where it stands
  pub run_of-again : (s : State) (ran : Ran) (first more : ℕ) → run_of program s first ≡ ran → ran.stop ≢ Unfinished → run_of program ran.state (suc more) ≡ stands ran.stop ran.state
  run_of-again s ran first more e over =
      subst (λ (r : Ran). Again r more) e (over_again s first more (λ h. over (sym (ap (λ (r : Ran). r.stop) e) ∙ h)))
