-- How many steps runs take: what each step adds, and that a run is over after those and not before.
use Rattle.std.proofs.Common.{◌≡◌, ◌≢◌, ℕ, zero, suc, ◌+◌, ◌<◌, List, Option, refl, sym, ap, ◌∙◌, ⊎_elim, arith}
use Rattle.std.specs.Prelude.{if◌then◌else◌}
use Rattle.std.proofs.lemmas.Bool.{cases_eq, eq-eqb, ne_eqb}
use Rattle.rv_isa.specs.declared.instr.Instr.{Instr}
use Rattle.rv_machine.specs.declared.stops.Stop.{Stop}
use Rattle.rv_machine.specs.declared.stops.Stop.TheVariants.{Unfinished}
use Rattle.rv_machine.specs.Machine.{State, Moved, GoesOn, Writes, Faults, Throws, step, Ran, after_output, after_step, run_of}
use Rattle.rv_machine.specs.Count.{steps_from, steps_of, StepsBetween}
use Rattle.rv_machine.proofs.Runs.{run_of-at_zero, run_of-used_up, run_of-turn, run_of-moved}

module _ (program : List (Option Instr)) where
  -- at address 0 a run takes no step
  pub steps_of-at_zero : (s : State) (steps : ℕ) → s.pc ≡ 0 → steps_of program s steps ≡ 0
  steps_of-at_zero s zero e = refl
  steps_of-at_zero s (suc steps) e = ap (λ b. if b then 0 else steps_from (step program s) (λ next. steps_of program next steps)) (eq-eqb s.pc 0 e)

  -- elsewhere it takes one
  pub steps_of-moved : (s : State) (left : ℕ) (moved : Moved) → (s.pc ≡ 0 → ⊥) → step program s ≡ moved → steps_of program s (suc left) ≡ steps_from moved (λ next. steps_of program next left)
  steps_of-moved s left moved e by =
      ap (λ b. if b then 0 else steps_from (step program s) (λ next. steps_of program next left)) (ne_eqb s.pc 0 e)
      ∙ ap (λ m. steps_from m (λ next. steps_of program next left)) by

  -- why the run of so many steps stopped
  abbrev stop_of : State → ℕ → Stop
  stop_of s steps = (run_of program s steps).stop

  returned_apart : (s : State) (steps : ℕ) → s.pc ≡ 0 → stop_of s steps ≡ Unfinished → ⊥
  returned_apart s steps at e = let k = sym (ap (λ (r : Ran). r.stop) (run_of-at_zero program s steps at)) ∙ e in cc

  -- a step of a run that isn't over
  takes_all : (s : State) (steps : ℕ) (m : Moved) → ((next : State) → stop_of next steps ≡ Unfinished → steps_of program next steps ≡ steps) → (after_step m s (λ next. run_of program next steps)).stop ≡ Unfinished → steps_from m (λ next. steps_of program next steps) ≡ suc steps
  takes_all s steps (GoesOn next) on e = ap suc (on next e)
  takes_all s steps (Writes next bytes) on e = ap suc (on next e)
  takes_all s steps (Faults kind) on e = cc
  takes_all s steps (Throws kind place) on e = cc

  -- a run that isn't over took all its steps
  pub unfinished_takes_all : (s : State) (steps : ℕ) → stop_of s steps ≡ Unfinished → steps_of program s steps ≡ steps
  unfinished_takes_all s zero e = refl
  unfinished_takes_all s (suc steps) e =
      ⊎_elim
      (λ at. absurd (returned_apart s (suc steps) at e))
      (λ on.
      steps_of-moved s steps (step program s) on refl
      ∙ takes_all s steps (step program s) (λ next. unfinished_takes_all next steps) (sym (ap (λ (r : Ran). r.stop) (run_of-turn program s steps on)) ∙ e))
      (cases_eq s.pc 0)

  -- a step of a run with fewer steps than it takes
  goes_before : (s : State) (steps fewer : ℕ) (m : Moved) → ((next : State) → fewer < steps_of program next steps → stop_of next fewer ≡ Unfinished) → suc fewer < steps_from m (λ next. steps_of program next steps) → (after_step m s (λ next. run_of program next fewer)).stop ≡ Unfinished
  goes_before s steps fewer (GoesOn next) on less = on next (omega (arith, less))
  goes_before s steps fewer (Writes next bytes) on less = on next (omega (arith, less))
  goes_before s steps fewer (Faults kind) on less = absurd (omega (arith, less))
  goes_before s steps fewer (Throws kind place) on less = absurd (omega (arith, less))

  before_from : (s : State) (steps fewer : ℕ) → ((next : State) (fewer : ℕ) → fewer < steps_of program next steps → stop_of next fewer ≡ Unfinished) → (s.pc ≡ 0 → ⊥) → fewer < steps_of program s (suc steps) → stop_of s fewer ≡ Unfinished
  before_from s steps zero again on less = ap (λ (r : Ran). r.stop) (run_of-used_up program s on)
  before_from s steps (suc fewer) again on less =
      let turn = steps_of-moved s steps (step program s) on refl in
      ap (λ (r : Ran). r.stop) (run_of-turn program s fewer on)
      ∙ goes_before s steps fewer (step program s) (λ next. again next fewer) (omega (arith, less, turn))

  -- with fewer steps than it takes a run isn't over
  pub not_over_before : (s : State) (steps fewer : ℕ) → fewer < steps_of program s steps → stop_of s fewer ≡ Unfinished
  not_over_before s zero fewer less = absurd (omega (arith, less))
  not_over_before s (suc steps) fewer less =
      ⊎_elim
      (λ at. absurd (omega (arith, less, steps_of-at_zero s (suc steps) at)))
      (λ on. before_from s steps fewer (λ next. not_over_before next steps) on less)
      (cases_eq s.pc 0)

  -- a step of a run that is over later
  ends_after : (s : State) (steps : ℕ) (m : Moved) → (s.pc ≡ 0 → ⊥) → step program s ≡ m → ((next : State) → stop_of next steps ≢ Unfinished → run_of program next (steps_of program next steps) ≡ run_of program next steps) → (after_step m s (λ next. run_of program next steps)).stop ≢ Unfinished → run_of program s (steps_from m (λ next. steps_of program next steps)) ≡ after_step m s (λ next. run_of program next steps)
  ends_after s steps (GoesOn next) on by again over = run_of-moved program s (steps_of program next steps) (GoesOn next) on by ∙ again next over
  ends_after s steps (Writes next bytes) on by again over = run_of-moved program s (steps_of program next steps) (Writes next bytes) on by ∙ ap (after_output bytes) (again next over)
  ends_after s steps (Faults kind) on by again over = run_of-moved program s 0 (Faults kind) on by
  ends_after s steps (Throws kind place) on by again over = run_of-moved program s 0 (Throws kind place) on by

  over_then : (s : State) (steps : ℕ) → stop_of s steps ≢ Unfinished → run_of program s (steps_of program s steps) ≡ run_of program s steps
  over_then s zero over = refl
  over_then s (suc steps) over =
      ⊎_elim
      (λ at. run_of-at_zero program s (steps_of program s (suc steps)) at ∙ sym (run_of-at_zero program s (suc steps) at))
      (λ on.
      ap (run_of program s) (steps_of-moved s steps (step program s) on refl)
      ∙ ends_after s steps (step program s) on refl (λ next. over_then next steps) (λ h. over (ap (λ (r : Ran). r.stop) (run_of-turn program s steps on) ∙ h))
      ∙ sym (run_of-turn program s steps on))
      (cases_eq s.pc 0)

  -- a run that is over is over after the steps that it took
  pub over_after_taken : (s : State) (steps : ℕ) (ran : Ran) → run_of program s steps ≡ ran → ran.stop ≢ Unfinished → run_of program s (steps_of program s steps) ≡ ran
  over_after_taken s steps ran e over = over_then s steps (λ h. over (sym (ap (λ (r : Ran). r.stop) e) ∙ h)) ∙ e

  -- steps from the start, where none were taken
  pub counts-start : (start : State) → StepsBetween program start start 0
  counts-start start k = let sum : 0 + k ≡ k = omega arith in ap (steps_of program start) sum ∙ (let more : steps_of program start k ≡ 0 + steps_of program start k = omega arith in more)

  -- a step went on
  pub counts-moved : (start now next : State) (count : ℕ) → StepsBetween program start now count → ((k : ℕ) → steps_of program now (suc k) ≡ suc (steps_of program next k)) → StepsBetween program start next (count + 1)
  counts-moved start now next count counts by k =
      let sum : count + 1 + k ≡ count + suc k = omega arith in
      ap (steps_of program start) sum ∙ counts (suc k) ∙ (let e = by k in omega (arith, e))

  -- a step of a run that isn't over later
  counts_through : (s middle : State) (first : ℕ) (m : Moved) → ((next : State) → stop_of next first ≡ Unfinished → (run_of program next first).state ≡ middle → StepsBetween program next middle first) → (after_step m s (λ next. run_of program next first)).stop ≡ Unfinished → (after_step m s (λ next. run_of program next first)).state ≡ middle → (rest : ℕ) → steps_from m (λ next. steps_of program next (first + rest)) ≡ suc first + steps_of program middle rest
  counts_through s middle first (GoesOn next) on e same rest = let h = on next e same rest in omega (arith, h)
  counts_through s middle first (Writes next bytes) on e same rest = let h = on next e same rest in omega (arith, h)
  counts_through s middle first (Faults kind) on e same rest = cc
  counts_through s middle first (Throws kind place) on e same rest = cc

  -- a run that isn't over takes the steps of its parts
  parts_from : (s middle : State) (first : ℕ) → stop_of s first ≡ Unfinished → (run_of program s first).state ≡ middle → StepsBetween program s middle first
  parts_from s middle zero e same =
      ⊎_elim
      (λ at. absurd (returned_apart s zero at e))
      (λ on rest. counts-start s rest ∙ ap (λ t. 0 + steps_of program t rest) (sym (ap (λ (r : Ran). r.state) (run_of-used_up program s on)) ∙ same))
      (cases_eq s.pc 0)
  parts_from s middle (suc first) e same =
      ⊎_elim
      (λ at. absurd (returned_apart s (suc first) at e))
      (λ on rest.
      let turn = run_of-turn program s first on in
      let sum : suc first + rest ≡ suc (first + rest) = omega arith in
      ap (steps_of program s) sum
      ∙ steps_of-moved s (first + rest) (step program s) on refl
      ∙ counts_through s middle first (step program s) (λ next. parts_from next middle first) (sym (ap (λ (r : Ran). r.stop) turn) ∙ e) (sym (ap (λ (r : Ran). r.state) turn) ∙ same) rest)
      (cases_eq s.pc 0)

  pub parts_take_steps : (s middle : State) (output : List ℕ) (first : ℕ) → run_of program s first ≡ record { stop = Unfinished; state = middle; output = output } → StepsBetween program s middle first
  parts_take_steps s middle output first e = parts_from s middle first (ap (λ (r : Ran). r.stop) e) (ap (λ (r : Ran). r.state) e)
