-- A machine that an image was loaded into, and that was started and run, has the image's run and its least number of steps.
use Rattle.std.proofs.Common.{◌≡◌, ◌≢◌, ℕ, zero, suc, ◌+◌, ◌-◌, ◌<◌, ◌≤◌, Bool, true, false, List, [], length, Option, Some, refl, sym, ap, ap₂, ◌∙◌, subst, arith}
use Rattle.std.specs.Prelude.{◌^◌, nat_eq, min, if◌then◌else◌}
use Rattle.elf_image.specs.declared.image.Image.{Image}
use Rattle.rv_isa.specs.declared.instr.Instr.{Instr}
use Rattle.rv_machine.specs.declared.stops.Stop.{Stop}
use Rattle.rv_machine.specs.declared.stops.Stop.TheVariants.{Unfinished}
use Rattle.rv_machine.specs.Machine.{State, Ran, Moved, GoesOn, Writes, Faults, Throws, step, run_of, start_state, loaded_state}
use Rattle.rv_machine.specs.Program.{IsProgram}
use Rattle.rv_machine.specs.Runs.{Agrees}
use Rattle.rv_machine.specs.Count.{steps_of, steps_from, count_after, OverAfterTaken, NotOverBefore}
use Rattle.rv_machine.specs.ImageRun.{RvRun, EndsAfter, MachinesRunImages, OneRun, region_bytes, private_bytes}
use Rattle.stage_loop.specs.declared.running.MachineRan.{MachineRan}
use Rattle.stage_loop.specs.Machines.{HasRun}

-- a run takes no more steps than it may
moved-few : (m : Moved) (go : State → ℕ) (n : ℕ) → ((next : State) → go next ≤ n) → steps_from m go ≤ suc n
moved-few (GoesOn next) go n h = omega (arith, h next)
moved-few (Writes next bytes) go n h = omega (arith, h next)
moved-few (Faults kind) go n h = omega arith
moved-few (Throws kind place) go n h = omega arith

few-steps : (program : List (Option Instr)) (s : State) (n : ℕ) → steps_of program s n ≤ n
few-steps program s zero = omega arith
few-steps program s (suc n) = by (nat_eq s.pc 0) (λ next. few-steps program next n)
  where
    by : (b : Bool) → ((next : State) → steps_of program next n ≤ n) →
        (if b then 0 else steps_from (step program s) (λ next. steps_of program next n)) ≤ suc n
    by true fewer = omega arith
    by false fewer = moved-few (step program s) (λ next. steps_of program next n) n fewer

module _ (machines : MachinesRunImages) (one : OneRun) (over_after : OverAfterTaken) (not_before : NotOverBefore) (image : Image)
    (address : ℕ) (arguments : List ℕ) (most : ℕ) (program : List (Option Instr)) (heap : ℕ) (loaded : State)
    (few : length arguments ≤ 8) (decoded : IsProgram image.text program) (heap_is : heap ≡ image.heap)
    (loaded_is : loaded ≡ loaded_state (region_bytes image) (private_bytes image)) where
  abbrev start : State
  start = start_state address heap arguments loaded.region loaded.private

  has-run : (n : ℕ) → RvRun image address arguments n (run_of program start n)
  has-run n = machines image program heap loaded address arguments n few decoded heap_is loaded_is

  ends-after : (run_of program start most).stop ≢ Unfinished →
      EndsAfter image address arguments (steps_of program start most) (run_of program start most)
  ends-after over = record {
    runs = subst (λ (r : Ran). RvRun image address arguments (steps_of program start most) r)
        (over_after program start most (run_of program start most) refl over) (has-run (steps_of program start most));
    over = over;
    least = λ fewer other less runs.
        ap (λ (r : Ran). r.stop) (one image address arguments fewer other (run_of program start fewer) runs (has-run fewer))
        ∙ not_before program start most fewer less;
  }

  pub ran-so : (p : List (Option Instr)) (s : State) (t : ℕ) (stop : Stop) (last : State) (taken : ℕ) (bytes : List ℕ) (it : MachineRan) →
      p ≡ program → s ≡ start → t ≡ 0 → Agrees (run_of p s most) stop last (Some []) (Some bytes) →
      taken ≡ count_after t (steps_of p s most) → most < 2 ^ 64 →
      it.stop ≡ stop → it.left ≡ last.registers 9 → it.steps ≡ taken → it.output ≡ bytes → HasRun image address arguments most it
  ran-so p s t stop last taken bytes it same_program same_start none ran counted short stops left steps output =
      let same : run_of p s most ≡ run_of program start most = rw (same_program, same_start) refl in
      let taken_is : taken ≡ count_after 0 (steps_of program start most) =
      counted ∙ rw (none, same_program, same_start) refl in
      let at_most = few-steps program start most in
      let numbers : it.steps ≡ steps_of program start most = steps ∙ (taken_is ∙ small (steps_of program start most) (omega (arith, at_most, short))) in
      let written : (run_of p s most).output ≡ bytes = back (run_of p s most).output bytes ran.took in
      record {
        ran = run_of program start most;
        runs = has-run most;
        stop = sym (ap (λ (r : Ran). r.stop) same) ∙ (ran.stops ∙ sym stops);
        left = sym (ap (λ (r : Ran). r.state.registers 9) same) ∙ (ap (λ (x : State). x.registers 9) ran.stands ∙ sym left);
        output = sym (ap (λ (r : Ran). r.output) same) ∙ (written ∙ sym output);
        ends = λ over. subst (λ (k : ℕ). EndsAfter image address arguments k (run_of program start most)) (sym numbers) (ends-after over);
      }
    where
      small : (k : ℕ) → k < 2 ^ 64 → count_after 0 k ≡ k
      small k less = omega (arith, less)

      back : (o bytes : List ℕ) → Some bytes ≡ Some o → o ≡ bytes
      back o bytes h = cc
