-- Where a run stands after some turns of its loop, and what it then comes to.
use Rattle.std.proofs.Common.{◌≡◌, ◌≢◌, ℕ, suc, ◌+◌, ◌-◌, ◌<◌, List, [], ◌∷◌, ◌++◌, ◌⊎◌, inl, inr, length, take, drop, Option, refl, sym}
use Rattle.std.proofs.Common.{ap, ◌∙◌, ⊎_elim, append-nil, append_assoc, arith, length-drop}
use Rattle.std.proofs.lemmas.Bool.{cases_eq}
use Rattle.std.proofs.lemmas.List.{take-append-drop}
use Rattle.rv_isa.specs.declared.instr.Instr.{Instr}
use Rattle.rv_machine.specs.declared.stops.Stop.{Stop}
use Rattle.rv_machine.specs.declared.stops.Stop.TheVariants.{Returned, TerraFault, MachineFault, Unfinished, WriteFault}
use Rattle.rv_machine.specs.Machine.{State, Moved, GoesOn, Writes, Faults, Throws, step, Ran, stands, after_output, run_of}
use Rattle.rv_machine.specs.Runs.{Agrees, IsBeforeWrite}
use Rattle.rv_machine.specs.Steps.{WentOn, StoppedAt, TookPart}
use Rattle.rv_machine.specs.Count.{count_after, steps_to, steps_of, StepsBetween, CountsToWrite}
use Rattle.rv_machine.proofs.Runs.{run_of-at_zero, run_of-used_up, run_of-moved, run_of-add, after_output-both}
use Rattle.rv_machine.proofs.Counts.{steps_of-at_zero, steps_of-moved, counts-moved}
use Rattle.rv_machine.proofs.Taken.{with_back-both}
use Rattle.tl_base.specs.Outside.{with_back}

-- the run from the start goes on as the run from here, after so many steps and this output
abbrev pub Comes : List (Option Instr) → State → State → ℕ → List ℕ → Type 0
Comes program start now count output = (k : ℕ) → run_of program start (count + k) ≡ after_output output (run_of program now k)

front_none : (a b : List ℕ) → a ++ b ≡ [] → a ≡ []
front_none [] b e = refl
front_none (x ∷ a) b e = cc

back_none : (a b : List ℕ) → a ++ b ≡ [] → b ≡ []
back_none [] b e = e
back_none (x ∷ a) b e = cc

pub comes-start : (program : List (Option Instr)) (start : State) → Comes program start start 0 []
comes-start program start k = let sum : 0 + k ≡ k = omega arith in ap (run_of program start) sum

module _ (program : List (Option Instr)) (start now : State) (count : ℕ) (output : List ℕ) (before here : Option (List ℕ)) (comes : Comes program start now count output) (took : here ≡ with_back before output) where
  -- the run stops here
  pub ends : (steps rest : ℕ) (stop : Stop) → count + rest ≡ steps → run_of program now rest ≡ stands stop now → Agrees (run_of program start steps) stop now before here
  ends steps rest stop sum at =
      let e : run_of program start steps ≡ after_output output (stands stop now) = ap (run_of program start) (sym sum) ∙ comes rest ∙ ap (after_output output) at in
      record {
        stops = ap (λ (r : Ran). r.stop) e;
        stands = ap (λ (r : Ran). r.state) e;
        took = took ∙ ap (with_back before) (sym (append-nil output) ∙ sym (ap (λ (r : Ran). r.output) e));
      }

  pub ends_at_zero : (steps : ℕ) → count < steps → now.pc ≡ 0 → Agrees (run_of program start steps) (Returned (now.registers 10)) now before here
  ends_at_zero steps more at = ends steps (steps - count) (Returned (now.registers 10)) (omega arith) (run_of-at_zero program now (steps - count) at)

  -- it was over
  pub over : (steps : ℕ) (stop : Stop) (after : Option (List ℕ)) → count < steps → now.pc ≡ 0 → (stop ≡ Returned (now.registers 10)) × (after ≡ here) → Agrees (run_of program start steps) stop now before after
  over steps stop after more at h =
      let a = ends_at_zero steps more at in
      record { stops = a.stops ∙ sym h.0; stands = a.stands; took = h.1 ∙ a.took }

  -- a step stopped it
  pub stopped : (steps : ℕ) (stop : Stop) (after : Option (List ℕ)) → count < steps → (now.pc ≡ 0 → ⊥) → StoppedAt stop now.pc (step program now) here after → stop ≢ WriteFault → Agrees (run_of program start steps) stop now before after
  stopped steps (MachineFault kind pc) after more on h other =
      let left = steps - count - 1 in
      let sum : count + suc left ≡ steps = omega arith in
      let at : run_of program now (suc left) ≡ stands (MachineFault kind pc) now = run_of-moved program now left (Faults kind) on h.0 ∙ ap (λ (n : ℕ). stands (MachineFault kind n) now) (sym h.1) in
      let a = ends steps (suc left) (MachineFault kind pc) sum at in
      record { stops = a.stops; stands = a.stands; took = h.2 ∙ a.took }
  stopped steps (TerraFault kind place) after more on h other =
      let left = steps - count - 1 in
      let sum : count + suc left ≡ steps = omega arith in
      let a = ends steps (suc left) (TerraFault kind place) sum (run_of-moved program now left (Throws kind place) on h.0) in
      record { stops = a.stops; stands = a.stands; took = h.1 ∙ a.took }
  stopped steps WriteFault after more on h other = absurd (other refl)
  stopped steps (Returned value) after more on h other = absurd h
  stopped steps Unfinished after more on h other = absurd h

  -- the sink stopped it
  came_to_write : (steps : ℕ) (after : Option (List ℕ)) → count < steps → (now.pc ≡ 0 → ⊥) → TookPart (step program now) here after → (came : IsBeforeWrite program start steps now before after) × (came.done ≡ count)
  came_to_write steps after more on h =
      let sum : count ≡ count + 0 = omega arith in (
        record {
          done = count;
          fewer = more;
          output = output;
          comes =
              ap (run_of program start) sum
              ∙ comes 0
              ∙ ap (after_output output) (run_of-used_up program now on)
              ∙ ap (λ (o : List ℕ). record { stop = Unfinished; state = now; output = o }) (append-nil output);
          next = h.next;
          bytes = h.bytes;
          writes = h.writes;
          front = h.front.front;
          part = h.front.part;
          took =
              h.front.took
              ∙ ap (λ t. with_back t (take h.front.front h.bytes)) took
              ∙ with_back-both before output (take h.front.front h.bytes);
        },
        refl,
      )

  pub before_write : (steps : ℕ) (after : Option (List ℕ)) → count < steps → (now.pc ≡ 0 → ⊥) → TookPart (step program now) here after → IsBeforeWrite program start steps now before after
  before_write steps after more on h = (came_to_write steps after more on h).0

  -- and the steps up to there were counted
  pub counts_to_write : (steps : ℕ) (after : Option (List ℕ)) (old new : ℕ) → count < steps → (now.pc ≡ 0 → ⊥) → TookPart (step program now) here after → new ≡ count_after old count → CountsToWrite program start steps now before after old new
  counts_to_write steps after old new more on h e =
      let came = came_to_write steps after more on h in (came.0, e ∙ ap (count_after old) (sym came.1))

  -- a run that wrote nothing wrote nothing before
  pub none_before : (steps : ℕ) → count < steps ⊎ count ≡ steps → (run_of program start steps).output ≡ [] → output ≡ []
  none_before steps (inl more) e = front_none output (run_of program now (steps - count)).output (ap (λ (r : Ran). r.output) (sym (comes (steps - count)) ∙ (let sum : count + (steps - count) ≡ steps = omega arith in ap (run_of program start) sum)) ∙ e)
  none_before steps (inr last) e = front_none output (run_of program now 0).output (ap (λ (r : Ran). r.output) (sym (comes 0) ∙ (let sum : count + 0 ≡ steps = omega arith in ap (run_of program start) sum)) ∙ e)

  -- a step went on
  pub went_on : (next : State) (after : Option (List ℕ)) (moved : Moved) (same same_before same_after : Type 0) → (output ≡ [] → same_before) → (same_before → same → same_after) → (now.pc ≡ 0 → ⊥) → step program now ≡ moved → WentOn moved next here after same → (more : List ℕ) × (after ≡ with_back before more) × Comes program start next (count + 1) more × (more ≡ [] → same_after)
  went_on next after (GoesOn n) same same_before same_after quiet join on by h = (
    output,
    h.1 ∙ took,
    λ k.
        (let sum : count + 1 + k ≡ count + suc k = omega arith in
        ap (run_of program start) sum
        ∙ comes (suc k)
        ∙ ap (after_output output) (run_of-moved program now k (GoesOn n) on by ∙ ap (λ (s : State). run_of program s k) h.0)),
    λ none. join (quiet none) h.2,
  )
  went_on next after (Writes n bytes) same same_before same_after quiet join on by h = (
    output ++ bytes,
    h.1 ∙ ap (λ t. with_back t bytes) took ∙ with_back-both before output bytes,
    λ k.
        (let sum : count + 1 + k ≡ count + suc k = omega arith in
        ap (run_of program start) sum
        ∙ comes (suc k)
        ∙ ap (after_output output) (run_of-moved program now k (Writes n bytes) on by ∙ ap (λ (s : State). after_output bytes (run_of program s k)) h.0)
        ∙ after_output-both output bytes (run_of program next k)),
    λ none. absurd (h.2 (back_none output bytes none)),
  )
  went_on next after (Faults kind) same same_before same_after quiet join on by h = absurd h
  went_on next after (Throws kind place) same same_before same_after quiet join on by h = absurd h

-- the steps of a run that stopped at a step
pub steps_to_stop : (program : List (Option Instr)) (start now : State) (count steps : ℕ) (stop : Stop) (here after : Option (List ℕ)) → StepsBetween program start now count → count < steps → (now.pc ≡ 0 → stop ≡ Returned (now.registers 10)) → ((now.pc ≡ 0 → ⊥) → StoppedAt stop now.pc (step program now) here after) → stop ≢ WriteFault → steps_of program start steps ≡ count + steps_to stop
steps_to_stop program start now count steps stop here after between more over at other =
    let left = steps - count - 1 in
    let sum : steps ≡ count + suc left = omega (arith, more) in
    ap (steps_of program start) sum
    ∙ between (suc left)
    ∙ ap (λ n. count + n) (⊎_elim (λ zero. steps_of-at_zero program now (suc left) zero ∙ sym (ap steps_to (over zero))) (λ on. last left on stop (at on) other) (cases_eq now.pc 0))
  where
    last : (left : ℕ) → (now.pc ≡ 0 → ⊥) → (stop : Stop) → StoppedAt stop now.pc (step program now) here after → stop ≢ WriteFault → steps_of program now (suc left) ≡ steps_to stop
    last left on (MachineFault kind pc) h other = steps_of-moved program now left (Faults kind) on h.0
    last left on (TerraFault kind place) h other = steps_of-moved program now left (Throws kind place) on h.0
    last left on WriteFault h other = absurd (other refl)
    last left on (Returned value) h other = absurd h
    last left on Unfinished h other = absurd h

-- a step that went on leads one step further
pub between_on : (program : List (Option Instr)) (start now next : State) (count : ℕ) (here after : Option (List ℕ)) (same : Type 0) → StepsBetween program start now count → (now.pc ≡ 0 → ⊥) → WentOn (step program now) next here after same → StepsBetween program start next (count + 1)
between_on program start now next count here after same between on went =
    counts-moved program start now next count between (λ k. from k (step program now) refl went)
  where
    from : (k : ℕ) (moved : Moved) → step program now ≡ moved → WentOn moved next here after same → steps_of program now (suc k) ≡ suc (steps_of program next k)
    from k (GoesOn n) by h = steps_of-moved program now k (GoesOn n) on by ∙ ap (λ (s : State). suc (steps_of program s k)) h.0
    from k (Writes n bytes) by h = steps_of-moved program now k (Writes n bytes) on by ∙ ap (λ (s : State). suc (steps_of program s k)) h.0
    from k (Faults kind) by h = absurd h
    from k (Throws kind place) by h = absurd h

-- steps behind steps
pub between-both : (program : List (Option Instr)) (start middle now : State) (first second : ℕ) → StepsBetween program start middle first → StepsBetween program middle now second → StepsBetween program start now (first + second)
between-both program start middle now first second one two rest =
    let sum : first + second + rest ≡ first + (second + rest) = omega arith in
    ap (steps_of program start) sum ∙ one (second + rest) ∙ (let e = two rest in omega (arith, e))

-- the output of a run that comes before a write: what was written before, the bytes of that write, and more
pub writes_output : (program : List (Option Instr)) (start : State) (steps : ℕ) (s : State) (before after : Option (List ℕ)) → (h : IsBeforeWrite program start steps s before after) → (run_of program start steps).output ≡ h.output ++ (h.bytes ++ (run_of program h.next (steps - h.done - 1)).output)
writes_output program start steps s before after h =
    let left = steps - h.done - 1 in
    let sum : h.done + suc left ≡ steps = omega (arith, h.fewer) in
    let on : s.pc ≡ 0 → ⊥ = λ at. not_paused s s h.output h.output (sym (ap (after_output h.output) (run_of-at_zero program s 0 at)) ∙ sym (run_of-add program start s h.output h.done 0 h.comes) ∙ (let same : h.done + 0 ≡ h.done = omega arith in ap (run_of program start) same) ∙ h.comes) in
    let wrote : run_of program start steps ≡ after_output h.output (after_output h.bytes (run_of program h.next left)) =
    ap (run_of program start) (sym sum)
    ∙ run_of-add program start s h.output h.done (suc left) h.comes
    ∙ ap (after_output h.output) (run_of-moved program s left (Writes h.next h.bytes) on h.writes) in
    ap (λ (r : Ran). r.output) wrote
  where
    not_paused : (r a : State) (output more : List ℕ) → ◌≡◌ {A = Ran} (after_output output (stands (Returned (r.registers 10)) r)) (record { stop = Unfinished; state = a; output = more }) → ⊥
    not_paused r a output more e = let k = ap (λ (r : Ran). r.stop) e in cc

-- a run that comes before a write writes something
pub writes_some : (program : List (Option Instr)) (start : State) (steps : ℕ) (s : State) (before after : Option (List ℕ)) → IsBeforeWrite program start steps s before after → (run_of program start steps).output ≡ [] → ⊥
writes_some program start steps s before after h none =
    let more = (run_of program h.next (steps - h.done - 1)).output in
    let nothing : h.output ++ (h.bytes ++ more) ≡ [] = sym (writes_output program start steps s before after h) ∙ none in
    let no_bytes : h.bytes ≡ [] = front_none h.bytes more (back_none h.output (h.bytes ++ more) nothing) in
    omega (arith, ap length no_bytes, h.part)

-- what a sink took of a run that it stopped, with what comes behind it
pub writes_front : (program : List (Option Instr)) (start : State) (steps : ℕ) (s : State) (before after : Option (List ℕ)) → (h : IsBeforeWrite program start steps s before after) → (run_of program start steps).output ≡ (h.output ++ take h.front h.bytes) ++ (drop h.front h.bytes ++ (run_of program h.next (steps - h.done - 1)).output)
writes_front program start steps s before after h =
    let more = (run_of program h.next (steps - h.done - 1)).output in
    let cut : h.bytes ≡ take h.front h.bytes ++ drop h.front h.bytes = sym (take-append-drop h.front h.bytes) in
    writes_output program start steps s before after h
    ∙ ap (λ (b : List ℕ). h.output ++ (b ++ more)) cut
    ∙ ap (λ (b : List ℕ). h.output ++ b) (append_assoc (take h.front h.bytes) (drop h.front h.bytes) more)
    ∙ sym (append_assoc h.output (take h.front h.bytes) (drop h.front h.bytes ++ more))

-- and something comes behind it
pub writes_more : (program : List (Option Instr)) (start : State) (steps : ℕ) (s : State) (before after : Option (List ℕ)) → (h : IsBeforeWrite program start steps s before after) → drop h.front h.bytes ++ (run_of program h.next (steps - h.done - 1)).output ≡ [] → ⊥
writes_more program start steps s before after h none =
    let no_bytes : drop h.front h.bytes ≡ [] = front_none (drop h.front h.bytes) (run_of program h.next (steps - h.done - 1)).output none in
    omega (arith, ap length no_bytes, length-drop h.front h.bytes, h.part)
