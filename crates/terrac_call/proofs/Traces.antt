-- The lines of a trace: those of one step, and those behind it.
use Rattle.std.proofs.Common.{◌≡◌, ◌≢◌, ℕ, zero, suc, ◌+◌, ◌-◌, Bool, true, false, List, [], ◌∷◌, ◌++◌, Option, Some, None, refl, sym, ap, ap₂}
use Rattle.std.proofs.Common.{subst, ◌∙◌, ◌⊎◌, inl, inr, ◌<◌, ◌≤◌, length, append-nil, arith}
use Rattle.std.proofs.lemmas.Bool.{cases_lt, eq-eqb, le-ltb, lt-ltb, ne_eqb}
use Rattle.std.specs.Prelude.{nat_eq, nat_lt, not, if◌then◌else◌, slice_get, slice_index, ◌/◌, ◌%◌}
use Rattle.std.specs.List.{concat}
use Rattle.tl_base.specs.Outside.{IsFront}
use Rattle.tl_base.specs.declared.limits.TheConstants.{TEXT_ADDRESS}
use Rattle.rv_isa.specs.declared.instr.Instr.{Instr}
use Rattle.rv_isa.specs.Finds.{Finds}
use Rattle.rv_isa.specs.Table.{word_of}
use Rattle.rv_isa.proofs.Found.{found_some}
use Rattle.rv_machine.specs.declared.stops.Stop.{Stop}
use Rattle.rv_machine.specs.declared.stops.Stop.TheVariants as stops
use Rattle.rv_machine.specs.Machine.{State, Moved, GoesOn, Writes, Faults, Throws, Ran, fetch, obeys, step, run_of, after_step, after_output}
use Rattle.rv_machine.specs.Machine.{stands, register_at}
use Rattle.rv_machine.specs.Program.{IsProgram}
use Rattle.rv_machine.proofs.Programs.{not_at_zero}
use Rattle.rv_machine.proofs.Runs.{run_of-moved}
use Rattle.rv_listing.specs.Texts.{IsWordText, text_in}
use Rattle.rv_listing.specs.Trace.{Trace, after_move, change_of, change_text, register_change, trace_line, traced, written_by}
use Rattle.terrac_call.specs.Tracing.{Ended, Fetched, change_behind, lines_of}

-- ---- one word

found_same : (w : ℕ) (a b : Option Instr) → Finds word_of w a → Finds word_of w b → a ≡ b
found_same w (Some i) b p q = sym ((found_some w b q i).1 p)
found_same w None None p q = refl
found_same w None (Some j) p q = absurd (p j q)

text_same : (w : ℕ) (found : Option Instr) (text : List ℕ) → Finds word_of w found → IsWordText w text → text ≡ text_in w found
text_same w found text is said = said.2 ∙ ap (λ (f : Option Instr). text_in w f) (found_same w said.0 found said.1 is)

-- ---- what is fetched

found_in : (words : List ℕ) (program : List (Option Instr)) (i : ℕ) → IsProgram words program → i < length words
    → (found : Option Instr) × (slice_get program i ≡ Some found) × Finds word_of (slice_index words i) found
found_in [] program i is few = absurd (omega arith)
found_in (w ∷ words) [] i is few = absurd is
found_in (w ∷ words) (f ∷ program) zero is few = (f, refl, is.0)
found_in (w ∷ words) (f ∷ program) (suc i) is few = found_in words program i is.1 (omega (arith, few))

none_in : (words : List ℕ) (program : List (Option Instr)) (i : ℕ) → IsProgram words program → length words ≤ i
    → slice_get program i ≡ None
none_in [] [] i is far = refl
none_in [] (f ∷ program) i is far = absurd is
none_in (w ∷ words) [] i is far = absurd is
none_in (w ∷ words) (f ∷ program) zero is far = absurd (omega arith)
none_in (w ∷ words) (f ∷ program) (suc i) is far = none_in words program i is.1 (omega (arith, far))

module _ (program : List (Option Instr)) (pc : ℕ) where
  abbrev in_text : Bool → Bool → Option (Option Instr)
  in_text before even = if before then None else (if even then slice_get program ((pc - TEXT_ADDRESS) / 4) else None)

  below : pc < TEXT_ADDRESS → fetch program pc ≡ None
  unfolding fetch
  below less = ap (λ (b : Bool). in_text b (nat_eq (pc % 4) 0)) (lt-ltb pc TEXT_ADDRESS less)

  uneven : TEXT_ADDRESS ≤ pc → pc % 4 ≢ 0 → fetch program pc ≡ None
  unfolding fetch
  uneven least odd =
      ap (λ (b : Bool). in_text b (nat_eq (pc % 4) 0)) (le-ltb pc TEXT_ADDRESS least)
      ∙ ap (λ (b : Bool). in_text false b) (ne_eqb (pc % 4) 0 odd)

  lies : TEXT_ADDRESS ≤ pc → pc % 4 ≡ 0 → fetch program pc ≡ slice_get program ((pc - TEXT_ADDRESS) / 4)
  unfolding fetch
  lies least even =
      ap (λ (b : Bool). in_text b (nat_eq (pc % 4) 0)) (le-ltb pc TEXT_ADDRESS least)
      ∙ ap (λ (b : Bool). in_text false b) (eq-eqb (pc % 4) 0 even)

module _ (words : List ℕ) (pc : ℕ) where
  pub fetched_outside : (pc < TEXT_ADDRESS) ⊎ (pc % 4 ≢ 0) → Fetched words pc None
  fetched_outside (inl less) program is = below program pc less
  fetched_outside (inr odd) program is =
      elim (cases_lt pc TEXT_ADDRESS) [ inl less ↦ below program pc less | inr least ↦ uneven program pc least odd ]

  pub fetched_behind : TEXT_ADDRESS ≤ pc → pc % 4 ≡ 0 → length words ≤ (pc - TEXT_ADDRESS) / 4 → Fetched words pc None
  fetched_behind least even far program is = lies program pc least even ∙ none_in words program ((pc - TEXT_ADDRESS) / 4) is far

  pub fetched_word : (word : ℕ) → TEXT_ADDRESS ≤ pc → pc % 4 ≡ 0 → (pc - TEXT_ADDRESS) / 4 < length words
      → slice_index words ((pc - TEXT_ADDRESS) / 4) ≡ word → Fetched words pc (Some word)
  fetched_word word least even few there program is =
      let found = found_in words program ((pc - TEXT_ADDRESS) / 4) is few in (
        found.0,
        lies program pc least even ∙ found.1,
        subst (λ (w : ℕ). Finds word_of w found.0) there found.2,
        there,
      )

-- ---- steps

none_behind : (moved : Moved) → after_move moved (λ (m : State). []) ≡ []
none_behind (GoesOn m) = refl
none_behind (Writes m bytes) = refl
none_behind (Faults kind) = refl
none_behind (Throws kind place) = refl

module _ (program : List (Option Instr)) (words : List ℕ) where
  abbrev word_in : State → ℕ
  word_in s = slice_index words ((s.pc - TEXT_ADDRESS) / 4)

  abbrev paused : State → List ℕ → Ran
  paused next output = record { stop = stops.Unfinished; state = next; output = output }

  -- where no step is left, a run stands where it stood
  stays : (m next : State) (output : List ℕ) → run_of program m 0 ≡ paused next output → m ≡ next
  stays m next output h = by (nat_eq m.pc 0) h
    where
      by : (b : Bool) → (if b then stands (stops.Returned (m.registers 10)) m else stands stops.Unfinished m) ≡ paused next output → m ≡ next
      by true h = let k = ap (λ (r : Ran). r.stop) h in absurd cc
      by false h = ap (λ (r : Ran). r.state) h

  stays_behind : (m next : State) (bytes output : List ℕ) → after_output bytes (run_of program m 0) ≡ paused next output → m ≡ next
  stays_behind m next bytes output h = by (nat_eq m.pc 0) h
    where
      by : (b : Bool) → after_output bytes (if b then stands (stops.Returned (m.registers 10)) m else stands stops.Unfinished m)
          ≡ paused next output → m ≡ next
      by true h = let k = ap (λ (r : Ran). r.stop) h in absurd cc
      by false h = ap (λ (r : Ran). r.state) h

  -- a run that is over has no lines
  over : (m : State) → (run_of program m 0).stop ≢ stops.Unfinished → (n k : ℕ) → Trace program words m n k ≡ []
  over m h n zero = refl
  over m h n (suc k) = by (nat_eq m.pc 0) h
    where
      by : (b : Bool) → (if b then stands (stops.Returned (m.registers 10)) m else stands stops.Unfinished m).stop ≢ stops.Unfinished
          → (if b then [] else traced (fetch program m.pc) (word_in m) n m (λ next. Trace program words next (n + 1) k)) ≡ []
      by true h = refl
      by false h = absurd (h refl)

  moved_on : (moved : Moved) (s next : State) (n k : ℕ) (output : List ℕ)
      → after_step moved s (λ m. run_of program m 0) ≡ paused next output
      → after_move moved (λ m. Trace program words m n k) ≡ Trace program words next n k
  moved_on (GoesOn m) s next n k output h = ap (λ (x : State). Trace program words x n k) (stays m next output h)
  moved_on (Writes m bytes) s next n k output h = ap (λ (x : State). Trace program words x n k) (stays_behind m next bytes output h)
  moved_on (Faults kind) s next n k output h = let e = ap (λ (r : Ran). r.stop) h in absurd cc
  moved_on (Throws kind place) s next n k output h = let e = ap (λ (r : Ran). r.stop) h in absurd cc

  moved_last : (moved : Moved) (s : State) (n k : ℕ) → (after_step moved s (λ m. run_of program m 0)).stop ≢ stops.Unfinished
      → after_move moved (λ m. Trace program words m n k) ≡ []
  moved_last (GoesOn m) s n k h = over m h n k
  moved_last (Writes m bytes) s n k h = over m h n k
  moved_last (Faults kind) s n k h = refl
  moved_last (Throws kind place) s n k h = refl

  -- the lines behind a step that doesn't end the run
  pub lines_on : (s next : State) (n k : ℕ) (output : List ℕ) → run_of program s 1 ≡ paused next output
      → lines_of program words s n (suc k) ≡ lines_of program words s n 1 ++ lines_of program words next (n + 1) k
  lines_on s next n k output h = by (nat_eq s.pc 0) h
    where
      rest : List ℕ
      rest = concat (Trace program words next (n + 1) k)

      at : (got : Option (Option Instr)) → after_step (obeys got s) s (λ m. run_of program m 0) ≡ paused next output
          → concat (traced got (word_in s) n s (λ m. Trace program words m (n + 1) k))
          ≡ concat (traced got (word_in s) n s (λ m. [])) ++ concat (Trace program words next (n + 1) k)
      at None h = let k = ap (λ (r : Ran). r.stop) h in absurd cc
      at (Some found) h =
          let moved = obeys (Some found) s in
          let line = trace_line n s.pc (text_in (word_in s) found) (change_of (written_by found s) moved) in
          ap (λ (o : List (List ℕ)). line ++ concat o) (moved_on moved s next (n + 1) k output h)
          ∙ ap (λ (o : List ℕ). o ++ concat (Trace program words next (n + 1) k))
          (sym (ap (λ (o : List (List ℕ)). line ++ concat o) (none_behind moved) ∙ append-nil line))

      by : (b : Bool)
          → (if b then stands (stops.Returned (s.registers 10)) s else after_step (step program s) s (λ m. run_of program m 0))
          ≡ paused next output
          → concat (if b then [] else traced (fetch program s.pc) (word_in s) n s (λ m. Trace program words m (n + 1) k))
          ≡ concat (if b then [] else traced (fetch program s.pc) (word_in s) n s (λ m. []))
          ++ concat (Trace program words next (n + 1) k)
      by true h = let k = ap (λ (r : Ran). r.stop) h in absurd cc
      by false h = at (fetch program s.pc) h

  -- and behind one that does
  pub lines_last : (s : State) (n k : ℕ) → (run_of program s 1).stop ≢ stops.Unfinished
      → lines_of program words s n (suc k) ≡ lines_of program words s n 1
  lines_last s n k h = by (nat_eq s.pc 0) h
    where
      at : (got : Option (Option Instr)) → (after_step (obeys got s) s (λ m. run_of program m 0)).stop ≢ stops.Unfinished
          → concat (traced got (word_in s) n s (λ m. Trace program words m (n + 1) k))
          ≡ concat (traced got (word_in s) n s (λ m. []))
      at None h = refl
      at (Some found) h =
          let moved = obeys (Some found) s in
          let line = trace_line n s.pc (text_in (word_in s) found) (change_of (written_by found s) moved) in
          ap (λ (o : List (List ℕ)). line ++ concat o) (moved_last moved s (n + 1) k h ∙ sym (none_behind moved))

      by : (b : Bool)
          → (if b then stands (stops.Returned (s.registers 10)) s else after_step (step program s) s (λ m. run_of program m 0)).stop
          ≢ stops.Unfinished
          → concat (if b then [] else traced (fetch program s.pc) (word_in s) n s (λ m. Trace program words m (n + 1) k))
          ≡ concat (if b then [] else traced (fetch program s.pc) (word_in s) n s (λ m. []))
      by true h = refl
      by false h = at (fetch program s.pc) h

  -- in any case the lines of a step come first
  pub lines_first : (s : State) (n k : ℕ) → IsFront (lines_of program words s n 1) (lines_of program words s n (suc k))
  lines_first s n k = by (nat_eq s.pc 0)
    where
      at : (got : Option (Option Instr)) → IsFront (concat (traced got (word_in s) n s (λ m. [])))
          (concat (traced got (word_in s) n s (λ m. Trace program words m (n + 1) k)))
      at None = ([], refl)
      at (Some found) =
          let moved = obeys (Some found) s in
          let line = trace_line n s.pc (text_in (word_in s) found) (change_of (written_by found s) moved) in
          let rest = concat (after_move moved (λ m. Trace program words m (n + 1) k)) in (
            rest,
            ap (λ (o : List ℕ). o ++ rest)
                (sym (ap (λ (o : List (List ℕ)). line ++ concat o) (none_behind moved) ∙ append-nil line)),
          )

      by : (b : Bool) → IsFront (concat (if b then [] else traced (fetch program s.pc) (word_in s) n s (λ m. [])))
          (concat (if b then [] else traced (fetch program s.pc) (word_in s) n s (λ m. Trace program words m (n + 1) k)))
      by true = ([], refl)
      by false = at (fetch program s.pc)

  -- ---- the line of a step

  -- where nothing is fetched there is none
  pub no_line : (s : State) (n : ℕ) → fetch program s.pc ≡ None → lines_of program words s n 1 ≡ []
  no_line s n none = by (nat_eq s.pc 0)
    where
      by : (b : Bool) → concat (if b then [] else traced (fetch program s.pc) (word_in s) n s (λ m. [])) ≡ []
      by true = refl
      by false = ap (λ (o : Option (Option Instr)). concat (traced o (word_in s) n s (λ m. []))) none

  changed : (register : ℕ) (m : State)
      → change_text (if not (nat_eq register 0) then Some (register, register_at m register) else None)
      ≡ register_change register (register_at m register)
  changed register m = by (nat_eq register 0)
    where
      by : (b : Bool) → change_text (if not b then Some (register, register_at m register) else None)
          ≡ (if b then [] else change_text (Some (register, register_at m register)))
      by true = refl
      by false = refl

  module _ (stop : Stop) (now : State) (register : ℕ) where
    changed_in : (m : State) → (run_of program m 0).stop ≡ stop → (run_of program m 0).state ≡ now
        → change_text (change_behind stop now register) ≡ register_change register (register_at m register)
    changed_in m a b = by (nat_eq m.pc 0) a b
      where
        by : (z : Bool) → (if z then stands (stops.Returned (m.registers 10)) m else stands stops.Unfinished m).stop ≡ stop
            → (if z then stands (stops.Returned (m.registers 10)) m else stands stops.Unfinished m).state ≡ now
            → change_text (change_behind stop now register) ≡ register_change register (register_at m register)
        by true a b =
            subst (λ (x : Stop). change_text (change_behind x now register) ≡ register_change register (register_at m register)) a
            (subst (λ (x : State). change_text (change_behind (stops.Returned (m.registers 10)) x register)
            ≡ register_change register (register_at m register)) b (changed register m))
        by false a b =
            subst (λ (x : Stop). change_text (change_behind x now register) ≡ register_change register (register_at m register)) a
            (subst (λ (x : State). change_text (change_behind stops.Unfinished x register)
            ≡ register_change register (register_at m register)) b (changed register m))

    changed_by : (moved : Moved) (s : State) → Ended (after_step moved s (λ m. run_of program m 0)) stop now
        → change_text (change_behind stop now register) ≡ change_of register moved
    changed_by (GoesOn m) s h = changed_in m h.stops h.stands
    changed_by (Writes m bytes) s h = changed_in m h.stops h.stands
    changed_by (Faults kind) s h = subst (λ (x : Stop). change_text (change_behind x now register) ≡ []) h.stops refl
    changed_by (Throws kind place) s h = subst (λ (x : Stop). change_text (change_behind x now register) ≡ []) h.stops refl

  -- the line that is written of a step is the one that it has
  pub step_line : (s : State) (n word : ℕ) (found : Option Instr) (text line : List ℕ) (change : Option (ℕ × ℕ)) (stop : Stop)
      (now : State) (register : ℕ) → fetch program s.pc ≡ Some found → Finds word_of word found → word_in s ≡ word
      → IsWordText word text → register ≡ written_by found s → Ended (run_of program s 1) stop now
      → change ≡ change_behind stop now register → line ≡ trace_line n s.pc text (change_text change)
      → line ≡ lines_of program words s n 1
  step_line s n word found text line change stop now register got is there said by ended changes line_is =
      let moved = obeys (Some found) s in
      let away = not_at_zero program s.pc found (sym got) in
      let turned : run_of program s 1 ≡ after_step moved s (λ m. run_of program m 0) =
      run_of-moved program s 0 moved away (ap (λ o. obeys o s) got) in
      let change_is : change_text change ≡ change_of (written_by found s) moved =
      ap change_text changes
      ∙ changed_by stop now register moved s (subst (λ (r : Ran). Ended r stop now) turned ended)
      ∙ ap (λ (x : ℕ). change_of x moved) by in
      let shown : lines_of program words s n 1
      ≡ trace_line n s.pc (text_in word found) (change_of (written_by found s) moved) =
      ap (λ (b : Bool). concat (if b then [] else traced (fetch program s.pc) (word_in s) n s (λ m. []))) (ne_eqb s.pc 0 away)
      ∙ ap (λ (o : Option (Option Instr)). concat (traced o (word_in s) n s (λ m. []))) got
      ∙ ap (λ (o : List (List ℕ)). trace_line n s.pc (text_in (word_in s) found) (change_of (written_by found s) moved) ++ concat o)
      (none_behind moved)
      ∙ append-nil (trace_line n s.pc (text_in (word_in s) found) (change_of (written_by found s) moved))
      ∙ ap (λ (x : ℕ). trace_line n s.pc (text_in x found) (change_of (written_by found s) moved)) there in
      line_is
      ∙ ap₂ (λ (t c : List ℕ). trace_line n s.pc t c) (text_same word found text is said) change_is
      ∙ sym shown

  -- so are the bytes that are written
  pub step_bytes : (s : State) (n address word : ℕ) (bytes : List ℕ) (change : Option (ℕ × ℕ)) (stop : Stop) (now : State)
      (register call : ℕ) → IsProgram words program → address ≡ s.pc → Fetched words address (Some word)
      → ((found : Option Instr) (x : State) → Finds word_of word found → x.registers 17 ≡ call → register ≡ written_by found x)
      → call ≡ s.registers 17 → Ended (run_of program s 1) stop now → change ≡ change_behind stop now register
      → (text : List ℕ) × IsWordText word text × (bytes ≡ trace_line n address text (change_text change))
      → bytes ≡ lines_of program words s n 1
  step_bytes s n address word bytes change stop now register call is same fetched by calls ended changes said =
      let got = subst (λ (a : ℕ). Fetched words a (Some word)) same fetched program is in
      step_line s n word got.0 said.0 bytes change stop now register got.1 got.2 got.3 said.1 (by got.0 s got.2 (sym calls)) ended changes
      (said.2 ∙ ap (λ (a : ℕ). trace_line n a said.0 (change_text change)) same)
