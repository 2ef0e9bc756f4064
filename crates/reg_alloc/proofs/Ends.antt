-- From intervals and homes for them to a right assignment.
use Rattle.std.proofs.Common.{◌≡◌, ℕ, zero, suc, ◌<◌, ◌≤◌, true, cond, ltb, List, length, Option, Some, None, refl, sym, ap, ◌∙◌}
use Rattle.std.proofs.Common.{subst, ⊎_elim, inl, arith}
use Rattle.std.specs.Prelude.{slice_get, MatchOption}
use Rattle.std.proofs.lemmas.Option.{slice_get_past}
use Rattle.std.proofs.lemmas.Bool.{cases_Bool, ltb-true, ltb-false, false≢true}
use Rattle.tac_form.specs.declared.tac.Tac.{Tac}
use Rattle.tac_form.specs.declared.graph.FlowBlock.{FlowBlock}
use Rattle.tac_form.specs.Graph.{graph_of}
use Rattle.tac_form.specs.Live.{at_place, at_step, read_within, IsLive, InUse, step_writes, written_in, is_just_written}
use Rattle.reg_alloc.specs.declared.assignment.Home.{Home}
use Rattle.reg_alloc.specs.declared.spans.Span.{Span}
use Rattle.reg_alloc.specs.Right.{IsRight}
use Rattle.reg_alloc.specs.Homes.{are_below}
use Rattle.reg_alloc.specs.Intervals.{IsPlace, place_number, IsCrowded, HasSlot}
use Rattle.reg_alloc.specs.Noted.{Covers, AreIntervals}
use Rattle.reg_alloc.specs.Scans.{AreHomes}
use Rattle.tac_live.proofs.Ways.{live-here}
use Rattle.reg_alloc.proofs.Whole.{used-below}

-- a place of a block, and in place of one behind its exit that before it
abbrev inside : Option FlowBlock → ℕ → ℕ
inside None at = at
inside (Some block) at = cond (ltb (length block.steps) at) (length block.steps) at

-- what is in use somewhere is in use inside
used-there : (graph : List FlowBlock) (b at t : ℕ) → InUse graph b at t →
    IsPlace graph b (inside (slice_get graph b) at) × InUse graph b (inside (slice_get graph b) at) t
used-there graph b at t u = by-block (slice_get graph b) refl
  where
    none : slice_get graph b ≡ None → ⊥
    none e = ⊎_elim (λ l. not-live l.0 l.1) (λ w. not-written at w) u
      where
        not-live : (k : ℕ) → read_within graph k b at t ≡ true → ⊥
        not-live zero h = false≢true h
        not-live (suc k) h =
            false≢true (sym (ap (λ o. at_place o at (λ c. read_within graph k c 0 t) (read_within graph k b (suc at) t) t) e) ∙ h)

        not-written : (i : ℕ) → is_just_written graph b i t ≡ true → ⊥
        not-written zero h = false≢true h
        not-written (suc i) h = false≢true (sym (ap (λ o. written_in o i t) e) ∙ h)

    at-exit : (block : FlowBlock) → slice_get graph b ≡ Some block → length block.steps < at → InUse graph b (length block.steps) t
    at-exit block e past = ⊎_elim (λ l. inl (live l.0 l.1)) (λ w. absurd (written at past w)) u
      where
        here : slice_get block.steps (length block.steps) ≡ None
        here = slice_get_past block.steps (length block.steps) (omega arith)

        behind : slice_get block.steps at ≡ None
        behind = slice_get_past block.steps at (omega arith)

        live : (k : ℕ) → read_within graph k b at t ≡ true → IsLive graph b (length block.steps) t
        live zero h = absurd (false≢true h)
        live (suc k) h =
            live-here graph b (length block.steps) t k block e
            (ap (λ o. at_step block o (λ c. read_within graph k c 0 t) (read_within graph k b (suc (length block.steps)) t) t) here
            ∙ (sym (ap (λ o. at_step block o (λ c. read_within graph k c 0 t) (read_within graph k b (suc at) t) t) behind)
            ∙ (sym (ap (λ o. at_place o at (λ c. read_within graph k c 0 t) (read_within graph k b (suc at) t) t) e) ∙ h)))

        written : (i : ℕ) → length block.steps < i → is_just_written graph b i t ≡ true → ⊥
        written zero p h = false≢true h
        written (suc i) p h =
            false≢true
            (sym (ap (λ o. step_writes o t) (slice_get_past block.steps i (omega arith))) ∙ (sym (ap (λ o. written_in o i t) e) ∙ h))

    by-block : (o : Option FlowBlock) → slice_get graph b ≡ o → IsPlace graph b (inside o at) × InUse graph b (inside o at) t
    by-block None e = absurd (none e)
    by-block (Some block) e =
        ⊎_elim
        (λ y.
        let p = ltb-true (length block.steps) at y in
        let i : inside (Some block) at ≡ length block.steps = ap (λ v. cond v (length block.steps) at) y in (
          subst (λ m. IsPlace graph b m) (sym i) (placed (length block.steps) (omega arith)),
          subst (λ m. InUse graph b m t) (sym i) (at-exit block e p),
        ))
        (λ n.
        let p = ltb-false (length block.steps) at n in
        let i : inside (Some block) at ≡ at = ap (λ v. cond v (length block.steps) at) n in
        (subst (λ m. IsPlace graph b m) (sym i) (placed at p), subst (λ m. InUse graph b m t) (sym i) u))
        (cases_Bool (ltb (length block.steps) at))
      where
        placed : (m : ℕ) → m ≤ length block.steps → IsPlace graph b m
        placed m l = subst (λ v. MatchOption v ⊥ (λ (w : FlowBlock). m ≤ length w.steps)) (sym e) l

pub assigned : (code : Tac) (count : ℕ) (spans : List (Option Span)) (order : List ℕ) (homes : List (Option Home)) →
    are_below count (graph_of code) ≡ true → AreIntervals (graph_of code) count spans order → AreHomes spans homes → IsRight code homes
assigned code count spans order homes below found given = record {
  homes_are = λ b at t u. let c = covered b at t u in given.homes_are t c.0 c.1;
  apart = λ b at t v u w ne e.
      let c = covered b at t u in
      let d = covered b at v w in
      let f = c.2 in
      let g = c.3 in
      let h = d.2 in
      let i = d.3 in
      ⊎_elim (λ l. omega arith) (λ l. omega arith) (given.apart t v c.0 d.0 c.1 d.1 ne e);
}
  where
    covered : (b at t : ℕ) → InUse (graph_of code) b at t → Covers spans t (place_number (graph_of code) b (inside (slice_get (graph_of code) b) at))
    covered b at t u =
        let w = used-there (graph_of code) b at t u in
        found.covers b (inside (slice_get (graph_of code) b) at) t (used-below count (graph_of code) b at t below u) w.0 w.1

pub crowded : (graph : List FlowBlock) (count : ℕ) (spans : List (Option Span)) (order : List ℕ) (homes : List (Option Home)) →
    AreIntervals graph count spans order → AreHomes spans homes → HasSlot homes → IsCrowded graph
crowded graph count spans order homes found given has =
    let a = given.few has in
    record {
      number = a.place;
      temps = a.temps;
      apart = a.apart;
      within = λ i l.
          let c = a.covers i l in
          let s = c.0 in
          record {
            from = s.first;
            to = s.last;
            begins = c.2;
            ends = c.3;
            first_used = found.begins (a.temps i) s c.1;
            last_used = found.ends (a.temps i) s c.1;
          };
    }
