-- The turns of the loops that declare variables, assign, and construct.
use Rattle.std.proofs.Common.{◌≡◌, refl, sym, ap, ◌∙◌, ℕ, zero, suc, ◌+◌, ◌<◌, ◌≤◌, List, [], ◌∷◌, Option, map, length, drop, get_or}
use Rattle.std.proofs.Common.{slice_get, min, arith, inl, inr}
use Rattle.std.proofs.lemmas.Bool.{cases_lt}
use Rattle.tl_base.specs.declared.place.Place.{Place}
use Rattle.tl_base.specs.declared.ids.TermId.{TermId}
use Rattle.tl_base.specs.declared.ids.TypeId.{TypeId}
use Rattle.terra_types.specs.declared.types.TypeForm.{TypeForm}
use Rattle.terra_term.specs.declared.lists.TypedName.{TypedName}
use Rattle.terra_term.specs.Held.{Held}
use Rattle.terra_eval.specs.Trees.{expression_before, list_before}
use Rattle.tac_form.specs.declared.tac.Spot.TheVariants as spots
use Rattle.tac_lower.specs.Pieces.{Around, Result, declare, declare_all, first_of, rest, result_at, stored, then_piece}
use Rattle.tac_lower.specs.Lowering.{assigned, assigned_all, constructed}
use Rattle.tac_lower.specs.Works.{Made, behind, scoped}
use Rattle.tac_lower.specs.Data.{result_of, target_of}
use Rattle.tac_lower.specs.declared.value.Value.{Value}
use Rattle.tac_lower.specs.declared.value.Target.{Target}
use Rattle.tac_lower.proofs.Adding.{behind-known, behind-then, scoped-known, scoped-then}
use Rattle.terra_eval.proofs.Turns.{turn}
use Rattle.tac_lower.proofs.Lines.{none-left}

-- values by their positions

first-drop : (vs : List Value) (i : ℕ) → first_of (map result_of (drop i vs)) ≡ slice_get (map result_of vs) i
first-drop [] zero = refl
first-drop [] (suc i) = refl
first-drop (v ∷ vs) zero = refl
first-drop (v ∷ vs) (suc i) = first-drop vs i

rest-suc : (vs : List Value) (i : ℕ) → rest (map result_of (drop i vs)) ≡ map result_of (drop (suc i) vs)
rest-suc [] zero = refl
rest-suc [] (suc i) = refl
rest-suc (v ∷ vs) zero = refl
rest-suc (v ∷ vs) (suc i) = rest-suc vs i

rest-drop : (vs : List Value) (i : ℕ) → rest (map result_of (drop i vs)) ≡ map result_of (drop (i + 1) vs)
rest-drop vs i =
    let next : suc i ≡ i + 1 = omega arith in
    rest-suc vs i ∙ ap (λ (n : ℕ). map result_of (drop n vs)) next

value-drop : (vs : List Value) (i : ℕ) → result_at (map result_of (drop i vs)) 0 ≡ result_at (map result_of vs) i
value-drop [] zero = refl
value-drop [] (suc i) = refl
value-drop (v ∷ vs) zero = refl
value-drop (v ∷ vs) (suc i) = value-drop vs i

-- declarations

module _ (c : Around) (at : Place) (names : List TypedName) (values : List Value) (i : ℕ) (w : Made) (W : Made)
    (so_far : W ≡ scoped w (declare_all c at (drop i names) (map result_of (drop i values)) w.next w.scope w.used) (length (drop i names))) where
  pub declare-later : (d : TypedName) (v : Option Result) (w1 : Made) → i < length names → v ≡ slice_get (map result_of values) i
      → w1 ≡ scoped w (declare c at (get_or names i d) v w.next w.scope w.used) 1
      → W ≡ scoped w1 (declare_all c at (drop (i + 1) names) (map result_of (drop (i + 1) values)) w1.next w1.scope w1.used)
      (length (drop (i + 1) names))
  declare-later d v w1 within same first =
      let x = get_or names i d in
      let xs = drop (i + 1) names in
      let vs = map result_of (drop (i + 1) values) in
      let p = declare c at x v w.next w.scope w.used in
      let next : suc w.next ≡ w.next + 1 = omega arith in
      let one : suc (length xs) ≡ 1 + length xs = omega arith in
      so_far
      ∙ ap (λ (l : List TypedName). scoped w (declare_all c at l (map result_of (drop i values)) w.next w.scope w.used) (length l)) (turn names i d within)
      ∙ ap (λ (o : Option Result). scoped w (then_piece (declare c at x o w.next w.scope w.used)
      (λ scope' u'. declare_all c at xs (rest (map result_of (drop i values))) (suc w.next) scope' u')) (suc (length xs))) (first-drop values i ∙ sym same)
      ∙ ap (λ (l : List Result). scoped w (then_piece p (λ scope' u'. declare_all c at xs l (suc w.next) scope' u')) (suc (length xs))) (rest-drop values i)
      ∙ scoped-then w p (λ scope' u'. declare_all c at xs vs (suc w.next) scope' u') 1 (length xs) (suc (length xs)) one
      ∙ ap (λ (k : ℕ). scoped (scoped w p 1) (declare_all c at xs vs k p.result p.used) (length xs)) next
      ∙ ap (λ (z : Made). scoped z (declare_all c at xs vs z.next z.scope z.used) (length xs)) (sym first)

  pub declare-end : length names ≤ i → w ≡ W
  declare-end past =
      sym (so_far
      ∙ ap (λ (l : List TypedName). scoped w (declare_all c at l (map result_of (drop i values)) w.next w.scope w.used) (length l)) (none-left names i past)
      ∙ scoped-known w)

-- assignments

module _ (types : List TypeForm) (store : Held) (below : ℕ) (nodes : List TermId) (targets : List Target) (values : List Value) (i : ℕ)
    (w : Made) (W : Made)
    (so_far : W ≡ behind w (assigned_all types (list_before store below (drop i nodes)) (map target_of (drop i targets)) (map result_of (drop i values)) w.used)) where
  pub assign-later : (d : TermId) (t : Target) (v : Value) (w1 : Made) → i < length nodes → i < length targets
      → result_of v ≡ result_at (map result_of values) i
      → w1 ≡ behind w (assigned types (expression_before store below (get_or nodes i d)) (target_of (get_or targets i t)) (result_of v) w.used)
      → W ≡ behind w1 (assigned_all types (list_before store below (drop (i + 1) nodes)) (map target_of (drop (i + 1) targets))
      (map result_of (drop (i + 1) values)) w1.used)
  assign-later d t v w1 within there same first =
      let e = expression_before store below (get_or nodes i d) in
      let es = list_before store below (drop (i + 1) nodes) in
      let a = target_of (get_or targets i t) in
      let ts = map target_of (drop (i + 1) targets) in
      let vs = map result_of (drop (i + 1) values) in
      let p = assigned types e a (result_of v) w.used in
      so_far
      ∙ ap (λ (l : List TermId). behind w (assigned_all types (list_before store below l) (map target_of (drop i targets)) (map result_of (drop i values)) w.used))
      (turn nodes i d within)
      ∙ ap (λ (l : List Target). behind w (assigned_all types (list_before store below (get_or nodes i d ∷ drop (i + 1) nodes)) (map target_of l)
      (map result_of (drop i values)) w.used)) (turn targets i t there)
      ∙ ap (λ (r : Result). behind w (then_piece (assigned types e a r w.used)
      (λ b u'. assigned_all types es ts (rest (map result_of (drop i values))) u'))) (value-drop values i ∙ sym same)
      ∙ ap (λ (l : List Result). behind w (then_piece p (λ b u'. assigned_all types es ts l u'))) (rest-drop values i)
      ∙ behind-then w p (λ b u'. assigned_all types es ts vs u')
      ∙ ap (λ (z : Made). behind z (assigned_all types es ts vs z.used)) (sym first)

  no-node : length nodes ≤ i → w ≡ W
  no-node past =
      sym (so_far
      ∙ ap (λ (l : List TermId). behind w (assigned_all types (list_before store below l) (map target_of (drop i targets)) (map result_of (drop i values)) w.used))
      (none-left nodes i past)
      ∙ behind-known {A = Unit {0}} w tt)

  no-target : (d : TermId) → i < length nodes → length targets ≤ i → w ≡ W
  no-target d within past =
      sym (so_far
      ∙ ap (λ (l : List TermId). behind w (assigned_all types (list_before store below l) (map target_of (drop i targets)) (map result_of (drop i values)) w.used))
      (turn nodes i d within)
      ∙ ap (λ (l : List Target). behind w (assigned_all types (list_before store below (get_or nodes i d ∷ drop (i + 1) nodes)) (map target_of l)
      (map result_of (drop i values)) w.used)) (none-left targets i past)
      ∙ behind-known {A = Unit {0}} w tt)

  pub assign-end : min (length nodes) (length targets) ≤ i → w ≡ W
  assign-end past =
      let d : TermId = record { 0 = 0 } in
      elim (cases_lt i (length nodes)) [
        | inr h ↦ no-node h
        | inl h ↦ no-target d h (omega arith)
      ]

-- entries of a struct

module _ (types : List TypeForm) (n : ℕ) (os : List ℕ) (ts : List TypeId) (values : List Value) (i : ℕ) (w : Made) (W : Made)
    (so_far : W ≡ behind w (constructed types n (drop i os) (drop i ts) (map result_of (drop i values)) w.used)) where
  pub entry-later : (t : TypeId) (v : Value) (w1 : Made) → i < length os → i < length ts → i < length values
      → w1 ≡ behind w (stored types (get_or ts i t) (spots.Area n (get_or os i 0)) (result_of (get_or values i v)) w.used)
      → W ≡ behind w1 (constructed types n (drop (i + 1) os) (drop (i + 1) ts) (map result_of (drop (i + 1) values)) w1.used)
  entry-later t v w1 one two three first =
      let o = get_or os i 0 in
      let y = get_or ts i t in
      let ws = drop (i + 1) os in
      let ys = drop (i + 1) ts in
      let vs = map result_of (drop (i + 1) values) in
      let p = stored types y (spots.Area n o) (result_of (get_or values i v)) w.used in
      so_far ∙ ap (λ (l : List ℕ). behind w (constructed types n l (drop i ts) (map result_of (drop i values)) w.used)) (turn os i 0 one)
      ∙ ap (λ (l : List TypeId). behind w (constructed types n (o ∷ ws) l (map result_of (drop i values)) w.used)) (turn ts i t two)
      ∙ ap (λ (l : List Value). behind w (constructed types n (o ∷ ws) (y ∷ ys) (map result_of l) w.used)) (turn values i v three)
      ∙ behind-then w p (λ b u'. constructed types n ws ys vs u')
      ∙ ap (λ (z : Made). behind z (constructed types n ws ys vs z.used)) (sym first)

  no-offset : length os ≤ i → w ≡ W
  no-offset past =
      sym (so_far ∙ ap (λ (l : List ℕ). behind w (constructed types n l (drop i ts) (map result_of (drop i values)) w.used)) (none-left os i past)
      ∙ behind-known {A = Unit {0}} w tt)

  no-type : i < length os → length ts ≤ i → w ≡ W
  no-type one past =
      sym (so_far ∙ ap (λ (l : List ℕ). behind w (constructed types n l (drop i ts) (map result_of (drop i values)) w.used)) (turn os i 0 one)
      ∙ ap (λ (l : List TypeId). behind w (constructed types n (get_or os i 0 ∷ drop (i + 1) os) l (map result_of (drop i values)) w.used))
      (none-left ts i past)
      ∙ behind-known {A = Unit {0}} w tt)

  no-value : (t : TypeId) → i < length os → i < length ts → length values ≤ i → w ≡ W
  no-value t one two past =
      sym (so_far ∙ ap (λ (l : List ℕ). behind w (constructed types n l (drop i ts) (map result_of (drop i values)) w.used)) (turn os i 0 one)
      ∙ ap (λ (l : List TypeId). behind w (constructed types n (get_or os i 0 ∷ drop (i + 1) os) l (map result_of (drop i values)) w.used))
      (turn ts i t two)
      ∙ ap (λ (l : List Value). behind w (constructed types n (get_or os i 0 ∷ drop (i + 1) os) (get_or ts i t ∷ drop (i + 1) ts) (map result_of l) w.used))
      (none-left values i past)
      ∙ behind-known {A = Unit {0}} w tt)

  pub entries-end : min (min (length os) (length ts)) (length values) ≤ i → w ≡ W
  entries-end past =
      let t : TypeId = record { 0 = 0 } in
      elim (cases_lt i (length os)) [
        | inr h ↦ no-offset h
        | inl h ↦ elim (cases_lt i (length ts)) [
          | inr k ↦ no-type h k
          | inl k ↦ no-value t h k (omega arith)
        ]
      ]
