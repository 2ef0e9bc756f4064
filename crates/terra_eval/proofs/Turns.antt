-- One turn of a loop over a list: what is left of the list is the item, and what is left behind it.
use Rattle.std.proofs.Common.{◌≡◌, refl, sym, ap, ◌∙◌, ℕ, suc, ◌+◌, ◌-◌, ◌<◌, ◌≤◌, Bool, true, false, List, [], ◌∷◌, ◌++◌, Some, map}
use Rattle.std.proofs.Common.{length, take, drop, get_or, set, arith, drop-cons, append_assoc, append-nil, take_all}
use Rattle.std.specs.Prelude.{nat_eq, if◌then◌else◌, ◌&&◌}
use Rattle.std.proofs.lemmas.Bool.{eq-eqb, ne_eqb}
use Rattle.std.proofs.lemmas.List.{set_split, map-append, drop-map, length-map}
use Rattle.std.proofs.Math.Seq.{take-suc}
use Rattle.std.proofs.Math.ListN.{drop_of_length-le}
use Rattle.tl_base.specs.declared.ids.SymId.{SymId}
use Rattle.tl_base.specs.declared.ids.FnId.{FnId}
use Rattle.tl_base.specs.declared.ids.TypeId.{TypeId}
use Rattle.terra_term.specs.declared.lists.TypedName.{TypedName}
use Rattle.terra_term.specs.Events.{declared_in}
use Rattle.terra_meaning.specs.Running as running
use Rattle.terra_meaning.specs.Running.{find, set as set_value}
use Rattle.terra_meaning.specs.Meaning.{position_of, same_types}
use Rattle.terra_eval.specs.declared.state.Variable.{Variable}
use Rattle.terra_eval.specs.declared.state.Held.TheVariants as helds
use Rattle.terra_eval.specs.declared.events.Event.{Event}
use Rattle.terra_eval.specs.declared.events.Event.TheVariants as kinds
use Rattle.terra_eval.specs.Variables.{held_of, variable_of}
use Rattle.terra_eval.specs.Views.{event_of, events_in}

pub turn : {A : Type 0} (xs : List A) (i : ℕ) (d : A) → i < length xs → drop i xs ≡ get_or xs i d ∷ drop (i + 1) xs
turn xs i d h =
    let next : suc i ≡ i + 1 = omega arith in
    drop-cons xs i d h ∙ ap (λ (n : ℕ). get_or xs i d ∷ drop n xs) next

-- an item goes from what is left to what there is
pub pushed : {A : Type 0} (all xs ys zs new : List A) (x : A) → all ≡ xs ++ ys → ys ≡ x ∷ zs → new ≡ xs ++ x ∷ [] → all ≡ new ++ zs
pushed all xs ys zs new x whole left push =
    whole ∙ ap (λ (l : List _). xs ++ l) left ∙ sym (append_assoc xs (x ∷ []) zs) ∙ ap (λ (l : List _). l ++ zs) (sym push)

-- nothing is left
pub ended : {A : Type 0} (all xs ys : List A) → all ≡ xs ++ ys → ys ≡ [] → xs ≡ all
ended all xs ys whole none = sym (whole ∙ ap (λ (l : List _). xs ++ l) none ∙ append-nil xs)

pub none-left : {A : Type 0} (xs : List A) (i : ℕ) → length xs ≤ i → drop i xs ≡ []
none-left xs i h = drop_of_length-le xs h

-- variables

abbrev pub no-variable : Variable
no-variable = record { symbol = record { 0 = 0 }; is = helds.Word 0 }

module _ (x : SymId) (vs : List Variable) (i : ℕ) (v : Variable) (step : drop i vs ≡ v ∷ drop (i + 1) vs)
    (passed : find x (map variable_of vs) ≡ find x (map variable_of (drop i vs))) where
  pub found-here : x.0 ≡ v.symbol.0 → Some (held_of v.is) ≡ find x (map variable_of vs)
  found-here same =
      sym (passed ∙ ap (λ (l : List Variable). find x (map variable_of l)) step
      ∙ ap (λ (b : Bool). if b then Some (held_of v.is) else find x (map variable_of (drop (i + 1) vs))) (eq-eqb x.0 v.symbol.0 same))

  pub found-later : (x.0 ≡ v.symbol.0 → ⊥) → find x (map variable_of vs) ≡ find x (map variable_of (drop (i + 1) vs))
  found-later other =
      passed ∙ ap (λ (l : List Variable). find x (map variable_of l)) step
      ∙ ap (λ (b : Bool). if b then Some (held_of v.is) else find x (map variable_of (drop (i + 1) vs))) (ne_eqb x.0 v.symbol.0 other)

module _ (x : SymId) (h : running.Held) (vs : List Variable) (i : ℕ) (d : Variable) (within : i < length vs)
    (passed : set_value x h (map variable_of vs) ≡ map variable_of (take i vs) ++ set_value x h (map variable_of (drop i vs))) where
  pub set-turn : (b : Bool) → nat_eq x.0 (get_or vs i d).symbol.0 ≡ b
      → set_value x h (map variable_of vs) ≡ map variable_of (take i vs) ++ (if b then (record (variable_of (get_or vs i d)) { is = h }) ∷ map variable_of (drop (i + 1) vs) else variable_of (get_or vs i d) ∷ set_value x h (map variable_of (drop (i + 1) vs)))
  set-turn b test =
      passed ∙ ap (λ (l : List Variable). map variable_of (take i vs) ++ set_value x h (map variable_of l)) (turn vs i d within)
      ∙ ap (λ (b : Bool). map variable_of (take i vs) ++ (if b then (record (variable_of (get_or vs i d)) { is = h }) ∷ map variable_of (drop (i + 1) vs) else variable_of (get_or vs i d) ∷ set_value x h (map variable_of (drop (i + 1) vs)))) test

  pub set-here : (w : Variable) → x.0 ≡ (get_or vs i d).symbol.0 → variable_of w ≡ record (variable_of (get_or vs i d)) { is = h }
      → map variable_of (set vs i w) ≡ set_value x h (map variable_of vs)
  set-here w same new =
      let next : suc i ≡ i + 1 = omega arith in
      ap (λ (l : List Variable). map variable_of l) (set_split vs i w within ∙ ap (λ (n : ℕ). take i vs ++ w ∷ drop n vs) next)
      ∙ map-append variable_of (take i vs) (w ∷ drop (i + 1) vs)
      ∙ ap (λ (u : running.Variable). map variable_of (take i vs) ++ u ∷ map variable_of (drop (i + 1) vs)) new
      ∙ sym (set-turn true (eq-eqb x.0 (get_or vs i d).symbol.0 same))

  pub set-later : (x.0 ≡ (get_or vs i d).symbol.0 → ⊥)
      → set_value x h (map variable_of vs) ≡ map variable_of (take (i + 1) vs) ++ set_value x h (map variable_of (drop (i + 1) vs))
  set-later other =
      let next : i + 1 ≡ suc i = omega arith in
      let v = get_or vs i d in
      set-turn false (ne_eqb x.0 (get_or vs i d).symbol.0 other)
      ∙ sym (append_assoc (map variable_of (take i vs)) (variable_of v ∷ []) (set_value x h (map variable_of (drop (i + 1) vs))))
      ∙ ap (λ (l : List running.Variable). l ++ set_value x h (map variable_of (drop (i + 1) vs)))
      (sym (map-append variable_of (take i vs) (v ∷ [])) ∙ ap (λ (l : List Variable). map variable_of l) (sym (ap (λ (n : ℕ). take n vs) next ∙ take-suc vs i d within)))

-- no variable has the symbol
pub set-none : (x : SymId) (h : running.Held) (vs : List Variable) (i : ℕ) → length vs ≤ i
    → set_value x h (map variable_of vs) ≡ map variable_of (take i vs) ++ set_value x h (map variable_of (drop i vs))
    → map variable_of vs ≡ set_value x h (map variable_of vs)
set-none x h vs i past passed =
    sym (passed ∙ ap (λ (l : List Variable). map variable_of (take i vs) ++ set_value x h (map variable_of l)) (none-left vs i past) ∙ append-nil (map variable_of (take i vs)) ∙ ap (λ (l : List Variable). map variable_of l) (take_all i vs past))

-- entries

module _ (f : FnId) (gs : List FnId) (i n : ℕ) (d : FnId) (within : i < length gs)
    (passed : position_of f gs 1 ≡ position_of f (drop i gs) n) where
  pub position-turn : (b : Bool) → nat_eq f.0 (get_or gs i d).0 ≡ b → position_of f gs 1 ≡ (if b then n else position_of f (drop (i + 1) gs) (suc n))
  position-turn b test =
      passed ∙ ap (λ (l : List FnId). position_of f l n) (turn gs i d within)
      ∙ ap (λ (b : Bool). if b then n else position_of f (drop (i + 1) gs) (suc n)) test

  pub position-here : f.0 ≡ (get_or gs i d).0 → n ≡ position_of f gs 1
  position-here same = sym (position-turn true (eq-eqb f.0 (get_or gs i d).0 same))

  pub position-later : (f.0 ≡ (get_or gs i d).0 → ⊥) → position_of f gs 1 ≡ position_of f (drop (i + 1) gs) (n + 1)
  position-later other =
      let next : suc n ≡ n + 1 = omega arith in
      position-turn false (ne_eqb f.0 (get_or gs i d).0 other) ∙ ap (λ (m : ℕ). position_of f (drop (i + 1) gs) m) next

pub position-none : (f : FnId) (gs : List FnId) (i n : ℕ) → length gs ≤ i → position_of f gs 1 ≡ position_of f (drop i gs) n → 0 ≡ position_of f gs 1
position-none f gs i n past passed = sym (passed ∙ ap (λ (l : List FnId). position_of f l n) (none-left gs i past))

-- types

and-false : (b : Bool) → false ≡ (b && false)
and-false true = refl
and-false false = refl

pub lengths-differ : (ts : List TypeId) (xs : List TypedName) → (length ts ≡ length xs → ⊥) → false ≡ same_types ts xs
lengths-differ [] [] other = absurd (other refl)
lengths-differ [] (x ∷ xs) other = refl
lengths-differ (t ∷ ts) [] other = refl
lengths-differ (t ∷ ts) (x ∷ xs) other =
    and-false (nat_eq t.0 x.of.0) ∙ ap (λ (b : Bool). nat_eq t.0 x.of.0 && b) (lengths-differ ts xs (λ same. other (ap suc same)))

module _ (ts : List TypeId) (xs : List TypedName) (i : ℕ) (t : TypeId) (x : TypedName) (one : i < length ts) (two : i < length xs)
    (passed : same_types ts xs ≡ same_types (drop i ts) (drop i xs)) where
  pub types-turn : (b : Bool) → nat_eq (get_or ts i t).0 (get_or xs i x).of.0 ≡ b → same_types ts xs ≡ (b && same_types (drop (i + 1) ts) (drop (i + 1) xs))
  types-turn b test =
      passed ∙ ap (λ (l : List TypeId). same_types l (drop i xs)) (turn ts i t one)
      ∙ ap (λ (l : List TypedName). same_types (get_or ts i t ∷ drop (i + 1) ts) l) (turn xs i x two)
      ∙ ap (λ (b : Bool). b && same_types (drop (i + 1) ts) (drop (i + 1) xs)) test

  pub types-differ : ((get_or ts i t).0 ≡ (get_or xs i x).of.0 → ⊥) → false ≡ same_types ts xs
  types-differ other = sym (types-turn false (ne_eqb (get_or ts i t).0 (get_or xs i x).of.0 other))

  pub types-later : (get_or ts i t).0 ≡ (get_or xs i x).of.0 → same_types ts xs ≡ same_types (drop (i + 1) ts) (drop (i + 1) xs)
  types-later same = types-turn true (eq-eqb (get_or ts i t).0 (get_or xs i x).of.0 same)

pub types-end : (ts : List TypeId) (xs : List TypedName) (i : ℕ) → length ts ≤ i → length xs ≤ i
    → same_types ts xs ≡ same_types (drop i ts) (drop i xs) → true ≡ same_types ts xs
types-end ts xs i one two passed =
    sym (passed ∙ ap (λ (l : List TypeId). same_types l (drop i xs)) (none-left ts i one) ∙ ap (λ (l : List TypedName). same_types [] l) (none-left xs i two))

-- events

pub declared-cons : (e : Event) (es : List Event) → length (declared_in (events_in (e ∷ es))) ≡ length (declared_in (event_of e ∷ [])) + length (declared_in (events_in es))
declared-cons kinds.Opens es = omega arith
declared-cons kinds.Closes es = omega arith
declared-cons (kinds.Declares x t) es = omega arith
declared-cons (kinds.Takes x) es = omega arith
declared-cons (kinds.Uses at x t) es = omega arith
declared-cons (kinds.Mentions at f) es = omega arith

pub declared-turn : (es : List Event) (i : ℕ) (d : Event) → i < length es
    → length (declared_in (events_in (drop i es))) ≡ length (declared_in (event_of (get_or es i d) ∷ [])) + length (declared_in (events_in (drop (i + 1) es)))
declared-turn es i d within =
    ap (λ (l : List Event). length (declared_in (events_in l))) (turn es i d within) ∙ declared-cons (get_or es i d) (drop (i + 1) es)

-- a scope is left
pub left-scope : (vs tail : List Variable) (inner count : ℕ) → inner ≡ length vs - count → tail ≡ drop inner vs
    → map variable_of tail ≡ drop (length (map variable_of vs) - count) (map variable_of vs)
left-scope vs tail inner count many rest =
    ap (λ (l : List Variable). map variable_of l) rest ∙ sym (drop-map variable_of inner vs)
    ∙ ap (λ (n : ℕ). drop n (map variable_of vs)) (many ∙ ap (λ (n : ℕ). n - count) (sym (length-map vs variable_of)))
