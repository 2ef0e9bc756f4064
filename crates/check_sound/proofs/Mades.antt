-- Lists of expressions that were typed.
use Rattle.std.proofs.Common.{◌≡◌, true, List, [], ◌∷◌, ◌++◌, length, refl, ◌∙◌, arith}
use Rattle.std.specs.Prelude.{◌||◌, ◌⊎◌, nat_eq, unwrap_or}
use mathlib.Core.Logic.{inl, inr}
use Rattle.std.proofs.lemmas.Bool.{and_from, eqb-true, or_cases}
use Rattle.tl_base.specs.declared.ids.TypeId.{TypeId}
use Rattle.check_cast.specs.Conversions.{meet}
use Rattle.terra_term.specs.Planted.{typed_trees, typed_list_at}
use Rattle.terra_term.specs.Stores.{Contents}
use Rattle.terra_term.specs.WellTyped.{Scope, are_bounds, places_in, is_integer}
use Rattle.exotype.specs.World.{StageState}
use Rattle.check_model.specs.declared.made.Made.{Made}
use Rattle.check_model.specs.Plans.{ids_of}
use Rattle.check_model.specs.Statements.{meet_from, meet_of}
use Rattle.check_model.specs.Sound.{foreseen, IsSound}
use Rattle.check_sound.proofs.Tests.{no, same-refl}
use Rattle.check_sound.proofs.Grows.{Grows}
use Rattle.check_sound.proofs.Running.{Known}
use Rattle.check_sound.proofs.Combining.{known-grows}
use Rattle.check_sound.proofs.Parts.{part-of, Listed}
use Rattle.check_sound.proofs.Rules.{meet-integer}

-- ---- lists of expressions

abbrev pub AllKnown : Scope → StageState → List Made → Type 0
AllKnown s w [] = Unit {0}
AllKnown s w (m ∷ ms) = Known s w m × AllKnown s w ms

abbrev pub ArePlaces : List Made → Type 0
ArePlaces [] = Unit {0}
ArePlaces (m ∷ ms) = (m.is_place ≡ true) × ArePlaces ms

abbrev pub AreIntegers : StageState → List Made → Type 0
AreIntegers w [] = Unit {0}
AreIntegers w (m ∷ ms) = (is_integer (foreseen w) m.of ≡ true) × AreIntegers w ms

abbrev pub made_types : List Made → List TypeId
made_types [] = []
made_types (m ∷ ms) = m.of ∷ made_types ms

pub known-snoc : (s : Scope) (w : StageState) (ms : List Made) (m : Made) → AllKnown s w ms → Known s w m →
    AllKnown s w (ms ++ m ∷ [])
known-snoc s w [] m h k = (k, tt)
known-snoc s w (x ∷ ms) m h k = (h.0, known-snoc s w ms m h.1 k)

pub places-snoc : (ms : List Made) (m : Made) → ArePlaces ms → m.is_place ≡ true → ArePlaces (ms ++ m ∷ [])
places-snoc [] m h k = (k, tt)
places-snoc (x ∷ ms) m h k = (h.0, places-snoc ms m h.1 k)

pub integers-snoc : (w : StageState) (ms : List Made) (m : Made) → AreIntegers w ms →
    is_integer (foreseen w) m.of ≡ true → AreIntegers w (ms ++ m ∷ [])
integers-snoc w [] m h k = (k, tt)
integers-snoc w (x ∷ ms) m h k = (h.0, integers-snoc w ms m h.1 k)

pub all-grow : (s : Scope) (w v : StageState) → IsSound w → IsSound v → Grows w v →
    (ms : List Made) → AllKnown s w ms → AllKnown s v ms
all-grow s w v a b g [] h = tt
all-grow s w v a b g (m ∷ ms) h = (known-grows s w v a b g m h.0, all-grow s w v a b g ms h.1)

pub known-listed : (s : Scope) (w : StageState) (ms : List Made) → AllKnown s w ms →
    Listed s w (ids_of ms) (made_types ms)
known-listed s w [] h = tt
known-listed s w (m ∷ ms) h = (part-of s w m h.0, known-listed s w ms h.1)

pub all-places : (s : Scope) (w : StageState) (ms : List Made) → AllKnown s w ms → ArePlaces ms →
    places_in (typed_list_at (typed_trees w.store.typed) (ids_of ms)) ≡ true
all-places s w [] h k = refl
all-places s w (m ∷ ms) h k = and_from _ _ (h.0.place ∙ k.0) (all-places s w ms h.1 k.1)

-- ---- where integers meet

meet-on : (w : StageState) (t : TypeId) (ms : List Made) → is_integer (foreseen w) t ≡ true → AreIntegers w ms →
    is_integer (foreseen w) (meet_from w t ms) ≡ true
meet-on w t [] h k = h
meet-on w t (m ∷ ms) h k = meet-on w (unwrap_or (meet w.store.types t m.of) t) ms (meet-integer w t m.of h k.0) k.1

abbrev pub copies : List Made → TypeId → List TypeId
copies [] t = []
copies (m ∷ ms) t = t ∷ copies ms t

-- there are two bounds, or three
pub bounds-are : (c : Contents) (t : TypeId) (ms : List Made) → is_integer c t ≡ true →
    (nat_eq (length ms) 2 || nat_eq (length ms) 3) ≡ true →
    are_bounds c t (copies ms t) ≡ true
bounds-are c t [] h k = absurd (no k)
bounds-are c t (x ∷ []) h k = absurd (no k)
bounds-are c t (x ∷ y ∷ []) h k = and_from _ _ (and_from _ _ h (same-refl t)) (same-refl t)
bounds-are c t (x ∷ y ∷ z ∷ []) h k = and_from _ _ (and_from _ _ (and_from _ _ h (same-refl t)) (same-refl t))
    (same-refl t)
bounds-are c t (x ∷ y ∷ z ∷ u ∷ ms) h k = absurd (by (or_cases (nat_eq (length (x ∷ y ∷ z ∷ u ∷ ms)) 2)
    (nat_eq (length (x ∷ y ∷ z ∷ u ∷ ms)) 3) k))
  where
    by : (nat_eq (length (x ∷ y ∷ z ∷ u ∷ ms)) 2 ≡ true) ⊎ (nat_eq (length (x ∷ y ∷ z ∷ u ∷ ms)) 3 ≡ true) → ⊥
    by (inl e) = let n : length (x ∷ y ∷ z ∷ u ∷ ms) ≡ 2 = eqb-true (length (x ∷ y ∷ z ∷ u ∷ ms)) 2 e in
        omega (arith, n)
    by (inr e) = let n : length (x ∷ y ∷ z ∷ u ∷ ms) ≡ 3 = eqb-true (length (x ∷ y ∷ z ∷ u ∷ ms)) 3 e in
        omega (arith, n)

pub meet-integers : (w : StageState) (ms : List Made) → AreIntegers w ms →
    (nat_eq (length ms) 2 || nat_eq (length ms) 3) ≡ true →
    is_integer (foreseen w) (meet_of w ms) ≡ true
meet-integers w [] h k = absurd (no k)
meet-integers w (m ∷ ms) h k = meet-on w m.of ms h.0 h.1
