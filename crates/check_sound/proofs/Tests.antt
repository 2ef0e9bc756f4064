-- Tests that are passed, ids that are the same, and lists that are read.
use Rattle.std.proofs.Common.{◌≡◌, ℕ, zero, suc, ◌<◌, ◌≤◌, Bool, true, false, List, [], ◌∷◌, length, Option, Some, None, refl, ap}
use Rattle.std.proofs.Common.{arith, slice_get}
use Rattle.std.specs.Prelude.{◌&&◌, ◌||◌}
use Rattle.std.proofs.lemmas.Bool.{and_parts, and_from, eq-eqb}
use Rattle.tl_base.specs.declared.ids.TypeId.{TypeId}
use Rattle.terra_term.specs.WellTyped.{same, are_same}
pub use Rattle.terra_types.proofs.Measures.{get-past}
pub use Rattle.terra_term.proofs.Tests.{no, three, same-id, same-ids}

-- what passes two tests passes two others
pub keep : (a b x y : Bool) → (a ≡ true → x ≡ true) → (b ≡ true → y ≡ true) → (a && b) ≡ true → (x && y) ≡ true
keep a b x y f g h = let p = and_parts a b h in and_from x y (f p.0) (g p.1)

-- what passes one of two tests passes one of two others
pub keep_or : (a b x y : Bool) → (a ≡ true → x ≡ true) → (b ≡ true → y ≡ true) → (a || b) ≡ true → (x || y) ≡ true
keep_or true b x y f g h = ap (λ t. t || y) (f refl)
keep_or false b true y f g h = refl
keep_or false b false y f g h = g h

pub stay : (a : Bool) → a ≡ true → a ≡ true
stay a h = h

pub same-refl : (a : TypeId) → same a a ≡ true
same-refl a = eq-eqb a.0 a.0 refl

pub ids-refl : (ms : List TypeId) → are_same ms ms ≡ true
ids-refl [] = refl
ids-refl (m ∷ ms) = and_from (same m m) (are_same ms ms) (same-refl m) (ids-refl ms)

pub none-some : {A : Type 0} (x : A) → ◌≡◌ {A = Option A} None (Some x) → ⊥
none-some x e = cc e

pub same-some : {A : Type 0} (x y : A) → ◌≡◌ {A = Option A} (Some x) (Some y) → x ≡ y
same-some x y e = cc e

pub past-get : {A : Type 0} (xs : List A) (i : ℕ) → length xs ≤ i → slice_get xs i ≡ None
past-get [] i h = refl
past-get (x ∷ xs) zero h = absurd (omega (arith, h))
past-get (x ∷ xs) (suc i) h = past-get xs i (omega (arith, h))

-- what is in range is there
pub got : {A : Type 0} (xs : List A) (i : ℕ) → i < length xs → (x : A) × (slice_get xs i ≡ Some x)
got [] i h = absurd (omega (arith, h))
got (x ∷ xs) zero h = (x, refl)
got (x ∷ xs) (suc i) h = got xs i (omega (arith, h))
