-- The measure of nested arrays from that of their innermost elements.
use Rattle.std.specs.Prelude.{◌≡◌, refl, ℕ, zero, suc, ◌-◌, ◌*◌, ◌^◌, ◌<◌, ◌≤◌, min, max, Bool, true, false, nat_le, if◌then◌else◌, Some}
use Rattle.std.specs.Prelude.{None, IfSome}
use Rattle.std.proofs.Common.{sym, ◌∙◌, ap, subst, inl, inr, arith}
use Rattle.std.proofs.Math.Nat.{mul-le-mul_left}
use Rattle.std.proofs.lemmas.Bool.{le-leb, leb-true, lt-leb}
use Rattle.std.proofs.lemmas.Bool.Decides.{leb_tells}
use Rattle.tl_base.specs.declared.ids.TypeId.{TypeId}
use Rattle.terra_types.specs.declared.elements.Elements.{Elements}
use Rattle.terra_types.specs.declared.measure.Measure.{Measure}
use Rattle.terra_types.specs.Elements.{bounded_product, elements_of, spread}
use Rattle.terra_types.specs.Sizes.{Within, largest_size, for_some, repeated}

-- ---- tests

yes : (a : ℕ) (x : Measure) → a ≤ largest_size → (if nat_le a largest_size then Some x else None) ≡ Some x
yes a x h = ap (λ b. if b then Some x else None) (le-leb a largest_size h)

no : (a : ℕ) (x : Measure) → largest_size < a → (if nat_le a largest_size then Some x else None) ≡ None
no a x h = ap (λ b. if b then Some x else None) (lt-leb a largest_size h)

-- ---- numbers

data Either (a b : ℕ) : Type 0 where
  below : a ≤ b → Either a b
  above : b < a → Either a b

either : (a b : ℕ) → Either a b
either a b = elim (leb_tells a b) [ inl h ↦ below (h.1) | inr h ↦ above (h.1) ]

small-product : (a b : ℕ) → a * b ≤ largest_size → bounded_product a b ≡ a * b
small-product a b h = omega (arith, h)

large-product : (a b : ℕ) → largest_size < a * b → largest_size < bounded_product a b
large-product a b h = omega (arith, h)

times : (a b s : ℕ) → a ≤ b → a * s ≤ b * s
times a b s h = omega (arith, mul-le-mul_left s h)

-- a number that ends at the last of 64 bits gives the same sizes within the limit, and passes it alike
ending-yes : (p s : ℕ) → p * s ≤ largest_size → min p (2 ^ 64 - 1) * s ≡ p * s
ending-yes p zero h = omega arith
ending-yes p (suc s) h = step (either p (2 ^ 64 - 1))
  where
    step : Either p (2 ^ 64 - 1) → min p (2 ^ 64 - 1) * suc s ≡ p * suc s
    step (below le) = let e : min p (2 ^ 64 - 1) ≡ p = omega (arith, le) in ap (λ n. n * suc s) e
    step (above gt) = absurd (omega (arith, gt, h, times 1 (suc s) p (omega arith)))

ending-no : (p s : ℕ) → largest_size < p * s → largest_size < min p (2 ^ 64 - 1) * s
ending-no p zero h = absurd (omega (arith, h))
ending-no p (suc s) h = step (either p (2 ^ 64 - 1))
  where
    step : Either p (2 ^ 64 - 1) → largest_size < min p (2 ^ 64 - 1) * suc s
    step (below le) = let e : p ≡ min p (2 ^ 64 - 1) = omega (arith, le) in subst (λ n. largest_size < n * suc s) e h
    step (above gt) = let e : 2 ^ 64 - 1 ≡ min p (2 ^ 64 - 1) = omega (arith, gt) in subst (λ n. largest_size < n * suc s) e (omega arith)

larger-yes : (a b s : ℕ) → a * s ≤ largest_size → b * s ≤ largest_size → max a b * s ≤ largest_size
larger-yes a b s h k = step (either a b)
  where
    step : Either a b → max a b * s ≤ largest_size
    step (below le) = let e : b ≡ max a b = omega (arith, le) in subst (λ n. n * s ≤ largest_size) e k
    step (above gt) = let e : a ≡ max a b = omega (arith, gt) in subst (λ n. n * s ≤ largest_size) e h

-- ---- arrays

spread-yes : (x : Elements) (m : Measure) → x.largest * m.size ≤ largest_size → x.count ≤ x.largest → spread x m ≡ Some (record m { size = x.count * m.size })
spread-yes x m h c =
    yes (bounded_product x.largest m.size) (record m { size = bounded_product x.count m.size }) (omega (arith, h, small-product x.largest m.size h)) ∙
    ap (λ n. Some (record m { size = n })) (small-product x.count m.size (omega (arith, h, times x.count x.largest m.size c)))

spread-no : (x : Elements) (m : Measure) → largest_size < x.largest * m.size → spread x m ≡ None
spread-no x m h =
    no (bounded_product x.largest m.size) (record m { size = bounded_product x.count m.size }) (large-product x.largest m.size h)

-- an array of elements that are no arrays
pub spread-first : (t : TypeId) (n : ℕ) (m : Measure) → spread (elements_of t n None) m ≡ repeated n m
spread-first t n m = step (either (n * m.size) largest_size)
  where
    step : Either (n * m.size) largest_size → spread (elements_of t n None) m ≡ repeated n m
    step (below h) = spread-yes (elements_of t n None) m h (omega arith) ∙ sym (yes (n * m.size) (record m { size = n * m.size }) h)
    step (above h) = spread-no (elements_of t n None) m h ∙ sym (no (n * m.size) (record m { size = n * m.size }) h)

module _ (t : TypeId) (n : ℕ) (x : Elements) (m : Measure) where
  abbrev next : Elements
  next = elements_of t n (Some x)

  fits : x.largest * m.size ≤ largest_size → x.count ≤ x.largest → Either (n * (x.count * m.size)) largest_size → spread next m ≡ repeated n (record m { size = x.count * m.size })
  fits h c (below k) =
      let small : n * x.count * m.size ≤ largest_size = omega (arith, k) in
      let same : bounded_product n x.count * m.size ≡ n * x.count * m.size = ending-yes (n * x.count) m.size small in
      spread-yes next m (larger-yes (bounded_product n x.count) x.largest m.size (omega (arith, same, small)) h) (omega arith) ∙
      (ap (λ s. Some (record m { size = s })) (omega (arith, same)) ∙
      sym (yes (n * (x.count * m.size)) (record m { size = n * (x.count * m.size) }) k))
  fits h c (above k) =
      let large : largest_size < n * x.count * m.size = omega (arith, k) in
      spread-no next m (omega (arith, ending-no (n * x.count) m.size large, times (bounded_product n x.count) next.largest m.size (omega arith))) ∙
      sym (no (n * (x.count * m.size)) (record m { size = n * (x.count * m.size) }) k)

  -- an array of arrays
  pub spread-next : x.count ≤ x.largest → spread next m ≡ for_some (spread x m) (repeated n)
  spread-next c = step (either (x.largest * m.size) largest_size)
    where
      step : Either (x.largest * m.size) largest_size → spread next m ≡ for_some (spread x m) (repeated n)
      step (below h) =
          fits h c (either (n * (x.count * m.size)) largest_size) ∙ sym (ap (λ o. for_some o (repeated n)) (spread-yes x m h c))
      step (above h) =
          spread-no next m (omega (arith, h, times x.largest next.largest m.size (omega arith))) ∙
          sym (ap (λ o. for_some o (repeated n)) (spread-no x m h))

pub spread-within : (x : Elements) (m : Measure) → x.count ≤ x.largest → Within m → IfSome (spread x m) Within
spread-within x m c within = step (nat_le (bounded_product x.largest m.size) largest_size) refl
  where
    step : (b : Bool) → nat_le (bounded_product x.largest m.size) largest_size ≡ b → IfSome (if b then Some (record m { size = bounded_product x.count m.size }) else None) Within
    step true e = (omega (arith, leb-true (bounded_product x.largest m.size) largest_size e, times x.count x.largest m.size c), within.1, within.2)
    step false e = tt
