-- The front of what is left of a list.
use Rattle.std.proofs.Common.{◌≡◌, ℕ, zero, suc, ◌+◌, List, [], ◌∷◌, Some, refl, sym, ap, ◌∙◌, drop, arith}
use Rattle.std.specs.Prelude.{slice_get}

module _ {A : Type 0} where
  front : (is : List A) (k : ℕ) (i : A) → slice_get is k ≡ Some i → drop k is ≡ i ∷ drop (suc k) is
  front [] k i e = absurd (grind (arith, e))
  front (j ∷ is) zero i e = ap (λ x. x ∷ is) (same e)
    where
      same : Some j ≡ Some i → j ≡ i
      same q = cc
  front (j ∷ is) (suc k) i e = front is k i e

  pub drop-at : (is : List A) (k : ℕ) (i : A) → slice_get is k ≡ Some i → drop k is ≡ i ∷ drop (k + 1) is
  drop-at is k i e = let n : k + 1 ≡ suc k = omega arith in front is k i e ∙ ap (λ m. i ∷ drop m is) (sym n)

  one-more : (is : List A) (k : ℕ) → drop (suc k) is ≡ drop 1 (drop k is)
  one-more is zero = refl
  one-more [] (suc k) = refl
  one-more (i ∷ is) (suc k) = one-more is k

  pub drop-two : (is : List A) (k : ℕ) → drop (k + 2) is ≡ drop 1 (drop (k + 1) is)
  drop-two is k = let n : k + 2 ≡ suc (k + 1) = omega arith in ap (λ m. drop m is) n ∙ one-more is (k + 1)
