-- What is left of a number behind a sum of weights.
use Rattle.std.proofs.Common.{◌≡◌, ℕ, ◌+◌, ◌-◌, ◌^◌, ◌<◌, ◌≤◌, List, length, drop, get_or, sum_by, sym, ap, ◌∙◌, ⊎_elim, arith}
use Rattle.std.specs.Prelude.{nat_lt}
use Rattle.std.proofs.lemmas.Bool.{cases_lt, le-ltb, lt-ltb}
use Rattle.std.proofs.lemmas.List.Sums.{sum_by-cons}
use Rattle.rv_select.proofs.Loops.{drop-end, drop-item}

-- with an item
pub rest-turn : {X : Type 0} (f : X → ℕ) (i : ℕ) (xs : List X) (x : X) (now next most : ℕ) → x ≡ get_or xs i x → i < length xs →
    next ≡ now - f x → now - sum_by f (drop i xs) ≡ most - sum_by f xs → next - sum_by f (drop (i + 1) xs) ≡ most - sum_by f xs
rest-turn f i xs x now next most e h is before =
    less now next (most - sum_by f xs) (f x) (sum_by f (drop i xs)) (sum_by f (drop (i + 1) xs)) is
    (ap (sum_by f) (drop-item xs i x e h) ∙ sum_by-cons f x (drop (i + 1) xs)) before
  where
    less : (now next all a s r : ℕ) → next ≡ now - a → s ≡ a + r → now - s ≡ all → next - r ≡ all
    less now next all a s r e g h = omega (arith, e, g, h)

-- behind all of them
pub rest-end : {X : Type 0} (f : X → ℕ) (i : ℕ) (xs : List X) (now all : ℕ) → length xs ≤ i → now - sum_by f (drop i xs) ≡ all → now ≡ all
rest-end f i xs now all h e = none now (sum_by f (drop i xs)) all (ap (sum_by f) (drop-end xs i h)) e
  where
    none : (now s all : ℕ) → s ≡ 0 → now - s ≡ all → now ≡ all
    none now s all z e = omega (arith, z, e)

-- behind two
pub rest-both : (most a b rest end : ℕ) → rest ≡ most - a → end ≡ rest - b → end ≡ most - (a + b)
rest-both most a b rest end e g = omega (arith, e, g)

-- something is left
pub something-left : (p b rest end : ℕ) → rest ≡ 131072 - 79 - p → end ≡ rest - b → nat_lt 0 end ≡ nat_lt (79 + p + b) (2 ^ 17)
something-left p b rest end e g =
    ⊎_elim (λ h. lt-ltb 0 end (omega (arith, e, g, h)) ∙ sym (lt-ltb (79 + p + b) (2 ^ 17) h))
    (λ h. le-ltb 0 end (omega (arith, e, g, h)) ∙ sym (le-ltb (79 + p + b) (2 ^ 17) h)) (cases_lt (79 + p + b) (2 ^ 17))
