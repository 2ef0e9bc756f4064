-- Runs that only extend have one least count at which they are over.
use Rattle.std.proofs.Common.{◌≡◌, ℕ, zero, suc, ◌≤◌, Bool, true, false, refl, arith}
use Rattle.terra_words.specs.Runs.{Run, Over, More, Extends}
use Rattle.terra_meaning.specs.Laws.{needs_more, Need}

over-same : (r q : Run) → Extends r q → needs_more r ≡ false → q ≡ r
over-same (Over e out) q h k = h
over-same (More out) q h k = absurd (grind (arith, k))

more-before : (r q : Run) → Extends r q → needs_more q ≡ true → needs_more r ≡ true
more-before (More out) q h k = refl
more-before (Over e out) q h k = absurd (grind (arith, h, k))

abbrev Least : (ℕ → Run) → ℕ → Type 0
Least runs n = (count : ℕ) × (count ≤ n) × Need runs count

at-last : (runs : ℕ → Run) → ((n m : ℕ) → n ≤ m → Extends (runs n) (runs m)) → (n : ℕ) → needs_more (runs
    (suc n)) ≡ false →
    (needs_more (runs n) ≡ false → Least runs n) → (b : Bool) → needs_more (runs n) ≡ b → Least runs (suc n)
at-last runs extend n k before false p =
    let found : Least runs n = before p in
    let le : found.0 ≤ n = found.1 in
    (found.0, omega (arith, le), found.2)
at-last runs extend n k before true p = (
  suc n,
  omega arith,
  record {
    ends = k;
    same = λ m le. over-same (runs (suc n)) (runs m) (extend (suc n) m le) k;
    less = λ m lt. more-before (runs m) (runs n) (extend m n (omega (arith, lt))) p;
  },
)

pub least : (runs : ℕ → Run) → ((n m : ℕ) → n ≤ m → Extends (runs n) (runs m)) → (n : ℕ) → needs_more (runs n) ≡ false →
    (count : ℕ) × (count ≤ n) × Need runs count
least runs extend zero k = (
  0,
  omega arith,
  record {
    ends = k;
    same = λ m le. over-same (runs 0) (runs m) (extend 0 m le) k;
    less = λ m lt. absurd (omega (arith, lt));
  },
)
least runs extend (suc n) k = at-last runs extend n k (least runs extend n) (needs_more (runs n)) refl
