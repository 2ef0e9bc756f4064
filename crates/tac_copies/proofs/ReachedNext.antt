-- The first block is reached, and so is each to which one leads that is reached.
use Rattle.std.proofs.Common.{◌≡◌, ◌<◌, ◌≤◌, ℕ, zero, suc, ◌+◌, Bool, true, ◌&&◌, ◌||◌, List, [], ◌∷◌, Some, refl, sym, subst, ⊎_elim}
use Rattle.std.proofs.Common.{arith}
use Rattle.std.specs.Prelude.{nat_eq, nat_le, slice_get}
use Rattle.std.proofs.lemmas.Bool.{and_from, and_parts, le-leb, or_cases, or_left, or_right}
use Rattle.tac_form.specs.declared.tac.Block.{Block}
use Rattle.tac_form.specs.declared.tac.Tac.{Tac}
use Rattle.tac_copies.specs.Reached.{is_reached, leads_back, leads_to, reached_on}

-- what is known to be reached behind a block
abbrev known_behind : (known : ℕ → Bool) → (from : ℕ) → Block → ℕ → Bool
known_behind known from b m = known m || (known from && leads_to b m)

known-stays : (bs : List Block) (known : ℕ → Bool) (from n : ℕ) → known n ≡ true → reached_on known from bs n ≡ true
known-stays [] known from n h = h
known-stays (b ∷ bs) known from n h =
    known-stays bs (known_behind known from b) (suc from) n (or_left (known n) (known from && leads_to b n) h)

-- where blocks from a number on lead back to, that is known
abbrev Backs : (known : ℕ → Bool) → (from : ℕ) → List Block → Type 0
Backs known from bs = (n : ℕ) → leads_back from bs n ≡ true → known n ≡ true

backs-behind : (b : Block) (bs : List Block) (known : ℕ → Bool) (from : ℕ) → Backs known from (b ∷ bs) →
    Backs (known_behind known from b) (suc from) bs
backs-behind b bs known from h n e =
    or_left (known n) (known from && leads_to b n) (h n (or_right (nat_le n from && leads_to b n) (leads_back (suc from) bs n) e))

next : (n : ℕ) → n < suc n
next n = omega arith

-- a block before them is reached only if that is known
before-known : (bs : List Block) (known : ℕ → Bool) (from n : ℕ) → n < from → Backs known from bs →
    reached_on known from bs n ≡ true → known n ≡ true
before-known [] known from n l h e = e
before-known (b ∷ bs) known from n l h e =
    ⊎_elim (λ k. k)
    (λ k. h n (or_left (nat_le n from && leads_to b n) (leads_back (suc from) bs n)
    (and_from (nat_le n from) (leads_to b n) (le-leb n from (under n from l)) (and_parts (known from) (leads_to b n) k).1)))
    (or_cases (known n) (known from && leads_to b n)
    (before-known bs (known_behind known from b) (suc from) n (later n from l) (backs-behind b bs known from h) e))
  where
    later : (n m : ℕ) → n < m → n < suc m
    later n m l = omega (arith, l)

    under : (n m : ℕ) → n < m → n ≤ m
    under n m l = omega (arith, l)

-- so is the first of them
first-known : (b : Block) (bs : List Block) (known : ℕ → Bool) (from : ℕ) → Backs known from (b ∷ bs) →
    reached_on known from (b ∷ bs) from ≡ true → known from ≡ true
first-known b bs known from h e =
    ⊎_elim (λ k. k) (λ k. (and_parts (known from) (leads_to b from) k).0)
    (or_cases (known from) (known from && leads_to b from)
    (before-known bs (known_behind known from b) (suc from) from (next from) (backs-behind b bs known from h) e))

pub none-more : (n : ℕ) → n + 0 ≡ n
none-more n = omega arith

pub one-later : (n c : ℕ) → n + suc c ≡ suc n + c
one-later n c = omega arith

leads-on : (bs : List Block) (known : ℕ → Bool) (from c n : ℕ) (b : Block) → Backs known from bs → slice_get bs c ≡ Some b →
    reached_on known from bs (from + c) ≡ true → leads_to b n ≡ true → reached_on known from bs n ≡ true
leads-on [] known from c n b h g r l = cc
leads-on (d ∷ bs) known from zero n b h g r l =
    let s : d ≡ b = cc in
    let k : known from ≡ true =
    first-known d bs known from h (subst (λ m. reached_on known from (d ∷ bs) m ≡ true) (none-more from) r) in
    known-stays bs (known_behind known from d) (suc from) n
    (or_right (known n) (known from && leads_to d n)
    (and_from (known from) (leads_to d n) k (subst (λ z. leads_to z n ≡ true) (sym s) l)))
leads-on (d ∷ bs) known from (suc c) n b h g r l =
    leads-on bs (known_behind known from d) (suc from) c n b (backs-behind d bs known from h) g
    (subst (λ m. reached_on known from (d ∷ bs) m ≡ true) (one-later from c) r) l

-- ---- of code

abbrev at_first : Tac → ℕ → Bool
at_first code m = nat_eq m 0 || leads_back 0 code.blocks m

pub first-reached : (code : Tac) → is_reached code 0 ≡ true
unfolding is_reached
first-reached code = known-stays code.blocks (at_first code) 0 0 (or_left (nat_eq 0 0) (leads_back 0 code.blocks 0) refl)

pub next-reached : (code : Tac) (c n : ℕ) (b : Block) → slice_get code.blocks c ≡ Some b → is_reached code c ≡ true →
    leads_to b n ≡ true → is_reached code n ≡ true
unfolding is_reached
next-reached code c n b g r l =
    leads-on code.blocks (at_first code) 0 c n b (λ m e. or_right (nat_eq m 0) (leads_back 0 code.blocks m) e) g
    (subst (λ m. reached_on (at_first code) 0 code.blocks m ≡ true) (all c) r) l
  where
    all : (n : ℕ) → n ≡ 0 + n
    all n = omega arith
