-- Numbers that digits write, digit by digit.
use Rattle.std.proofs.Common.{◌≡◌, ℕ, ◌+◌, ◌*◌, ◌<◌, ◌≤◌, Bool, true, false, cond, List, [], ◌∷◌, length, drop, Option}
use Rattle.std.proofs.Common.{Some, None, refl, ap, ◌∙◌, arith, nat_lt, slice_index_or}
use Rattle.std.specs.Option.{option_map_or}
use Rattle.std.proofs.lemmas.List.{at_drop_more, at_drop_all}
use Rattle.std.proofs.Math.Nat.{le-mul_of_pos_right}
use Rattle.tl_tree.specs.Numbers.{digit_of, number_in, fitting}

-- the number with what is left behind a place, by the digit at that place
next_by : (base value : ℕ) (bytes : List ℕ) (at : ℕ) (o : Option ℕ) → at < length bytes
    → digit_of base (slice_index_or bytes at 0) ≡ o
    → number_in base value (drop at bytes)
    ≡ option_map_or (λ d. number_in base (value * base + d) (drop (at + 1) bytes)) o value
next_by base value bytes at o lt e =
    at_drop_more (λ (xs : List ℕ). number_in base value xs) bytes at 0 lt
    ∙ ap (λ (o : Option ℕ). option_map_or (λ d. number_in base (value * base + d) (drop (at + 1) bytes)) o value) e

pub next_digit : (base value : ℕ) (bytes : List ℕ) (at d : ℕ) → at < length bytes
    → digit_of base (slice_index_or bytes at 0) ≡ Some d
    → number_in base value (drop at bytes) ≡ number_in base (value * base + d) (drop (at + 1) bytes)
next_digit base value bytes at d lt e = next_by base value bytes at (Some d) lt e

pub no_digit : (base value : ℕ) (bytes : List ℕ) (at : ℕ) → at < length bytes
    → digit_of base (slice_index_or bytes at 0) ≡ None → number_in base value (drop at bytes) ≡ value
no_digit base value bytes at lt e = next_by base value bytes at None lt e

pub all_digits : (base value : ℕ) (bytes : List ℕ) (at : ℕ) → length bytes ≤ at
    → number_in base value (drop at bytes) ≡ value
all_digits base value bytes at le = at_drop_all (λ (xs : List ℕ). number_in base value xs) bytes at le

-- more digits make no smaller number
at_least : (base value : ℕ) (bytes : List ℕ) → 0 < base → value ≤ number_in base value bytes
at_least base value [] p = omega arith
at_least base value (c ∷ rest) p = go (λ d. at_least base (value * base + d) rest p) (digit_of base c)
  where
    go : ((d : ℕ) → value * base + d ≤ number_in base (value * base + d) rest) → (o : Option ℕ)
        → value ≤ option_map_or (λ d. number_in base (value * base + d) rest) o value
    go again (Some d) = let m : value ≤ value * base = le-mul_of_pos_right value p in omega (arith, m, again d)
    go again None = omega arith

lt_true : (m n : ℕ) → nat_lt m n ≡ true → m < n
lt_true m n e = grind arith

lt_false : (m n : ℕ) → nat_lt m n ≡ false → n ≤ m
lt_false m n e = grind arith

fits_by : (n : ℕ) (b : Bool) → nat_lt n 18446744073709551616 ≡ b → n < 18446744073709551616
    → cond b (Some n) None ≡ Some n
fits_by n true e lt = refl
fits_by n false e lt = absurd (omega (arith, lt_false n 18446744073709551616 e))

pub fits : (n : ℕ) → n < 18446744073709551616 → fitting n ≡ Some n
fits n lt = fits_by n (nat_lt n 18446744073709551616) refl lt

exceeds_by : (n : ℕ) (b : Bool) → nat_lt n 18446744073709551616 ≡ b → 18446744073709551616 ≤ n
    → cond b (Some n) None ≡ None
exceeds_by n true e le = absurd (omega (arith, lt_true n 18446744073709551616 e))
exceeds_by n false e le = refl

exceeds : (n : ℕ) → 18446744073709551616 ≤ n → fitting n ≡ None
exceeds n le = exceeds_by n (nat_lt n 18446744073709551616) refl le

some_by : (n m : ℕ) (b : Bool) → nat_lt n 18446744073709551616 ≡ b → cond b (Some n) None ≡ Some m → (n ≡ m)
    × (n < 18446744073709551616)
some_by n m true e f = (cc, lt_true n 18446744073709551616 e)
some_by n m false e f = absurd cc

pub fitting_some : (n m : ℕ) → fitting n ≡ Some m → (n ≡ m) × (n < 18446744073709551616)
fitting_some n m e = some_by n m (nat_lt n 18446744073709551616) refl e

none_by : (n : ℕ) (b : Bool) → nat_lt n 18446744073709551616 ≡ b → cond b (Some n) None ≡ None
    → 18446744073709551616 ≤ n
none_by n true e f = absurd cc
none_by n false e f = lt_false n 18446744073709551616 e

-- a front of the digits writes too large a number, and so do all of them
pub too_large : (base value : ℕ) (bytes : List ℕ) → 0 < base → fitting value ≡ None
    → fitting (number_in base value bytes) ≡ None
too_large base value bytes p e =
    exceeds (number_in base value bytes)
    (omega (arith, none_by value (nat_lt value 18446744073709551616) refl e, at_least base value bytes p))
