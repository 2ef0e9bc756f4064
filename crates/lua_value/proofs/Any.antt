-- Where no item of a list passes a test, none does by any of the ways to ask.
use Rattle.std.proofs.Common.{ℕ, ◌+◌, ◌≤◌, ◌≡◌, Bool, true, false, cond, not, ltb, ◌||◌, List, [], ◌∷◌, length, Some, None, refl, arith}
use Rattle.std.proofs.lemmas.Bool.Decides.{nat_tests}
use Rattle.std.specs.List.{position, position_or_len, list_any}

past_any : {X : Type 0} (test : X → Bool) (xs : List X) → length xs ≤ position_or_len test xs → list_any test xs ≡ false
past_any test [] h = refl
past_any test (x ∷ xs) h = any_by (test x) h (past_any test xs)
  where
    any_by : (t : Bool) → length (x ∷ xs) ≤ cond (not t) (1 + position_or_len test xs) 0 → (length xs ≤ position_or_len test xs → list_any test xs ≡ false) → (t || list_any test xs) ≡ false
    any_by true h rest = absurd (omega (arith, h))
    any_by false h rest = rest (omega (arith, h))

pub none_by : (t : Bool) (a b : ℕ) → t ≡ ltb a b → cond t (Some a) None ≡ None → b ≤ a
none_by true a b e h = absurd (cc h)
none_by false a b e h = grind (arith, nat_tests)

pub none_any : {X : Type 0} (test : X → Bool) (xs : List X) → position test xs ≡ None → list_any test xs ≡ false
none_any test xs none = past_any test xs (none_by (ltb (position_or_len test xs) (length xs)) (position_or_len test xs) (length xs) refl none)
