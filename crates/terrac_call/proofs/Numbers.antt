-- Numbers from their digits, and arguments from their words.
use Rattle.std.proofs.Common.{◌≡◌, ℕ, ◌+◌, ◌-◌, ◌*◌, ◌^◌, ◌<◌, ◌≤◌, List, [], ◌∷◌, ◌++◌, length, Some, None, refl, ap, sym, ◌∙◌, arith}
use Rattle.std.proofs.lemmas.Bool.Decides.{nat_tests}
use Rattle.terrac_call.specs.Arguments.{digits_onto, below_64_bits, Arguments, Good, Bad, with_argument}

-- digits make a number no smaller
pub digits_onto-least : (digits : List ℕ) (number : ℕ) → number ≤ digits_onto number digits
digits_onto-least [] number = omega arith
digits_onto-least (digit ∷ digits) number =
    let more : 10 * number + (digit - 48) ≤ digits_onto (10 * number + (digit - 48)) digits =
    digits_onto-least digits (10 * number + (digit - 48)) in omega arith

-- arguments that stand before others
abbrev pub with_arguments : List ℕ → Arguments → Arguments
with_arguments [] others = others
with_arguments (value ∷ values) others = with_argument value (with_arguments values others)

pub with_arguments-good : (values : List ℕ) → with_arguments values (Good []) ≡ Good values
with_arguments-good [] = refl
with_arguments-good (value ∷ values) = ap (with_argument value) (with_arguments-good values)

pub with_arguments-bad : (values : List ℕ) (position : ℕ) → with_arguments values (Bad position) ≡ Bad position
with_arguments-bad [] position = refl
with_arguments-bad (value ∷ values) position = ap (with_argument value) (with_arguments-bad values position)

pub with_arguments-more : (values : List ℕ) (value : ℕ) (others : Arguments) →
    with_arguments values (with_argument value others) ≡ with_arguments (values ++ value ∷ []) others
with_arguments-more [] value others = refl
with_arguments-more (first ∷ values) value others = ap (with_argument first) (with_arguments-more values value others)

-- a number that is too large stays so with further digits
pub number_too_large : (number digit whole : ℕ) (rest others : List ℕ) → rest ≡ digit ∷ others → digits_onto number rest ≡ whole →
    None ≡ below_64_bits (10 * number + (digit - 48)) → None ≡ below_64_bits whole
number_too_large number digit whole rest others parts same large =
    let more : 10 * number + (digit - 48) ≤ digits_onto (10 * number + (digit - 48)) others =
    digits_onto-least others (10 * number + (digit - 48)) in
    let is_whole : digits_onto (10 * number + (digit - 48)) others ≡ whole = sym (ap (digits_onto number) parts) ∙ same in
    larger (10 * number + (digit - 48)) whole large (omega (arith, more, is_whole))
  where
    larger : (m n : ℕ) → None ≡ below_64_bits m → m ≤ n → None ≡ below_64_bits n
    larger m n large le = grind (arith, nat_tests)

-- a number of a 64-bit type
pub number_fits : (number : ℕ) → number < 2 ^ 64 → Some number ≡ below_64_bits number
number_fits number fits = grind (arith, nat_tests)

-- a number whose digits are over
pub number_done : (number : ℕ) (rest : List ℕ) (whole : ℕ) → length rest ≡ 0 → digits_onto number rest ≡ whole → number < 2 ^ 64
    → Some number ≡ below_64_bits whole
number_done number [] whole over same fits = number_fits number fits ∙ ap below_64_bits same
number_done number (digit ∷ rest) whole over same fits = absurd (omega arith)
