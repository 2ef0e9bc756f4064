-- Words and results are by types what they are by type codes.
use Rattle.std.proofs.Common.{◌≡◌, ℕ, zero, suc, ◌+◌, ◌-◌, ◌<◌, ◌≤◌, Bool, true, false, List, [], ◌∷◌}
use Rattle.std.proofs.Common.{Option, Some, None, refl, sym, ap, ap₂, subst, ◌∙◌, arith, nat_le, drop}
use Rattle.std.proofs.lemmas.Bool.Decides.{nat_tests}
use Rattle.std.specs.Prelude.{◌^◌, ◌%◌, pos, negsuc, ◌&&◌, nat_lt, nat_eq, ◌==◌, not, codes, option_map, if◌then◌else◌, option_and_then}
use Rattle.std.specs.List.{list_all}
use Rattle.std.specs.Fmt.{decimal}
use Rattle.elf_image.specs.Calls.{greatest, span, word_above, word_below, result_text}
use Rattle.elf_image.specs.Exports.{param_rule}
use Rattle.elf_image.specs.Fields.{allows}
use Rattle.terra_words.specs.declared.words.Width.{Width}
use Rattle.terra_words.specs.Runs.{Value, number}
use Rattle.terra_words.specs.Words.{wrapped, signed}
use Rattle.terra_types.specs.declared.types.Integer.{Integer}
use Rattle.terra_types.specs.declared.types.Integer.TheVariants.{Int8, Int16, Int32, Int64, Uint8, Uint16, Uint32, Uint64}
use Rattle.terra_types.specs.declared.types.TypeForm.{TypeForm}
use Rattle.terra_types.specs.declared.types.TypeForm.TheVariants as forms
use Rattle.terra_term.specs.declared.lists.TypedName.{TypedName}
use Rattle.terra_meaning.specs.Values.{form_at, width_of}
use Rattle.back_end.specs.Compiled.{codes_of, integer_code, type_code}
use Rattle.terrac_call.specs.Arguments.{Arguments, argument_of, arguments_of, begins_with_dash, number_word, size_of, then_arguments}
use Rattle.terrac_call.specs.Values.{below_zero, number_text, number_written, value_text, values_said, word_in}
use Rattle.terrac_call.specs.Values.{word_said}

-- ---- words

-- the code of a type and its width have the same numbers
record SameNumbers (code : ℕ) (w : Width) : Type 0 where
  above : (n : ℕ) → word_above code n ≡ word_in w (pos n)
  below : (n : ℕ) → word_below code n ≡ word_in w (below_zero n)

one_of : {A B C : Type 0} (o : Option A) (f : A → Option C) (g : A → B) (h : B → Option C) → ((x : A) → f x ≡ h (g x))
    → option_and_then f o ≡ option_and_then h (option_map g o)
one_of None f g h same = refl
one_of (Some x) f g h same = same x

same_words : (code : ℕ) (w : Width) → SameNumbers code w → (text : List ℕ) →
    number_word code text ≡ option_and_then (word_in w) (number_written text)
same_words code w same text = by (begins_with_dash text)
  where
    by : (b : Bool) → (if b then option_and_then (word_below code) (size_of (drop 1 text))
        else option_and_then (word_above code) (size_of text))
        ≡ option_and_then (word_in w) (if b then option_map below_zero (size_of (drop 1 text)) else option_map pos (size_of text))
    by true = one_of (size_of (drop 1 text)) (word_below code) below_zero (word_in w) same.below
    by false = one_of (size_of text) (word_above code) pos (word_in w) same.above

-- a test of one bound, and of the number after it
up_to : (n greatest bound : ℕ) → greatest + 1 ≡ bound
    → (if nat_le n greatest then Some n else None) ≡ (if nat_lt n bound then Some n else None)
up_to n greatest bound is = grind (arith, nat_tests, is)

down_to : (n half : ℕ) → half < 2 ^ 64 → (if nat_le (suc n) half then Some ((2 ^ 64 - suc n) % 2 ^ 64) else None)
    ≡ (if nat_lt n half then Some (2 ^ 64 - 1 - n) else None)
down_to n half is = by (nat_le (suc n) half) (nat_lt n half) refl refl
  where
    by : (b c : Bool) → nat_le (suc n) half ≡ b → nat_lt n half ≡ c → (if b then Some ((2 ^ 64 - suc n) % 2 ^ 64) else None)
        ≡ (if c then Some (2 ^ 64 - 1 - n) else None)
    by true true p q =
        let small : n < half = grind (arith, nat_tests) in
        ap (λ (m : ℕ). Some m) (omega (arith, small, is))
    by true false p q = absurd (grind (arith, nat_tests))
    by false true p q = absurd (grind (arith, nat_tests))
    by false false p q = refl

none_down : (n w : ℕ) → ◌≡◌ {A = Option ℕ} (if nat_le (suc n) 0 then Some w else None) None
none_down n w = by (nat_le (suc n) 0) refl
  where
    by : (b : Bool) → nat_le (suc n) 0 ≡ b → ◌≡◌ {A = Option ℕ} (if b then Some w else None) None
    by true p = absurd (grind (arith, nat_tests))
    by false p = refl

-- the width of a type
abbrev width_in : TypeForm → Width
width_in form = width_of (form ∷ []) (record { 0 = 0 })

same_numbers : (i : Integer) → SameNumbers (integer_code i) (width_in (forms.Integer i))
same_numbers Int8 = record { above = λ n. up_to n 127 128 refl; below = by }
  where
    by : (n : ℕ) → word_below 1 n ≡ word_in (width_in (forms.Integer Int8)) (below_zero n)
    by zero = refl
    by (suc n) = down_to n 128 (omega arith)
same_numbers Int16 = record { above = λ n. up_to n 32767 32768 refl; below = by }
  where
    by : (n : ℕ) → word_below 2 n ≡ word_in (width_in (forms.Integer Int16)) (below_zero n)
    by zero = refl
    by (suc n) = down_to n 32768 (omega arith)
same_numbers Int32 = record { above = λ n. up_to n (2 ^ 31 - 1) (2 ^ 31) refl; below = by }
  where
    by : (n : ℕ) → word_below 3 n ≡ word_in (width_in (forms.Integer Int32)) (below_zero n)
    by zero = refl
    by (suc n) = down_to n (2 ^ 31) (omega arith)
same_numbers Int64 = record { above = λ n. up_to n (2 ^ 63 - 1) (2 ^ 63) refl; below = by }
  where
    by : (n : ℕ) → word_below 4 n ≡ word_in (width_in (forms.Integer Int64)) (below_zero n)
    by zero = refl
    by (suc n) = down_to n (2 ^ 63) (omega arith)
same_numbers Uint8 = record { above = λ n. up_to n 255 256 refl; below = by }
  where
    by : (n : ℕ) → word_below 5 n ≡ word_in (width_in (forms.Integer Uint8)) (below_zero n)
    by zero = refl
    by (suc n) = none_down n ((2 ^ 64 - suc n) % 2 ^ 64)
same_numbers Uint16 = record { above = λ n. up_to n 65535 65536 refl; below = by }
  where
    by : (n : ℕ) → word_below 6 n ≡ word_in (width_in (forms.Integer Uint16)) (below_zero n)
    by zero = refl
    by (suc n) = none_down n ((2 ^ 64 - suc n) % 2 ^ 64)
same_numbers Uint32 = record { above = λ n. up_to n (2 ^ 32 - 1) (2 ^ 32) refl; below = by }
  where
    by : (n : ℕ) → word_below 7 n ≡ word_in (width_in (forms.Integer Uint32)) (below_zero n)
    by zero = refl
    by (suc n) = none_down n ((2 ^ 64 - suc n) % 2 ^ 64)
same_numbers Uint64 = record { above = λ n. up_to n (2 ^ 64 - 1) (2 ^ 64) refl; below = by }
  where
    by : (n : ℕ) → word_below 8 n ≡ word_in (width_in (forms.Integer Uint64)) (below_zero n)
    by zero = refl
    by (suc n) = none_down n ((2 ^ 64 - suc n) % 2 ^ 64)

same_addresses : (t : TypeForm) → width_in t ≡ width_in (forms.Integer Uint64) → SameNumbers 10 (width_in t)
same_addresses t is = subst (SameNumbers 10) (sym is) (record { above = λ n. up_to n (2 ^ 64 - 1) (2 ^ 64) refl; below = by })
  where
    by : (n : ℕ) → word_below 10 n ≡ word_in (width_in (forms.Integer Uint64)) (below_zero n)
    by zero = refl
    by (suc n) = none_down n ((2 ^ 64 - suc n) % 2 ^ 64)

-- the code of an integer is no bool's
integer_word : (i : Integer) (text : List ℕ) → argument_of (integer_code i) text ≡ number_word (integer_code i) text
integer_word Int8 text = refl
integer_word Int16 text = refl
integer_word Int32 text = refl
integer_word Int64 text = refl
integer_word Uint8 text = refl
integer_word Uint16 text = refl
integer_word Uint32 text = refl
integer_word Uint64 text = refl

same_word : (form : TypeForm) (text : List ℕ) → allows param_rule (type_code form) ≡ true
    → argument_of (type_code form) text ≡ word_said form (width_in form) text
same_word (forms.Integer i) text scalar =
    integer_word i text ∙ same_words (integer_code i) (width_in (forms.Integer i)) (same_numbers i) text
same_word forms.Bool text scalar = refl
same_word (forms.Pointer t) text scalar = same_words 10 (width_in (forms.Pointer t)) (same_addresses (forms.Pointer t) refl) text
same_word forms.Unit text scalar = absurd cc
same_word (forms.Function params result) text scalar = absurd cc
same_word (forms.Array t n) text scalar = absurd cc
same_word (forms.Struct number place layout) text scalar = absurd cc

both : (a b : Bool) → (a && b) ≡ true → (a ≡ true) × (b ≡ true)
both true b e = (refl, e)
both false b e = absurd cc

-- the words of a call say the same by the types of parameters as by their codes
pub same_arguments : (types : List TypeForm) (xs : List TypedName) (position : ℕ) (texts : List (List ℕ))
    → list_all (allows param_rule) (codes_of types xs) ≡ true
    → arguments_of (codes_of types xs) position texts ≡ values_said types xs position texts
same_arguments types [] position [] scalar = refl
same_arguments types [] position (text ∷ texts) scalar = refl
same_arguments types (x ∷ xs) position [] scalar = refl
same_arguments types (x ∷ xs) position (text ∷ texts) scalar =
    let code = type_code (form_at types x.of) in
    let scalars = both (allows param_rule code) (list_all (allows param_rule) (codes_of types xs)) scalar in
    ap₂ (λ (o : Option ℕ) (a : Arguments). then_arguments o position a) (same_word (form_at types x.of) text scalars.0)
    (same_arguments types xs (position + 1) texts scalars.1)

-- ---- results

-- the text of low bits with a sign is that of the word that they make
signed_text : (low greatest half span more y : ℕ) → greatest + 1 ≡ half → half + half ≡ span → span + more ≡ 2 ^ 64 → low < span
    → (if nat_le half low then low + more else low) ≡ y
    → (if nat_le low greatest then decimal low else 45 ∷ decimal (span - low)) ≡ number_text (signed y)
signed_text low greatest half span more y one two all small is =
    by (nat_le half low) (nat_le low greatest) (nat_le (2 ^ 63) y) refl refl refl is
  where
    by : (a b c : Bool) → nat_le half low ≡ a → nat_le low greatest ≡ b → nat_le (2 ^ 63) y ≡ c → (if a then low + more else low) ≡ y
        → (if b then decimal low else 45 ∷ decimal (span - low)) ≡ number_text (if c then negsuc (2 ^ 64 - y - 1) else pos y)
    by true true c p q r e =
        let above : half ≤ low = grind (arith, nat_tests) in
        let below : low ≤ greatest = grind (arith, nat_tests) in
        absurd (omega (arith, above, below, one))
    by false false c p q r e =
        let below : low < half = grind (arith, nat_tests) in
        let above : greatest < low = grind (arith, nat_tests) in
        absurd (omega (arith, above, below, one))
    by true false true p q r e = ap (λ (n : ℕ). 45 ∷ decimal n) (omega (arith, one, two, all, small, e))
    by true false false p q r e =
        let above : half ≤ low = grind (arith, nat_tests) in
        let below : y < 2 ^ 63 = grind (arith, nat_tests) in
        absurd (omega (arith, above, below, one, two, all, small, e))
    by false true true p q r e =
        let below : low < half = grind (arith, nat_tests) in
        let above : 2 ^ 63 ≤ y = grind (arith, nat_tests) in
        absurd (omega (arith, above, below, one, two, all, small, e))
    by false true false p q r e = ap decimal e

-- and without
plain_text : (low greatest y : ℕ) (other : List ℕ) → low ≤ greatest → low ≡ y
    → (if nat_le low greatest then decimal low else other) ≡ decimal y
plain_text low greatest y other small is = by (nat_le low greatest) refl
  where
    by : (b : Bool) → nat_le low greatest ≡ b → (if b then decimal low else other) ≡ decimal y
    by true p = ap decimal is
    by false p =
        let above : greatest < low = grind (arith, nat_tests) in
        absurd (omega (arith, above, small))

truth_text : (low y : ℕ) (one zero' : List ℕ) → low < 2 → low ≡ y
    → (if low == 1 then one else zero') ≡ (if not (nat_eq y 0) then one else zero')
truth_text zero y one zero' small is = subst (λ (z : ℕ). zero' ≡ (if not (nat_eq z 0) then one else zero')) is refl
truth_text (suc zero) y one zero' small is = subst (λ (z : ℕ). one ≡ (if not (nat_eq z 0) then one else zero')) is refl
truth_text (suc (suc n)) y one zero' small is = absurd (omega (arith, small))

-- the text of a word by a type's code is that of the value of the type whose low bits it has
pub same_text : (form : TypeForm) (x : ℕ) (v : Value) → wrapped (width_in form) x ≡ number v
    → result_text (type_code form) x ≡ value_text form v
unfolding wrapped
same_text (forms.Integer Int8) x v is =
    signed_text (x % 256) 127 128 256 (2 ^ 64 - 256) (number v) refl refl refl (omega arith) is
same_text (forms.Integer Int16) x v is =
    signed_text (x % 65536) 32767 32768 65536 (2 ^ 64 - 65536) (number v) refl refl refl (omega arith) is
same_text (forms.Integer Int32) x v is =
    signed_text (x % 2 ^ 32) (2 ^ 31 - 1) (2 ^ 31) (2 ^ 32) (2 ^ 64 - 2 ^ 32) (number v) refl refl refl (omega arith) is
same_text (forms.Integer Int64) x v is =
    signed_text (x % 2 ^ 64) (2 ^ 63 - 1) (2 ^ 63) (2 ^ 64) 0 (number v) refl refl refl (omega arith) is
same_text (forms.Integer Uint8) x v is = plain_text (x % 256) 255 (number v) _ (omega arith) is
same_text (forms.Integer Uint16) x v is = plain_text (x % 65536) 65535 (number v) _ (omega arith) is
same_text (forms.Integer Uint32) x v is = plain_text (x % 2 ^ 32) (2 ^ 32 - 1) (number v) _ (omega arith) is
same_text (forms.Integer Uint64) x v is = plain_text (x % 2 ^ 64) (2 ^ 64 - 1) (number v) _ (omega arith) is
same_text forms.Bool x v is = truth_text (x % 2) (number v) (codes "true") (codes "false") (omega arith) is
same_text (forms.Pointer t) x v is = plain_text (x % 2 ^ 64) (2 ^ 64 - 1) (number v) _ (omega arith) is
same_text forms.Unit x v is = refl
same_text (forms.Function params result) x v is = refl
same_text (forms.Array t n) x v is = refl
same_text (forms.Struct number place layout) x v is = refl
