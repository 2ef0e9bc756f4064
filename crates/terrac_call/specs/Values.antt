-- What the words of a call and the text of a result are as values of Terra's types.
use Rattle.std.specs.Prelude.{ℕ, zero, suc, ◌+◌, ◌-◌, ◌^◌, ℤ, pos, negsuc, Bool, ◌&&◌, nat_lt, if◌then◌else◌, List, [], ◌∷◌, drop, Option}
use Rattle.std.specs.Prelude.{Some, None}
use Rattle.std.specs.Prelude.{option_and_then, option_map, codes}
use Rattle.std.specs.Fmt.{decimal}
use Rattle.tl_base.specs.declared.ids.TypeId.{TypeId}
use Rattle.terra_words.specs.declared.words.Width.{Width}
use Rattle.terra_words.specs.Words.{signed}
use Rattle.terra_words.specs.Runs.{Value, is_true, number}
use Rattle.terra_types.specs.declared.types.TypeForm.{TypeForm}
use Rattle.terra_types.specs.declared.types.TypeForm.TheVariants as forms
use Rattle.terra_types.specs.Sizes.{is_signed}
use Rattle.terra_term.specs.declared.lists.TypedName.{TypedName}
use Rattle.terra_meaning.specs.Values.{form_at, width_of}
use Rattle.terrac_call.specs.Arguments.{Arguments, Good, Bad, begins_with_dash, bool_word, size_of, then_arguments}

-- ---- words

-- zero, or so far below it
abbrev pub below_zero : ℕ → ℤ
below_zero zero = pos zero
below_zero (suc n) = negsuc n

-- the number that a word writes: an optional `-`, and 1 to 20 decimal digits of a size below 2 ^ 64
abbrev pub number_written : List ℕ → Option ℤ
number_written text =
    if begins_with_dash text then option_map below_zero (size_of (drop 1 text)) else option_map pos (size_of text)

-- the numbers of a width: from -2 ^ (bits - 1) to 2 ^ (bits - 1) - 1 with a sign, and from 0 to 2 ^ bits - 1 without
abbrev pub is_number_of : Width → ℤ → Bool
is_number_of w (pos n) = nat_lt n (if w.signed then 2 ^ (w.bits - 1) else 2 ^ w.bits)
is_number_of w (negsuc n) = w.signed && nat_lt n (2 ^ (w.bits - 1))

-- the 64-bit word of a number, in two's complement
abbrev pub word_of : ℤ → ℕ
word_of (pos n) = n
word_of (negsuc n) = 2 ^ 64 - 1 - n

abbrev pub word_in : Width → ℤ → Option ℕ
word_in w n = if is_number_of w n then Some (word_of n) else None

abbrev pub word_said : TypeForm → Width → List ℕ → Option ℕ
word_said forms.Bool w text = bool_word text
word_said form w text = option_and_then (word_in w) (number_written text)

-- the value of a type that a word says: `true` or `false` for a bool, and else a number of the type. None where it says no such value.
abbrev pub value_said : List TypeForm → TypeId → List ℕ → Option ℕ
value_said types t text = word_said (form_at types t) (width_of types t) text

-- the values that words from this position on say for parameters, or the least position at which a word says none, is missing or is one
-- too many
abbrev pub values_said : List TypeForm → List TypedName → (position : ℕ) → List (List ℕ) → Arguments
values_said types [] position [] = Good []
values_said types [] position (word ∷ words) = Bad position
values_said types (x ∷ xs) position [] = Bad position
values_said types (x ∷ xs) position (word ∷ words) =
    then_arguments (value_said types x.of word) position (values_said types xs (position + 1) words)

-- ---- results

abbrev pub number_text : ℤ → List ℕ
number_text (pos n) = decimal n
number_text (negsuc n) = 45 ∷ decimal (n + 1)

-- the text of a result: a number with its sign, where the type has one; `true` or `false`; an address; and `none` for unit, as no
-- export gives back anything else
abbrev pub value_text : TypeForm → Value → List ℕ
value_text (forms.Integer i) v = number_text (if is_signed i then signed (number v) else pos (number v))
value_text forms.Bool v = if is_true v then codes "true" else codes "false"
value_text (forms.Pointer t) v = decimal (number v)
value_text _ v = codes "none"
