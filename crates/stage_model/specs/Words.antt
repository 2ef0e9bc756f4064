-- What Lua code and Terra functions give one another: words for numbers and truths.
use Rattle.std.specs.Prelude.{ℕ, ◌+◌, ◌-◌, ◌*◌, ◌^◌, ◌==◌, ℤ, pos, negsuc, int_le, Bool, true, false, not, ◌&&◌, nat_le, List, [], ◌∷◌}
use Rattle.std.specs.Prelude.{length, Option, Some, None, option_map, if◌then◌else◌}
use Rattle.std.specs.Int.{cast_unsigned, w64}
use Rattle.tl_base.specs.declared.limits.TheConstants.{MAX_PARAMETERS}
use Rattle.lua_value.specs.declared.value.Value.{Value}
use Rattle.lua_value.specs.declared.value.Value.TheVariants as values
use Rattle.lua_value.specs.Numbers.{number_from}
use Rattle.terra_words.specs.Words.{signed, flag}
use Rattle.terra_types.specs.declared.types.Integer.{Integer}
use Rattle.terra_types.specs.declared.types.TypeForm.{TypeForm}
use Rattle.terra_types.specs.declared.types.TypeForm.TheVariants as forms
use Rattle.terra_types.specs.Sizes.{bytes_of, is_signed, form_at}
use Rattle.terra_term.specs.declared.lists.TypedName.{TypedName}
use Rattle.terra_term.specs.TypedTerms.{Body}

-- ---- which functions may be called

abbrev pub is_word : TypeForm → Bool
is_word (forms.Integer i) = true
is_word forms.Bool = true
is_word form = false

abbrev pub is_word_or_unit : TypeForm → Bool
is_word_or_unit forms.Unit = true
is_word_or_unit form = is_word form

abbrev pub are_words : List TypeForm → List TypedName → Bool
are_words types [] = true
are_words types (x ∷ xs) = is_word (form_at types x.of) && are_words types xs

-- at most eight parameters, each an integer or a truth; and the result is one too, or nothing
abbrev pub is_callable : List TypeForm → Body → Bool
is_callable types body =
    nat_le (length body.parameters) MAX_PARAMETERS && are_words types body.parameters
    && is_word_or_unit (form_at types body.result)

-- ---- arguments

abbrev pub least : Integer → ℤ
least i = if is_signed i then negsuc (2 ^ (8 * bytes_of i - 1) - 1) else pos 0

abbrev pub most : Integer → ℤ
most i = if is_signed i then pos (2 ^ (8 * bytes_of i - 1) - 1) else pos (2 ^ (8 * bytes_of i) - 1)

-- a number in the range of an integer type, with its sign in all 64 bits; and a truth for a bool
abbrev pub word_of : TypeForm → Value → Option ℕ
word_of (forms.Integer i) (values.Number z) =
    if int_le (least i) z && int_le z (most i) then Some (cast_unsigned w64 z) else None
word_of forms.Bool (values.Boolean b) = Some (flag b)
word_of form v = None

-- the words of all arguments, or the least position that is missing, one too many, or not of its parameter's type
pub data Taken : Type 0 where
  Words : (words : List ℕ) → Taken
  Bad : (position : ℕ) → Taken

abbrev pub with_word : ℕ → Taken → Taken
with_word x (Words xs) = Words (x ∷ xs)
with_word x (Bad n) = Bad n

abbrev pub taken_with : (position : ℕ) → Option ℕ → Taken → Taken
taken_with n None rest = Bad n
taken_with n (Some x) rest = with_word x rest

-- from a position on
abbrev pub taken : List TypeForm → (position : ℕ) → List TypedName → List Value → Taken
taken types n [] [] = Words []
taken types n [] (v ∷ vs) = Bad n
taken types n (x ∷ xs) [] = Bad n
taken types n (x ∷ xs) (v ∷ vs) = taken_with n (word_of (form_at types x.of) v) (taken types (n + 1) xs vs)

-- ---- results

abbrev pub number_of : Integer → ℕ → ℤ
number_of i x = if is_signed i then signed x else pos x

-- what Lua code is given for a word: a number of its profile, a truth, or nothing; none where the number is outside the profile
abbrev pub values_of : TypeForm → ℕ → Option (List Value)
values_of (forms.Integer i) x = option_map (λ z. values.Number z ∷ []) (number_from (number_of i x))
values_of forms.Bool x = Some (values.Boolean (not (x == 0)) ∷ [])
values_of form x = Some []
