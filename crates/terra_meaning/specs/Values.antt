-- Values of Terra's types, and how they stand in memory.
use Rattle.std.specs.Prelude.{◌≡◌, ℕ, ◌*◌, Bool, true, false, if◌then◌else◌, List, [], ◌∷◌, length, unwrap_or}
use Rattle.tl_base.specs.declared.ids.TypeId.{TypeId}
use Rattle.terra_memory.specs.Numbers.{number_of, low_bytes}
use Rattle.terra_words.specs.declared.words.Width.{Width}
use Rattle.terra_words.specs.Words.{wrapped, address_width}
use Rattle.terra_words.specs.Runs.{Value, word, bytes, number, bytes_in}
use Rattle.terra_term.specs.declared.lists.TypedName.{TypedName}
use Rattle.terra_types.specs.declared.types.TypeForm.{TypeForm}
use Rattle.terra_types.specs.declared.types.TypeForm.TheVariants as forms
use Rattle.terra_types.specs.Sizes.{bytes_of, is_signed, size_of}
pub use Rattle.terra_types.specs.Sizes.{form_at}

abbrev pub bytes_at : List TypeForm → TypeId → ℕ
bytes_at types t = unwrap_or (size_of types t) 0

abbrev aggregate_form : TypeForm → Bool
aggregate_form (forms.Array t n) = true
aggregate_form (forms.Struct number place layout) = true
aggregate_form _ = false

abbrev pub is_aggregate : List TypeForm → TypeId → Bool
is_aggregate types t = aggregate_form (form_at types t)

-- the width of a type's words: a bool is bit 0, a pointer or function value all bits, and unit none
abbrev width_in : TypeForm → Width
width_in (forms.Integer i) = record { signed = is_signed i; bits = 8 * bytes_of i }
width_in forms.Bool = record { signed = false; bits = 1 }
width_in forms.Unit = record { signed = false; bits = 0 }
width_in _ = address_width

abbrev pub width_of : List TypeForm → TypeId → Width
width_of types t = width_in (form_at types t)

-- the type to which a pointer points
abbrev target_in : TypeForm → TypeId
target_in (forms.Pointer t) = t
target_in _ = record { 0 = 0 }

abbrev pub target_of : List TypeForm → TypeId → TypeId
target_of types t = target_in (form_at types t)

-- a value from a type's bytes, and the bytes of a value of a type
abbrev pub decoded : List TypeForm → TypeId → List ℕ → Value
decoded types t bs = if is_aggregate types t then bytes bs else word (wrapped (width_of types t) (number_of bs))

abbrev pub encoded : List TypeForm → TypeId → Value → List ℕ
encoded types t v = if is_aggregate types t then bytes_in v else low_bytes (bytes_at types t) (number v)

-- a value of a type: a word extended as the type asks, or an aggregate's bytes
abbrev pub IsValue : List TypeForm → TypeId → Value → Type 0
IsValue types t (word x) = (is_aggregate types t ≡ false) × (wrapped (width_of types t) x ≡ x)
IsValue types t (bytes bs) = (is_aggregate types t ≡ true) × (length bs ≡ bytes_at types t)

-- values for parameters
abbrev pub AreValues : List TypeForm → List TypedName → List Value → Type 0
AreValues types [] [] = Unit {0}
AreValues types (x ∷ xs) (v ∷ vs) = IsValue types x.of v × AreValues types xs vs
AreValues types _ _ = ⊥
