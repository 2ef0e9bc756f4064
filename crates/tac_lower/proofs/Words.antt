-- Words of types: wrapping again changes nothing, and numbers of three-address code have their types' widths.
use Rattle.std.proofs.Common.{◌≡◌, ℕ, ◌+◌, ◌<◌, Bool, true, false, List, [], ◌∷◌, refl, ap, subst, arith}
use Rattle.std.specs.Prelude.{◌^◌, ◌%◌, ◌-◌, nat_le, if◌then◌else◌}
use Rattle.tl_base.specs.declared.ids.TypeId.{TypeId}
use Rattle.terra_words.specs.declared.words.Width.{Width}
use Rattle.terra_words.specs.Words.{wrapped}
use Rattle.terra_words.specs.Runs.{Value, word, bytes, number}
use Rattle.terra_types.specs.declared.types.Integer.TheVariants.{Int8, Int16, Int32, Int64, Uint8, Uint16, Uint32, Uint64}
use Rattle.terra_types.specs.declared.types.TypeForm.{TypeForm}
use Rattle.terra_types.specs.declared.types.TypeForm.TheVariants as forms
use Rattle.terra_meaning.specs.Values.{form_at, width_of, IsValue}
use Rattle.tac_form.specs.declared.tac.Size.{Size}
use Rattle.tac_form.specs.declared.tac.Size.TheVariants.{One, Two, Four, Eight}
use Rattle.tac_form.specs.declared.tac.Number.{Number}
use Rattle.tac_form.specs.Flow as flow
use Rattle.tac_lower.specs.Pieces.{number_in}
pub use Rattle.tac_lower.specs.Needs.{HasNumber}

-- the width of a type's words
abbrev pub width_by : TypeForm → Width
width_by form = width_of (form ∷ []) (record { 0 = 0 })

low-again : (half size c low : ℕ) → (low + c) % size ≡ low → low % size ≡ low → (b : Bool) → (if b then low + c else low) % size ≡ low
low-again half size c low h k true = h
low-again half size c low h k false = k

-- the word of a number whose low bits are kept with their sign
abbrev signed_low : (half c low : ℕ) → ℕ
signed_low half c low = if nat_le half low then low + c else low

signed-again : (half size c low : ℕ) → (low + c) % size ≡ low → low % size ≡ low → signed_low half c (signed_low half c low % size)
    ≡ signed_low half c low
signed-again half size c low h k = ap (signed_low half c) (low-again half size c low h k (nat_le half low))

pub wrapped-again : (form : TypeForm) (n : ℕ) → wrapped (width_by form) (wrapped (width_by form) n) ≡ wrapped (width_by form) n
unfolding wrapped
wrapped-again (forms.Integer Int8) n = signed-again 128 256 (2 ^ 64 - 256) (n % 256) (omega arith) (omega arith)
wrapped-again (forms.Integer Int16) n = signed-again 32768 65536 (2 ^ 64 - 65536) (n % 65536) (omega arith) (omega arith)
wrapped-again (forms.Integer Int32) n =
    signed-again 2147483648 4294967296 (2 ^ 64 - 4294967296) (n % 4294967296) (omega arith) (omega arith)
wrapped-again (forms.Integer Int64) n = signed-again (2 ^ 63) (2 ^ 64) 0 (n % 2 ^ 64) (omega arith) (omega arith)
wrapped-again (forms.Integer Uint8) n = omega arith
wrapped-again (forms.Integer Uint16) n = omega arith
wrapped-again (forms.Integer Uint32) n = omega arith
wrapped-again (forms.Integer Uint64) n = omega arith
wrapped-again forms.Bool n = omega arith
wrapped-again forms.Unit n = omega arith
wrapped-again (forms.Pointer t) n = omega arith
wrapped-again (forms.Function params result) n = omega arith
wrapped-again (forms.Array t m) n = omega arith
wrapped-again (forms.Struct number place layout) n = omega arith

signed-small : (half c low : ℕ) → low + c < 2 ^ 64 → signed_low half c low < 2 ^ 64
signed-small half c low h = small (nat_le half low)
  where
    small : (b : Bool) → (if b then low + c else low) < 2 ^ 64
    small true = h
    small false = omega (arith, h)

pub wrapped-small : (form : TypeForm) (n : ℕ) → wrapped (width_by form) n < 2 ^ 64
unfolding wrapped
wrapped-small (forms.Integer Int8) n = signed-small 128 (2 ^ 64 - 256) (n % 256) (omega arith)
wrapped-small (forms.Integer Int16) n = signed-small 32768 (2 ^ 64 - 65536) (n % 65536) (omega arith)
wrapped-small (forms.Integer Int32) n = signed-small 2147483648 (2 ^ 64 - 4294967296) (n % 4294967296) (omega arith)
wrapped-small (forms.Integer Int64) n = signed-small (2 ^ 63) 0 (n % 2 ^ 64) (omega arith)
wrapped-small (forms.Integer Uint8) n = omega arith
wrapped-small (forms.Integer Uint16) n = omega arith
wrapped-small (forms.Integer Uint32) n = omega arith
wrapped-small (forms.Integer Uint64) n = omega arith
wrapped-small forms.Bool n = omega arith
wrapped-small forms.Unit n = omega arith
wrapped-small (forms.Pointer t) n = omega arith
wrapped-small (forms.Function params result) n = omega arith
wrapped-small (forms.Array t m) n = omega arith
wrapped-small (forms.Struct number place layout) n = omega arith

-- a word of any form is one of 64 bits
pub number-small : (form : Number) (n : ℕ) → wrapped (flow.width_of form) n < 2 ^ 64
number-small form n = by form.signed form.size
  where
    by : (signed : Bool) (size : Size) → wrapped (flow.width_of (record { signed = signed; size = size })) n < 2 ^ 64
    by true One = wrapped-small (forms.Integer Int8) n
    by true Two = wrapped-small (forms.Integer Int16) n
    by true Four = wrapped-small (forms.Integer Int32) n
    by true Eight = wrapped-small (forms.Integer Int64) n
    by false One = wrapped-small (forms.Integer Uint8) n
    by false Two = wrapped-small (forms.Integer Uint16) n
    by false Four = wrapped-small (forms.Integer Uint32) n
    by false Eight = wrapped-small (forms.Integer Uint64) n

pub wrapped-zero : (form : TypeForm) → wrapped (width_by form) 0 ≡ 0
unfolding wrapped
wrapped-zero (forms.Integer Int8) = refl
wrapped-zero (forms.Integer Int16) = refl
wrapped-zero (forms.Integer Int32) = refl
wrapped-zero (forms.Integer Int64) = refl
wrapped-zero (forms.Integer Uint8) = refl
wrapped-zero (forms.Integer Uint16) = refl
wrapped-zero (forms.Integer Uint32) = refl
wrapped-zero (forms.Integer Uint64) = refl
wrapped-zero forms.Bool = refl
wrapped-zero forms.Unit = refl
wrapped-zero (forms.Pointer t) = refl
wrapped-zero (forms.Function params result) = refl
wrapped-zero (forms.Array t m) = refl
wrapped-zero (forms.Struct number place layout) = refl

-- a value of any type is small as a number
pub value-small : (types : List TypeForm) (t : TypeId) (v : Value) → IsValue types t v → number v < 2 ^ 64
value-small types t (word x) h = subst (λ y. y < 2 ^ 64) h.1 (wrapped-small (form_at types t) x)
value-small types t (bytes bs) h = omega arith

pub number-width : (form : TypeForm) → HasNumber form → flow.width_of (number_in form) ≡ width_by form
number-width (forms.Integer Int8) h = refl
number-width (forms.Integer Int16) h = refl
number-width (forms.Integer Int32) h = refl
number-width (forms.Integer Int64) h = refl
number-width (forms.Integer Uint8) h = refl
number-width (forms.Integer Uint16) h = refl
number-width (forms.Integer Uint32) h = refl
number-width (forms.Integer Uint64) h = refl
number-width (forms.Pointer t) h = refl
number-width (forms.Function params result) h = refl
number-width forms.Bool h = absurd h
number-width forms.Unit h = absurd h
number-width (forms.Array t m) h = absurd h
number-width (forms.Struct number place layout) h = absurd h
