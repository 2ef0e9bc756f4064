-- The bits of a scalar value are those of its type.
use Rattle.std.proofs.Common.{◌≡◌, ℕ, suc, ◌-◌, ◌<◌, ◌≤◌, ℤ, pos, negsuc, Bool, true, false, Option, Some, None, refl, ap, ◌∙◌, subst}
use Rattle.std.proofs.Common.{arith, lit<, slice_get}
use Rattle.std.specs.Prelude.{◌||◌, ◌&&◌, nat_lt, nat_le, unwrap_or}
use Rattle.std.specs.Int.{cast_unsigned, w64}
use Rattle.std.proofs.lemmas.Bool.{and_parts, and_from, leb-true, lt-ltb, le-leb, or_left, or_right}
use Rattle.tl_base.specs.declared.ids.TypeId.{TypeId}
use Rattle.lua_value.specs.declared.value.Value.{Value}
use Rattle.lua_value.specs.declared.value.Value.TheVariants as values
use Rattle.terra_types.specs.declared.types.Integer.{Integer}
use Rattle.terra_types.specs.declared.types.Integer.TheVariants.{Int8, Int16, Int32, Int64, Uint8, Uint16, Uint32, Uint64}
use Rattle.terra_types.specs.declared.types.TypeForm.{TypeForm}
use Rattle.terra_types.specs.declared.types.TypeForm.TheVariants as forms
use Rattle.terra_types.specs.Making.{same_type}
use Rattle.terra_types.specs.Opening.{boolean}
use Rattle.terra_term.specs.declared.operators.Constant.TheVariants as constants
use Rattle.terra_term.specs.WellTyped.{is_word_of, constant_typed}
use Rattle.exotype.specs.World.{StageState}
use Rattle.terra_lib.specs.Symbols.{between, in_range, bits_if, scalar_bits, is_scalar, constant}
use Rattle.check_sound.specs.Sound.{foreseen, ConstantIsSound, IsSound}
use Rattle.check_sound.proofs.Tests.{no, none-some, same-some}
use Rattle.check_sound.proofs.Scalars.{truth-is}

-- ---- numbers in a range

signed-word : (top : ℕ) (z : ℤ) → top < 9223372036854775808 → between (negsuc top) z (pos top) ≡ true →
    (nat_lt (cast_unsigned w64 z) (suc top) ||
    (nat_le (18446744073709551616 - suc top) (cast_unsigned w64 z) && nat_lt (cast_unsigned w64 z) 18446744073709551616)) ≡ true
signed-word top (pos n) small h =
    let below : n ≤ top = leb-true n top h in
    or_left _ _ (lt-ltb n (suc top) (omega (arith, below)))
signed-word top (negsuc n) small h =
    let below : n ≤ top = leb-true n top (and_parts (nat_le n top) true h).0 in
    or_right (nat_lt (18446744073709551616 - suc n) (suc top)) _
    (and_from _ _ (le-leb (18446744073709551616 - suc top) (18446744073709551616 - suc n) (omega (arith, below)))
    (lt-ltb (18446744073709551616 - suc n) 18446744073709551616 (omega arith)))

unsigned-word : (top : ℕ) (z : ℤ) → between (pos 0) z (pos top) ≡ true → nat_lt (cast_unsigned w64 z) (suc top) ≡ true
unsigned-word top (pos n) h =
    let below : n ≤ top = leb-true n top (and_parts (nat_le 0 n) (nat_le n top) h).1 in
    lt-ltb n (suc top) (omega (arith, below))
unsigned-word top (negsuc n) h = absurd (no h)

range-word : (i : Integer) (z : ℤ) → in_range i z ≡ true → is_word_of (forms.Integer i) (cast_unsigned w64 z) ≡ true
range-word Int8 z h = signed-word 127 z (lit< tt) h
range-word Int16 z h = signed-word 32767 z (lit< tt) h
range-word Int32 z h = signed-word 2147483647 z (lit< tt) h
range-word Int64 z h = signed-word 9223372036854775807 z (lit< tt) h
range-word Uint8 z h = unsigned-word 255 z h
range-word Uint16 z h = unsigned-word 65535 z h
range-word Uint32 z h = unsigned-word 4294967295 z h
range-word Uint64 z h = unsigned-word 18446744073709551615 z h

-- ---- bits of values

bits-word : (c : Bool) (z : ℤ) (bits : ℕ) (form : TypeForm) → (c ≡ true → is_word_of form (cast_unsigned w64 z) ≡ true) →
    bits_if c z ≡ Some bits → is_word_of form bits ≡ true
bits-word true z bits form fits h =
    subst (λ n. is_word_of form n ≡ true) (same-some (cast_unsigned w64 z) bits h) (fits refl)
bits-word false z bits form fits h = absurd (none-some bits h)

integer-word : (i : Integer) (v : Value) (bits : ℕ) → scalar_bits (Some (forms.Integer i)) v ≡ Some bits →
    is_word_of (forms.Integer i) bits ≡ true
integer-word i (values.Number z) bits h = bits-word (in_range i z) z bits (forms.Integer i) (range-word i z) h
integer-word i values.Nil bits h = absurd (none-some bits h)
integer-word i (values.Boolean b) bits h = absurd (none-some bits h)
integer-word i (values.Text t) bits h = absurd (none-some bits h)
integer-word i (values.Table t) bits h = absurd (none-some bits h)
integer-word i (values.Closure f) bits h = absurd (none-some bits h)
integer-word i (values.Library f) bits h = absurd (none-some bits h)
integer-word i (values.TerraFunction f) bits h = absurd (none-some bits h)
integer-word i (values.TerraType t) bits h = absurd (none-some bits h)
integer-word i (values.Quote q) bits h = absurd (none-some bits h)
integer-word i (values.Symbol x) bits h = absurd (none-some bits h)
integer-word i (values.Macro m) bits h = absurd (none-some bits h)
integer-word i (values.Global g) bits h = absurd (none-some bits h)
integer-word i (values.Constant c) bits h = absurd (none-some bits h)
integer-word i (values.Primitive p) bits h = absurd (none-some bits h)

pointer-word : (t : TypeId) (v : Value) (bits : ℕ) → scalar_bits (Some (forms.Pointer t)) v ≡ Some bits →
    is_word_of (forms.Pointer t) bits ≡ true
pointer-word t (values.Number z) bits h = bits-word (in_range Uint64 z) z bits (forms.Pointer t) (range-word Uint64 z) h
pointer-word t values.Nil bits h = absurd (none-some bits h)
pointer-word t (values.Boolean b) bits h = absurd (none-some bits h)
pointer-word t (values.Text x) bits h = absurd (none-some bits h)
pointer-word t (values.Table x) bits h = absurd (none-some bits h)
pointer-word t (values.Closure f) bits h = absurd (none-some bits h)
pointer-word t (values.Library f) bits h = absurd (none-some bits h)
pointer-word t (values.TerraFunction f) bits h = absurd (none-some bits h)
pointer-word t (values.TerraType x) bits h = absurd (none-some bits h)
pointer-word t (values.Quote q) bits h = absurd (none-some bits h)
pointer-word t (values.Symbol x) bits h = absurd (none-some bits h)
pointer-word t (values.Macro m) bits h = absurd (none-some bits h)
pointer-word t (values.Global g) bits h = absurd (none-some bits h)
pointer-word t (values.Constant c) bits h = absurd (none-some bits h)
pointer-word t (values.Primitive p) bits h = absurd (none-some bits h)

-- ---- constants

-- a constant is of type bool, or has the bits of its type
pub constant-fits : (w : StageState) → IsSound w → (t : TypeId) (v : Value) (bits : ℕ) →
    is_scalar (slice_get w.store.types t.0) ≡ true → scalar_bits (slice_get w.store.types t.0) v ≡ Some bits →
    ConstantIsSound w (constant t bits)
constant-fits w old t v bits scalar is = by (slice_get w.store.types t.0) refl scalar is
  where
    word : (form : TypeForm) → slice_get w.store.types t.0 ≡ Some form → is_word_of form bits ≡ true →
        ConstantIsSound w (constant t bits)
    word form at h =
        or_right (same_type t boolean) (constant_typed (foreseen w) t (constants.Number bits))
        (ap (λ o. is_word_of (unwrap_or o forms.Unit) bits) at ∙ h)

    by : (o : Option TypeForm) → slice_get w.store.types t.0 ≡ o → is_scalar o ≡ true → scalar_bits o v ≡ Some bits →
        ConstantIsSound w (constant t bits)
    by None at scalar is = absurd (no scalar)
    by (Some (forms.Integer i)) at scalar is = word (forms.Integer i) at (integer-word i v bits is)
    by (Some forms.Bool) at scalar is =
        or_left (same_type t boolean) (constant_typed (foreseen w) t (constants.Number bits))
        (truth-is w.store.types old.types t (ap (λ o. unwrap_or o forms.Unit) at))
    by (Some (forms.Pointer u)) at scalar is = word (forms.Pointer u) at (pointer-word u v bits is)
    by (Some forms.Unit) at scalar is = absurd (no scalar)
    by (Some (forms.Array u n)) at scalar is = absurd (no scalar)
    by (Some (forms.Function ps r)) at scalar is = absurd (no scalar)
    by (Some (forms.Struct n p l)) at scalar is = absurd (no scalar)
