-- Symbols, macros and constants.
use Rattle.std.specs.Prelude.{ℕ, ℤ, pos, negsuc, Bool, true, false, ◌&&◌, int_le, List, Option, Some, None, if◌then◌else◌}
use Rattle.std.specs.Int.{cast_unsigned}
use Rattle.std.specs.Int.{w64}
use Rattle.tl_base.specs.declared.ids.TypeId.{TypeId}
use Rattle.tl_base.specs.declared.place.Place.{Place}
use Rattle.tl_base.specs.Layer.{State}
use Rattle.lua_value.specs.declared.library.LibFn.TheVariants as library
use Rattle.lua_value.specs.declared.value.Value.{Value}
use Rattle.lua_value.specs.declared.value.Value.TheVariants as values
use Rattle.lua_table.specs.Heap.{next_macro, with_macro}
use Rattle.lua_base.specs.Arguments.{argument}
use Rattle.terra_types.specs.declared.types.Integer.{Integer}
use Rattle.terra_types.specs.declared.types.Integer.TheVariants.{Int8, Int16, Int32, Int64, Uint8, Uint16, Uint32, Uint64}
use Rattle.terra_types.specs.declared.types.TypeForm.{TypeForm}
use Rattle.terra_types.specs.declared.types.TypeForm.TheVariants as forms
use Rattle.terra_term.specs.Held as stores
use Rattle.terra_term.specs.declared.store.TerraConstant.{TerraConstant}
use Rattle.exotype.specs.Types.{is_type}
use Rattle.exotype.specs.World.{StageState, with_heap, with_store}
use Rattle.spec_model.specs.Making.{next_symbol, with_symbol, form_at}
use Rattle.terra_lib.specs.Answers.{Turned, bad_argument, gives_one, given, type_in}

-- ---- symbols and macros

-- `symbol` gives a new symbol, with a type or without. A value of Lua names a type that is there: no Lua code can make another.
abbrev pub symbol_of : State StageState → Value → Place → Turned
symbol_of s values.Nil place = gives_one s (with_symbol s.world None) (values.Symbol (next_symbol s.world))
symbol_of s (values.TerraType t) place =
    if is_type s.world.store.types t then gives_one s (with_symbol s.world (Some t)) (values.Symbol (next_symbol s.world))
    else bad_argument s place 1 library.Symbol
symbol_of s v place = bad_argument s place 1 library.Symbol

abbrev pub symbol_turned : State StageState → List Value → Place → Turned
symbol_turned s vs place = symbol_of s (argument vs 0) place

-- `macro` gives a new macro over a function of Lua code
abbrev pub macro_of : State StageState → Value → Place → Turned
macro_of s (values.Closure c) place =
    gives_one s (with_heap s.world (with_macro s.world.heap c)) (values.Macro (next_macro s.world.heap))
macro_of s v place = bad_argument s place 1 library.Macro

abbrev pub macro_turned : State StageState → List Value → Place → Turned
macro_turned s vs place = macro_of s (argument vs 0) place

-- ---- constants

abbrev pub between : ℤ → ℤ → ℤ → Bool
between low z high = int_le low z && int_le z high

-- whether a number is one of an integer type
abbrev pub in_range : Integer → ℤ → Bool
in_range Int8 z = between (negsuc 127) z (pos 127)
in_range Int16 z = between (negsuc 32767) z (pos 32767)
in_range Int32 z = between (negsuc 2147483647) z (pos 2147483647)
in_range Int64 z = between (negsuc 9223372036854775807) z (pos 9223372036854775807)
in_range Uint8 z = between (pos 0) z (pos 255)
in_range Uint16 z = between (pos 0) z (pos 65535)
in_range Uint32 z = between (pos 0) z (pos 4294967295)
in_range Uint64 z = between (pos 0) z (pos 18446744073709551615)

-- the 64 bits of a number, where it may be taken
abbrev pub bits_if : Bool → ℤ → Option ℕ
bits_if fits z = if fits then Some (cast_unsigned w64 z) else None

-- The 64 bits of a value as one of a scalar type: a number in an integer type's range, a boolean for bool, and for a pointer a number from
-- 0 up that 64 bits hold.
abbrev pub scalar_bits : Option TypeForm → Value → Option ℕ
scalar_bits (Some (forms.Integer i)) (values.Number z) = bits_if (in_range i z) z
scalar_bits (Some forms.Bool) (values.Boolean b) = Some (if b then 1 else 0)
scalar_bits (Some (forms.Pointer t)) (values.Number z) = bits_if (in_range Uint64 z) z
scalar_bits form v = None

-- integers, bool and pointers are scalar
abbrev pub is_scalar : Option TypeForm → Bool
is_scalar (Some (forms.Integer i)) = true
is_scalar (Some forms.Bool) = true
is_scalar (Some (forms.Pointer t)) = true
is_scalar form = false

abbrev pub constant : TypeId → ℕ → TerraConstant
constant t bits = record { of = t; value = bits }

abbrev pub with_constant : StageState → TypeId → ℕ → StageState
with_constant w t bits = with_store w (stores.with_constant w.store (constant t bits))

-- `constant` gives a new constant of a scalar type
abbrev pub constant_turned : State StageState → List Value → Place → Turned
constant_turned s vs place =
    given (type_in (argument vs 0)) (bad_argument s place 1 library.Constant) (λ t.
    if is_scalar (form_at s.world t) then given (scalar_bits (form_at s.world t) (argument vs 1)) (bad_argument s place 2 library.Constant)
    (λ bits. gives_one s (with_constant s.world t bits) (values.Constant (stores.next_constant s.world.store)))
    else bad_argument s place 1 library.Constant)
