-- Types that the library makes, and what it tells of types and functions.
use Rattle.std.specs.Prelude.{ℕ, ◌*◌, ℤ, pos, negsuc, Bool, true, false, not, List, nat_lt, Option, Some, None, if◌then◌else◌}
use Rattle.tl_base.specs.declared.ids.TypeId.{TypeId}
use Rattle.tl_base.specs.declared.place.Place.{Place}
use Rattle.tl_base.specs.Layer.{State}
use Rattle.lua_value.specs.declared.library.LibFn.{LibFn}
use Rattle.lua_value.specs.declared.library.LibFn.TheVariants as library
use Rattle.lua_value.specs.declared.value.Value.{Value}
use Rattle.lua_value.specs.declared.value.Value.TheVariants as values
use Rattle.lua_base.specs.Arguments.{argument, number_in}
use Rattle.terra_types.specs.declared.types.TypeForm.{TypeForm}
use Rattle.terra_types.specs.declared.types.TypeForm.TheVariants as forms
use Rattle.terra_types.specs.Sizes.{largest_size, size_of}
use Rattle.exotype.specs.declared.fault.Fault.TheVariants as faults
use Rattle.exotype.specs.World.{StageState}
use Rattle.exotype.specs.Types.{pointer_id, with_pointer, array_id, with_array, next_type, with_struct}
use Rattle.spec_model.specs.Making.{form_at, is_undefined}
use Rattle.terra_lib.specs.Answers.{Turned, bad_argument, raised, gives_one, given, type_in}

-- ---- types

-- `newstruct` gives a new struct type, made at the place of the call
abbrev pub newstruct_turned : State StageState → Place → Turned
newstruct_turned s place = gives_one s (with_struct s.world place) (values.TerraType (next_type s.world))

abbrev pub pointer_of : State StageState → TypeId → Turned
pointer_of s t = gives_one s (with_pointer s.world t) (values.TerraType (pointer_id s.world t))

-- `pointer` gives the type of pointers to a type
abbrev pub pointer_turned : State StageState → List Value → Place → Turned
pointer_turned s vs place = given (type_in (argument vs 0)) (bad_argument s place 1 library.Pointer) (λ t. pointer_of s t)

-- so many elements of a known size take more bytes than a type may have
abbrev pub passes : Option ℕ → ℕ → Bool
passes (Some size) n = nat_lt largest_size (size * n)
passes None n = false

abbrev pub is_too_large : StageState → TypeId → ℕ → Bool
is_too_large w t n = passes (size_of w.store.types t) n

abbrev pub array_of : State StageState → TypeId → ℕ → Place → Turned
array_of s t n place =
    if is_too_large s.world t n then raised s place faults.TypeTooLarge
    else gives_one s (with_array s.world t n) (values.TerraType (array_id s.world t n))

-- a number from 0 up
abbrev pub count_in : Option ℤ → Option ℕ
count_in (Some (pos n)) = Some n
count_in (Some (negsuc n)) = None
count_in None = None

-- `array` gives the type of so many elements of a type
abbrev pub array_turned : State StageState → List Value → Place → Turned
array_turned s vs place =
    given (type_in (argument vs 0)) (bad_argument s place 1 library.Array) (λ t.
    given (count_in (number_in s.world.heap (argument vs 1))) (bad_argument s place 2 library.Array) (λ n. array_of s t n place))

-- ---- what is told of a type

abbrev pub is_integral : Option TypeForm → Bool
is_integral (Some (forms.Integer i)) = true
is_integral form = false

abbrev pub is_logical : Option TypeForm → Bool
is_logical (Some forms.Bool) = true
is_logical form = false

abbrev pub is_pointer : Option TypeForm → Bool
is_pointer (Some (forms.Pointer t)) = true
is_pointer form = false

abbrev pub is_array : Option TypeForm → Bool
is_array (Some (forms.Array t n)) = true
is_array form = false

abbrev pub is_struct : Option TypeForm → Bool
is_struct (Some (forms.Struct number place layout)) = true
is_struct form = false

-- what one of the five tests tells; no other function is one
abbrev pub tested : LibFn → Option TypeForm → Bool
tested library.IsIntegral form = is_integral form
tested library.IsLogical form = is_logical form
tested library.IsPointer form = is_pointer form
tested library.IsArray form = is_array form
tested f form = is_struct form

abbrev pub test_turned : State StageState → LibFn → List Value → Place → Turned
test_turned s f vs place =
    given (type_in (argument vs 0)) (bad_argument s place 1 f) (λ t.
    gives_one s s.world (values.Boolean (tested f (form_at s.world t))))

-- ---- what is told of a function

-- whether a Terra function is defined; a primitive is
abbrev pub defined_in : StageState → Value → Option Bool
defined_in w (values.TerraFunction f) = Some (not (is_undefined w f))
defined_in w (values.Primitive p) = Some true
defined_in w v = None

abbrev pub isdefined_turned : State StageState → List Value → Place → Turned
isdefined_turned s vs place =
    given (defined_in s.world (argument vs 0)) (bad_argument s place 1 library.IsDefined) (λ b. gives_one s s.world (values.Boolean b))
