-- `sizeof`, `offsetof` and `global`. The forms of all arguments are tested in order, before the layout is asked for.
use Rattle.std.specs.Prelude.{ℕ, zero, suc, ◌/◌, ◌%◌, List, [], ◌∷◌, length, Option, Some, None, slice_get}
use Rattle.std.specs.Prelude.{if◌then◌else◌}
use Rattle.tl_base.specs.declared.ids.GlobalId.{GlobalId}
use Rattle.tl_base.specs.declared.ids.TextId.{TextId}
use Rattle.tl_base.specs.declared.ids.TypeId.{TypeId}
use Rattle.tl_base.specs.declared.place.Place.{Place}
use Rattle.tl_base.specs.Layer.{State, state}
use Rattle.lua_value.specs.declared.library.LibFn.TheVariants as library
use Rattle.lua_value.specs.declared.value.Value.{Value}
use Rattle.lua_value.specs.declared.value.Value.TheVariants as values
use Rattle.lua_base.specs.Arguments.{argument}
use Rattle.lua_model.specs.Plans.{whole}
use Rattle.terra_types.specs.declared.types.TypeForm.{TypeForm}
use Rattle.terra_types.specs.declared.types.TypeForm.TheVariants as forms
use Rattle.terra_types.specs.Layouts.{offset_of}
use Rattle.terra_term.specs.Held.{placed_global, with_global}
use Rattle.terra_term.specs.Planted.{nowhere}
use Rattle.exotype.specs.declared.fault.Fault.TheVariants as faults
use Rattle.exotype.specs.Types.{is_type, is_struct}
use Rattle.exotype.specs.World.{StageState, with_store}
use Rattle.spec_model.specs.Making.{form_at}
use Rattle.terra_lib.specs.Answers.{Turned, bad_argument, raised, gives_one, type_in}
use Rattle.terra_lib.specs.Symbols.{scalar_bits}
use Rattle.check_model.specs.Typing.{bytes_in}
use Rattle.check_model.specs.declared.question.CheckAnswer.{CheckAnswer}
use Rattle.check_library.specs.declared.ask.AskTurn.TheVariants as asks
use Rattle.check_library.specs.declared.ask.AskNext.TheVariants as nexts
use Rattle.check_library.specs.Answers.{Asked, asked, said, with_one, on_layout}

-- ---- refused layouts

abbrev pub by_form : Option TypeForm → (TypeId → Place) → Place
by_form (Some (forms.Array t n)) within = within t
by_form (Some (forms.Struct number place layout)) within = place
by_form _ within = nowhere

-- Where a struct was made, or the struct among the elements of an array, whose type was made before the array's. Other types have no place.
abbrev pub place_within : ℕ → List TypeForm → TypeId → Place
place_within zero types t = nowhere
place_within (suc n) types t = by_form (slice_get types t.0) (λ u. place_within n types u)

abbrev pub struct_place : StageState → TypeId → Place
struct_place w t = place_within (length w.store.types) w.store.types t

-- what follows the layout of a type; one that is refused is raised with the place of the struct
abbrev pub laid : State StageState → CheckAnswer → TypeId → Place → Turned → Asked
laid s answer t place rest = on_layout s answer (struct_place s.world t) place rest

-- ---- `sizeof`

abbrev pub sizeof_asked : State StageState → List Value → Place → Asked
sizeof_asked s vs place =
    with_one (type_in (argument vs 0)) (said (bad_argument s place 1 library.SizeOf)) (λ t. asked (asks.Layout t (nexts.SizeOf t)) s)

-- the bytes of the type
abbrev pub sizeof_backed : State StageState → TypeId → CheckAnswer → Place → Asked
sizeof_backed s t answer place = laid s answer t place (gives_one s s.world (whole (bytes_in s.world t)))

-- ---- `offsetof`

abbrev pub struct_if : StageState → Option TypeId → Option TypeId
struct_if w None = None
struct_if w (Some t) = if is_struct w t then Some t else None

abbrev pub struct_in : StageState → Value → Option TypeId
struct_in w v = struct_if w (type_in v)

abbrev pub name_in : Value → Option TextId
name_in (values.Text t) = Some t
name_in v = None

abbrev pub offsetof_asked : State StageState → List Value → Place → Asked
offsetof_asked s vs place =
    with_one (struct_in s.world (argument vs 0)) (said (bad_argument s place 1 library.OffsetOf)) (λ t.
    with_one (name_in (argument vs 1)) (said (bad_argument s place 2 library.OffsetOf)) (λ name.
    asked (asks.Layout t (nexts.OffsetOf t name)) s))

abbrev pub offset_turned : State StageState → Option ℕ → Place → Turned
offset_turned s None place = bad_argument s place 2 library.OffsetOf
offset_turned s (Some n) place = gives_one s s.world (whole n)

-- the offset of the field
abbrev pub offsetof_backed : State StageState → TypeId → TextId → CheckAnswer → Place → Asked
offsetof_backed s t name answer place = laid s answer t place (offset_turned s (offset_of s.world.store.types t name) place)

-- ---- `global`

-- The bits with which a global of a type begins: all are zero where no value is given. One of a scalar type may be given a value as
-- `constant` takes it.
abbrev pub initial_bits : StageState → TypeId → Value → Option ℕ
initial_bits w t values.Nil = Some 0
initial_bits w t v = scalar_bits (form_at w t) v

-- the type that an argument is; no Lua code can make a value that names another than one that is there
abbrev pub type_if : StageState → Option TypeId → Option TypeId
type_if w None = None
type_if w (Some t) = if is_type w.store.types t then Some t else None

abbrev pub type_there : StageState → Value → Option TypeId
type_there w v = type_if w (type_in v)

abbrev pub global_asked : State StageState → List Value → Place → Asked
global_asked s vs place =
    with_one (type_there s.world (argument vs 0)) (said (bad_argument s place 1 library.Global)) (λ t.
    with_one (initial_bits s.world t (argument vs 1)) (said (bad_argument s place 2 library.Global)) (λ bits.
    asked (asks.Layout t (nexts.Global t bits)) s))

-- so many bytes of a number, the lowest first; behind its last bit they are zero
abbrev pub first_bytes : (count number : ℕ) → List ℕ
first_bytes zero number = []
first_bytes (suc n) number = number % 256 ∷ first_bytes n (number / 256)

-- the world with a global that begins with these bytes; without room for it the world stays as it is
abbrev pub with_global_in : StageState → TypeId → List ℕ → StageState
with_global_in w t bytes = with_store w (with_global w.store w.memory t bytes)

abbrev pub global_or_full : State StageState → Option GlobalId → Place → Turned
global_or_full s None place = raised s place faults.StaticsFull
global_or_full s (Some g) place = gives_one s s.world (values.Global g)

-- a new global that begins with these bytes
abbrev pub global_turned : State StageState → TypeId → List ℕ → Place → Turned
global_turned s t bytes place =
    global_or_full (state (with_global_in s.world t bytes) s.left) (placed_global s.world.store s.world.memory bytes) place

abbrev pub global_backed : State StageState → TypeId → ℕ → CheckAnswer → Place → Asked
global_backed s t bits answer place =
    laid s answer t place (global_turned s t (first_bytes (bytes_in s.world t) bits) place)
