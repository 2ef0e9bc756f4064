-- `compile` and `gettype`.
use Rattle.std.specs.Prelude.{List, [], ◌∷◌, Option, Some, None, slice_get}
use Rattle.tl_base.specs.declared.ids.FnId.{FnId}
use Rattle.tl_base.specs.declared.ids.TypeId.{TypeId}
use Rattle.tl_base.specs.declared.place.Place.{Place}
use Rattle.tl_base.specs.Layer.{State, state}
use Rattle.lua_value.specs.declared.library.LibFn.TheVariants as library
use Rattle.lua_value.specs.declared.primitive.Primitive.{Primitive}
use Rattle.lua_value.specs.declared.primitive.Primitive.TheVariants.{PutByte, Write, Alloc}
use Rattle.lua_value.specs.declared.value.Value.{Value}
use Rattle.lua_value.specs.declared.value.Value.TheVariants as values
use Rattle.lua_base.specs.Arguments.{argument}
use Rattle.terra_types.specs.Opening.{uint8, int64, unit}
use Rattle.terra_term.specs.declared.store.Quote.{Quote}
use Rattle.terra_term.specs.declared.store.Quote.TheVariants as quotes
use Rattle.terra_term.specs.declared.typed.Typed.{Typed}
use Rattle.terra_term.specs.declared.typed.Typed.TheVariants as typed_kinds
use Rattle.exotype.specs.declared.fault.Fault.TheVariants as faults
use Rattle.exotype.specs.Types.{pointer_id, with_pointer, function_id, with_function}
use Rattle.exotype.specs.World.{StageState}
use Rattle.terra_lib.specs.Answers.{Turned, bad_argument, raised, gives, gives_one}
use Rattle.check_model.specs.Calls.{parameters_of, result_of}
use Rattle.check_model.specs.declared.known.KnownResult.{KnownResult}
use Rattle.check_model.specs.declared.known.KnownResult.TheVariants.{Is}
use Rattle.check_model.specs.declared.question.CheckAnswer.{CheckAnswer}
use Rattle.check_library.specs.declared.ask.AskTurn.TheVariants as asks
use Rattle.check_library.specs.declared.ask.AskNext.TheVariants as nexts
use Rattle.check_library.specs.Answers.{Asked, asked, said, with_one, on_check}

-- ---- `compile`

-- asks for the check of a function of the source; a primitive needs none
abbrev pub compile_of : State StageState → Value → Place → Asked
compile_of s (values.TerraFunction f) place = asked (asks.Check f nexts.Compile) s
compile_of s (values.Primitive p) place = said (gives s s.world [])
compile_of s v place = said (bad_argument s place 1 library.Compile)

abbrev pub compile_asked : State StageState → List Value → Place → Asked
compile_asked s vs place = compile_of s (argument vs 0) place

abbrev pub compile_backed : State StageState → CheckAnswer → Place → Asked
compile_backed s answer place = on_check s answer (λ r. place) (said (gives s s.world []))

-- ---- `gettype`

-- gives the type of functions of these parameters and this result
abbrev pub function_of : State StageState → List TypeId → TypeId → Turned
function_of s params result =
    gives_one s (with_function s.world params result) (values.TerraType (function_id s.world params result))

abbrev pub typed_or : State StageState → Option (List TypeId) → KnownResult → Asked → Asked
typed_or s (Some params) (Is result) other = said (function_of s params result)
typed_or s params result other = other

-- gives a function's type, as far as it is known
abbrev pub type_or : State StageState → FnId → Asked → Asked
type_or s f other = typed_or s (parameters_of s.world f) (result_of s.world f) other

-- with the type of pointers to bytes
abbrev pub with_bytes : State StageState → State StageState
with_bytes s = state (with_pointer s.world uint8) s.left

-- `putbyte : {uint8} -> {}`, `write : {&uint8, int64} -> {}` and `alloc : {int64} -> &uint8`
abbrev pub primitive_type : State StageState → Primitive → Turned
primitive_type s PutByte = function_of s (uint8 ∷ []) unit
primitive_type s Write = function_of (with_bytes s) (pointer_id s.world uint8 ∷ int64 ∷ []) unit
primitive_type s Alloc = function_of (with_bytes s) (int64 ∷ []) (pointer_id s.world uint8)

-- the type of a typed expression
abbrev pub expression_type : Option Typed → Option TypeId
expression_type (Some (typed_kinds.Expression at of form)) = Some of
expression_type _ = None

-- the type of a typed quote; no other has one
abbrev pub quote_type : StageState → Option Quote → Option TypeId
quote_type w (Some (quotes.Typed source made)) = expression_type (slice_get w.store.typed made.0)
quote_type w _ = None

-- A function whose type isn't known is checked first.
abbrev pub gettype_of : State StageState → Value → Place → Asked
gettype_of s (values.TerraFunction f) place = type_or s f (asked (asks.Check f (nexts.GetType f)) s)
gettype_of s (values.Primitive p) place = said (primitive_type s p)
gettype_of s (values.Quote q) place =
    with_one (quote_type s.world (slice_get s.world.store.quotes q.0)) (said (raised s place faults.QuoteWithoutType))
    (λ t. said (gives_one s s.world (values.TerraType t)))
gettype_of s v place = said (bad_argument s place 1 library.GetType)

abbrev pub gettype_asked : State StageState → List Value → Place → Asked
gettype_asked s vs place = gettype_of s (argument vs 0) place

-- a check that isn't refused leaves a type
abbrev pub gettype_backed : State StageState → FnId → CheckAnswer → Place → Asked
gettype_backed s f answer place = on_check s answer (λ r. place) (type_or s f (said (gives s s.world [])))
