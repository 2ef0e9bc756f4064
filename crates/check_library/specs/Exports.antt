-- Exports: which entries of a table are exported, what is tested before and after their checks, and what is exported at the end of the
-- chunk.
use Rattle.std.specs.Prelude.{ℕ, Bool, true, false, not, ◌&&◌, ◌||◌, List, [], ◌∷◌, filter, Option, Some, None}
use Rattle.std.specs.Prelude.{if◌then◌else◌, length, nat_le, slice_get}
use Rattle.tl_base.specs.declared.ids.FnId.{FnId}
use Rattle.tl_base.specs.declared.ids.TableId.{TableId}
use Rattle.tl_base.specs.declared.ids.TextId.{TextId}
use Rattle.tl_base.specs.declared.ids.TypeId.{TypeId}
use Rattle.tl_base.specs.declared.limits.TheConstants.{MAX_PARAMETERS}
use Rattle.tl_base.specs.declared.place.Place.{Place}
use Rattle.tl_base.specs.Layer.{State, state}
use Rattle.lua_value.specs.declared.library.LibFn.TheVariants as library
use Rattle.lua_value.specs.declared.value.Value.{Value}
use Rattle.lua_value.specs.declared.value.Value.TheVariants as values
use Rattle.lua_table.specs.Heap.{text_at, table_at}
use Rattle.lua_table.specs.Pairs.{Pairs}
use Rattle.lua_base.specs.Arguments.{argument, table_in}
use Rattle.lua_base.specs.Opening.{globals}
use Rattle.terra_types.specs.declared.types.TypeForm.{TypeForm}
use Rattle.terra_term.specs.declared.refusal.RefusalKind.TheVariants.{TooLarge}
use Rattle.terra_term.specs.declared.store.Function.{Function}
use Rattle.terra_term.specs.Planted.{nowhere}
use Rattle.exotype.specs.declared.fault.Fault.TheVariants as faults
use Rattle.exotype.specs.World.{StageState}
use Rattle.spec_model.specs.Making.{is_undefined}
use Rattle.terra_lib.specs.Answers.{bad_argument, raised, gives}
use Rattle.terra_lib.specs.Exports.{is_free, takes_scalars, gives_scalar, parameters_in, result_in, term_of_function, may_be_exported}
use Rattle.terra_lib.specs.Exports.{with_exported, marked, is_text}
use Rattle.terra_lib.specs.Symbols.{is_scalar}
use Rattle.check_library.specs.declared.exports.Fate.{Fate}
use Rattle.check_library.specs.declared.exports.Fate.TheVariants.{Exported, Refused, LeftOut}
use Rattle.check_model.specs.Calls.{declared_params, declared_result, result_of}
use Rattle.check_model.specs.Typing.{function_at}
use Rattle.check_model.specs.declared.known.KnownResult.{KnownResult}
use Rattle.check_model.specs.declared.known.KnownResult.TheVariants.{Is}
use Rattle.check_model.specs.declared.question.CheckAnswer.{CheckAnswer}
use Rattle.check_library.specs.declared.ask.AskTurn.TheVariants as asks
use Rattle.check_library.specs.declared.ask.AskNext.TheVariants as nexts
use Rattle.check_library.specs.declared.ask.ExportNext.{ExportNext}
use Rattle.check_library.specs.Answers.{Asked, asked, said, with_one, refused, on_check}
use Rattle.check_library.specs.Counting.{CountedState, nothing, count_with, numbered}

-- ---- one entry

-- At the end of the chunk a function whose result is an aggregate is left out.
abbrev pub fate_by : (at_end gives : Bool) → TextId → FnId → Fate
fate_by at_end gives key f = if gives then Exported key f else (if at_end then LeftOut else Refused)

-- at most eight types, all scalar, where they are known
abbrev pub all_scalar_types : List TypeForm → List TypeId → Bool
all_scalar_types types [] = true
all_scalar_types types (t ∷ ts) = is_scalar (slice_get types t.0) && all_scalar_types types ts

abbrev pub are_scalar_types : List TypeForm → Option (List TypeId) → Bool
are_scalar_types types None = true
are_scalar_types types (Some ts) = nat_le (length ts) MAX_PARAMETERS && all_scalar_types types ts

-- what a function was declared as
abbrev pub declared_as : Option Function → Option TypeId
declared_as (Some g) = g.declared
declared_as None = None

-- A function has the parameters and the result of its definition, and until it is defined those of its declaration.
abbrev pub takes_known : StageState → FnId → Bool
takes_known w f =
    if is_undefined w f
    then are_scalar_types w.store.types (declared_params w.store.types (declared_as (function_at w f)))
    else takes_scalars w (parameters_in (term_of_function w f))

abbrev pub gives_known : StageState → FnId → Bool
gives_known w f =
    if is_undefined w f
    then gives_scalar w (declared_result w.store.types (declared_as (function_at w f)))
    else gives_scalar w (result_in (term_of_function w f))

-- A function may be exported, if its check allows it, under a name that may be that of a new export, where it has at most eight parameters,
-- all scalar, and no aggregate is written as its result, as far as these are known.
abbrev pub fate_of_function : StageState → Bool → TextId → FnId → Fate
fate_of_function w at_end key f =
    if is_free w (text_at w.heap key) && takes_known w f then fate_by at_end (gives_known w f) key f else Refused

-- Only functions of the source are exported, under texts. An emptied entry isn't there.
abbrev pub fate_of : StageState → Bool → Value → Value → Fate
fate_of w at_end key values.Nil = LeftOut
fate_of w at_end (values.Text key) (values.TerraFunction f) = fate_of_function w at_end key f
fate_of w at_end key v = Refused

abbrev pub found_result : KnownResult → Option TypeId
found_result (Is t) = Some t
found_result _ = None

-- After its check no one has taken the name meanwhile, and the result type that was found is no aggregate either. A value of Lua names a
-- function that is there, and behind its check it is defined, so that it has the parameters that were tested before.
abbrev pub fate_after : StageState → Bool → TextId → FnId → Fate
fate_after w at_end key f =
    if is_free w (text_at w.heap key) && may_be_exported w (values.TerraFunction f)
    then fate_by at_end (gives_scalar w (found_result (result_of w f))) key f
    else Refused

-- ---- entries in their order

-- how the first entry fares that isn't left out, and the entries behind it; where there is none, all are left out
pub record Next : Type 0 where
  pub fate : Fate
  pub rest : Pairs

abbrev pub unless_left_out : Fate → Pairs → Next → Next
unless_left_out LeftOut rest other = other
unless_left_out fate rest other = record { fate = fate; rest = rest }

abbrev pub next_of : StageState → Bool → Pairs → Next
next_of w at_end [] = record { fate = LeftOut; rest = [] }
next_of w at_end (p ∷ ps) = unless_left_out (fate_of w at_end p.0 p.1) ps (next_of w at_end ps)

-- the check that an export waits for
abbrev pub waiting : Bool → CountedState → TextId → FnId → Pairs → ExportNext
waiting at_end counted key f rest = record { at_end = at_end; counted = counted; key = key; function = f; rest = rest }

-- asks for the check of a function that may be exported, or ends
abbrev pub fared : State StageState → Bool → CountedState → Fate → Pairs → Place → Asked
fared s at_end counted (Exported key f) rest place = asked (asks.Check f (nexts.Export (waiting at_end counted key f rest))) s
fared s at_end counted Refused rest place = said (raised s place faults.BadExport)
fared s at_end counted LeftOut rest place = said (gives s s.world [])

-- goes on with entries
abbrev pub exported : State StageState → Bool → CountedState → Pairs → Place → Asked
exported s at_end counted ps place =
    let next = next_of s.world at_end ps in
    fared s at_end counted next.fate next.rest place

-- ---- after a check

-- at the end of the chunk what is raised for a refusal has the refusal's place, and else that of the call
abbrev pub raised_at : Bool → (own place : Place) → Place
raised_at true own place = own
raised_at false own place = place

abbrev pub place_in : Option Function → Place
place_in (Some g) = g.place
place_in None = nowhere

abbrev pub place_of_function : StageState → FnId → Place
place_of_function w f = place_in (function_at w f)

-- a function is exported, and the entries behind it follow
abbrev pub added_to : State StageState → ExportNext → CountedState → Place → Asked
added_to s next counted place =
    exported (state (with_exported s.world next.key next.function) s.left) next.at_end counted next.rest place

-- exports are refused that reach too much, at the function that passes the most typed nodes that they may have
abbrev pub too_large : State StageState → Bool → FnId → Place → Asked
too_large s at_end f place =
    let own = place_of_function s.world f in
    said (refused s TooLarge own (raised_at at_end own place))

abbrev pub added_by : State StageState → ExportNext → CountedState → Option ℕ → Place → Asked
added_by s next counted None place = added_to s next counted place
added_by s next counted (Some f) place = too_large s next.at_end (numbered f) place

abbrev pub added : State StageState → ExportNext → Place → Asked
added s next place =
    let count = count_with s.world next.counted next.function in
    added_by s next count.counted count.passing place

-- a function whose check isn't refused
abbrev pub checked : State StageState → ExportNext → Fate → Place → Asked
checked s next (Exported key f) place = added s next place
checked s next Refused place = said (raised s place faults.BadExport)
checked s next LeftOut place = exported s next.at_end next.counted next.rest place

abbrev pub export_backed : State StageState → ExportNext → CheckAnswer → Place → Asked
export_backed s next answer place =
    on_check s answer (λ r. raised_at next.at_end r.place place)
    (checked s next (fate_after s.world next.at_end next.key next.function) place)

-- ---- tables

-- the entries that are taken of a table: at the end of the chunk those of functions that are defined, and have at most eight parameters,
-- all scalar
abbrev pub taken : StageState → Bool → Pairs → Pairs
taken w at_end ps = filter (λ (p : Value × Value). not at_end || may_be_exported w p.1) ps

-- an entry, where there is one
abbrev pub taken_at : StageState → Bool → Option (Value × Value) → Pairs
taken_at w at_end None = []
taken_at w at_end (Some p) = taken w at_end (p ∷ [])

-- The entries of a table are exported that it has before the first check. From now on `saveobj` counts as called.
abbrev pub table_exported : State StageState → Bool → TableId → Place → Asked
table_exported s at_end t place =
    exported (state (marked s.world) s.left) at_end nothing (taken s.world at_end (table_at s.world.heap t)) place

-- `saveobj` exports the entries of a table. It counts as called whatever comes of it.
abbrev pub saveobj_asked : State StageState → List Value → Place → Asked
saveobj_asked s vs place =
    let called = state (marked s.world) s.left in
    if is_text (argument vs 0)
    then with_one (table_in (argument vs 1)) (said (bad_argument called place 2 library.SaveObj)) (λ t. table_exported s false t place)
    else said (bad_argument called place 1 library.SaveObj)

-- Where `saveobj` was never called, the end of the chunk exports the global functions that may be exported. That an entry can't be exported
-- is raised with the place of the end of the text.
abbrev pub chunk_ended : State StageState → Place → Asked
chunk_ended s place =
    if s.world.exports.saved then said (gives s s.world []) else table_exported s true globals place
