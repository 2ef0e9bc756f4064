-- Calls of functions of the library, Lua's and Terra's, as a layer of the stage.
use Rattle.std.specs.Prelude.{Bool, true, false, List, [], ◌∷◌, Option, Some, None, if◌then◌else◌}
use Rattle.tl_base.specs.declared.place.Place.{Place}
use Rattle.tl_base.specs.Layer.{State, Given, Seen, Ended, SpentAt, Asks, Meaning}
use Rattle.lua_value.specs.declared.library.LibFn.{LibFn}
use Rattle.lua_value.specs.declared.library.LibFn.TheVariants.{Symbol, Macro, Global, Constant, SizeOf, OffsetOf, NewList, Insert}
use Rattle.lua_value.specs.declared.library.LibFn.TheVariants.{InsertAll, Map, NewStruct, Pointer, Array, SaveObj, Compile, IsDefined}
use Rattle.lua_value.specs.declared.library.LibFn.TheVariants.{GetType, IsIntegral, IsLogical, IsPointer, IsArray, IsStruct, Field}
use Rattle.lua_value.specs.declared.library.LibFn.TheVariants.{ArrayType, PointerType, FunctionType}
use Rattle.lua_value.specs.declared.library.LibFn.TheVariants.{Byte, Char, Format, Len, Rep, Sub, Concat, TableInsert, Remove}
use Rattle.lua_table.specs.LuaState.{LuaState}
use Rattle.lua_table.specs.declared.call.Back.{Back}
use Rattle.lua_table.specs.declared.call.Back.TheVariants as backs
use Rattle.lua_table.specs.declared.call.LibCall.{LibCall}
use Rattle.lua_table.specs.declared.call.LibNext.{LibNext}
use Rattle.lua_table.specs.declared.call.LibNext.TheVariants as nexts
use Rattle.lua_table.specs.declared.call.LibTurn.{LibTurn}
use Rattle.lua_table.specs.declared.call.LibTurn.TheVariants as turns
use Rattle.lua_model.specs.declared.end.LuaEnd.{LuaEnd}
use Rattle.lua_model.specs.declared.end.LuaEnd.TheVariants.{Done, Raised}
use Rattle.lua_model.specs.declared.job.LuaJob.TheVariants.{Call}
use Rattle.lua_model.specs.declared.question.LuaAnswer.{LuaAnswer}
use Rattle.lua_model.specs.declared.question.LuaAnswer.TheVariants as answers
use Rattle.lua_base.specs.Basic as basic
use Rattle.lua_base.specs.Calls as base
use Rattle.lua_textlib.specs.Calls as textlib
use Rattle.exotype.specs.World.{StageState}
use Rattle.terra_lib.specs.Answers.{Turned, on_heap}
use Rattle.terra_lib.specs.Calls as terra
use Rattle.stage_library.specs.declared.tasks.Task.{Task}
use Rattle.stage_library.specs.declared.tasks.Task.TheVariants.{Evaluate, TypeText}
use Rattle.stage_library.specs.declared.calls.Library.{Library}

-- the functions of Terra's library, and those that the language itself calls; all others are of Lua's
abbrev pub is_terra : LibFn → Bool
is_terra Symbol = true
is_terra Macro = true
is_terra Global = true
is_terra Constant = true
is_terra SizeOf = true
is_terra OffsetOf = true
is_terra NewList = true
is_terra Insert = true
is_terra InsertAll = true
is_terra Map = true
is_terra NewStruct = true
is_terra Pointer = true
is_terra Array = true
is_terra SaveObj = true
is_terra Compile = true
is_terra IsDefined = true
is_terra GetType = true
is_terra IsIntegral = true
is_terra IsLogical = true
is_terra IsPointer = true
is_terra IsArray = true
is_terra IsStruct = true
is_terra Field = true
is_terra PointerType = true
is_terra ArrayType = true
is_terra FunctionType = true
is_terra _ = false

-- the functions of Lua on texts and on tables; all others of Lua's are basic ones
abbrev pub is_on_texts_or_tables : LibFn → Bool
is_on_texts_or_tables Byte = true
is_on_texts_or_tables Char = true
is_on_texts_or_tables Format = true
is_on_texts_or_tables Len = true
is_on_texts_or_tables Rep = true
is_on_texts_or_tables Sub = true
is_on_texts_or_tables Concat = true
is_on_texts_or_tables TableInsert = true
is_on_texts_or_tables Remove = true
is_on_texts_or_tables _ = false

abbrev pub lua_called : State LuaState → LibCall → base.Turned
lua_called s call = if is_on_texts_or_tables call.function then textlib.called s call else basic.called s call

-- what a call comes to; Lua's functions have the heap alone
abbrev pub library_called : State StageState → LibCall → Turned
library_called s call = if is_terra call.function then terra.called s call else on_heap s (λ h. lua_called h call)

-- the functions of Terra's library that wait
abbrev pub is_of_terra : LibNext → Bool
is_of_terra (nexts.Map source count result function at) = true
is_of_terra _ = false

-- an answer, as a function of the library is given it; none of them is answered with what begins a layer
abbrev pub back_of : LuaAnswer → Back
back_of answers.Go = backs.Values []
back_of (answers.Values vs) = backs.Values vs
back_of (answers.Raise v place) = backs.Raised v place

-- what a function comes to that goes on with an answer
abbrev pub library_backed : State StageState → LibNext → Back → Turned
library_backed s next answer = if is_of_terra next then terra.backed s next answer else on_heap s (λ h. basic.backed h next answer)

-- What shows of what a function comes to. What it calls is Lua's call of a value, and what it asks about is the text of a type, both at
-- the place of the function's own call.
abbrev pub turn_seen : Place → LibTurn → State StageState → Seen StageState Task LuaEnd
turn_seen place (turns.Values vs) s = Ended (Done vs) s
turn_seen place (turns.Raise v at) s = Ended (Raised v at) s
turn_seen place turns.Spent s = SpentAt s
turn_seen place (turns.CallBack f vs next) s = Asks (Evaluate (Call f vs place)) s
turn_seen place (turns.TypeText t next) s = Asks (TypeText t place) s

-- a function that asks goes on; of another one, so much shows
abbrev pub on_question : LibTurn → Seen StageState Task LuaEnd → (LibNext → Seen StageState Task LuaEnd) → Seen StageState Task LuaEnd
on_question (turns.CallBack f vs next) shown go = go next
on_question (turns.TypeText t next) shown go = go next
on_question turn shown go = shown

-- what shows of it, given the answers after that
abbrev pub library_seen : Place → List (Given StageState LuaAnswer) → LibTurn → State StageState → Seen StageState Task LuaEnd
library_seen place [] turn s = turn_seen place turn s
library_seen place (given ∷ later) turn s =
    on_question turn (turn_seen place turn s) (λ next.
    let left = library_backed given.state next (back_of given.answer) in library_seen place later left.turn left.left)

-- what a call that is to begin, or that waits, comes to with an answer
abbrev pub library_turned : LibCall → Option LibNext → Given StageState LuaAnswer → Turned
library_turned call None first = library_called first.state call
library_turned call (Some next) first = library_backed first.state next (back_of first.answer)

-- what remains to be done by it
abbrev pub library_going : LibCall → Option LibNext → Meaning StageState Task LuaAnswer LuaEnd
library_going call waiting first later =
    let left = library_turned call waiting first in library_seen call.place later left.turn left.left

-- what a call of the library means
abbrev pub library : LibCall → Meaning StageState Task LuaAnswer LuaEnd
library call = library_going call None

-- what remains to be done by a layer
abbrev pub library_rest : Library → Meaning StageState Task LuaAnswer LuaEnd
library_rest l = library_going l.call l.waiting
