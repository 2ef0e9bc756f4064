-- What a call of a function of Terra's library comes to.
use Rattle.std.specs.Prelude.{List, []}
use Rattle.tl_base.specs.declared.place.Place.{Place}
use Rattle.tl_base.specs.Layer.{State}
use Rattle.lua_value.specs.declared.library.LibFn.{LibFn}
use Rattle.lua_value.specs.declared.library.LibFn.TheVariants.{Symbol, Macro, Constant, NewList, Insert, InsertAll, Map, NewStruct}
use Rattle.lua_value.specs.declared.library.LibFn.TheVariants.{Pointer, Array, IsDefined, IsIntegral, IsLogical, IsPointer, IsArray}
use Rattle.lua_value.specs.declared.library.LibFn.TheVariants.{IsStruct, Field}
use Rattle.lua_value.specs.declared.library.LibFn.TheVariants.{ArrayType, PointerType, FunctionType}
use Rattle.lua_value.specs.declared.value.Value.{Value}
use Rattle.lua_table.specs.declared.call.Back.{Back}
use Rattle.lua_table.specs.declared.call.LibCall.{LibCall}
use Rattle.lua_table.specs.declared.call.LibNext.{LibNext}
use Rattle.lua_table.specs.declared.call.LibNext.TheVariants as nexts
use Rattle.lua_base.specs.Arguments.{argument}
use Rattle.exotype.specs.World.{StageState}
use Rattle.terra_lib.specs.Answers.{Turned, gives}
use Rattle.terra_lib.specs.Symbols.{symbol_turned, macro_turned, constant_turned}
use Rattle.terra_lib.specs.Types.{newstruct_turned, pointer_turned, array_turned, test_turned, isdefined_turned}
use Rattle.terra_lib.specs.Lists.{newlist_turned, insert_turned, insertall_turned, map_turned, map_back}
use Rattle.terra_lib.specs.Fields.{field_turned, pointer_type, array_type, function_type}

-- What a function gives that tells of types and functions, or that the language itself calls. One that is not of Terra's library gives
-- nothing, and so does here one that needs a check or a layout: `check_library` defines those.
abbrev pub told : State StageState → LibFn → List Value → Place → Turned
told s IsDefined vs place = isdefined_turned s vs place
told s IsIntegral vs place = test_turned s IsIntegral vs place
told s IsLogical vs place = test_turned s IsLogical vs place
told s IsPointer vs place = test_turned s IsPointer vs place
told s IsArray vs place = test_turned s IsArray vs place
told s IsStruct vs place = test_turned s IsStruct vs place
told s Field vs place = field_turned s vs
told s PointerType vs place = pointer_type s (argument vs 0) place
told s ArrayType vs place = array_type s (argument vs 0) (argument vs 1) place
told s FunctionType vs place = function_type s (argument vs 0) (argument vs 1) place
told s f vs place = gives s s.world []

-- what a function gives of arguments, at the place of its call
abbrev pub answered : State StageState → LibFn → List Value → Place → Turned
answered s Symbol vs place = symbol_turned s vs place
answered s Macro vs place = macro_turned s vs place
answered s Constant vs place = constant_turned s vs place
answered s NewList vs place = newlist_turned s vs place
answered s Insert vs place = insert_turned s vs place
answered s InsertAll vs place = insertall_turned s vs place
answered s Map vs place = map_turned s vs place
answered s NewStruct vs place = newstruct_turned s place
answered s Pointer vs place = pointer_turned s vs place
answered s Array vs place = array_turned s vs place
answered s f vs place = told s f vs place

-- what a call comes to
abbrev pub called : State StageState → LibCall → Turned
called s call = answered s call.function call.args call.place

-- what a function comes to that goes on with an answer; those that functions of Lua's library wait for give nothing
abbrev pub backed : State StageState → LibNext → Back → Turned
backed s (nexts.Map source count result function at) answer = map_back s source count result function at answer
backed s next answer = gives s s.world []
