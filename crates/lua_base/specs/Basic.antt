-- What the basic functions give, and what they pay (Lua 5.1 manual, section 5.1).
use Rattle.std.specs.Prelude.{List, [], Option}
use Rattle.tl_base.specs.Layer.{State}
use Rattle.tl_base.specs.declared.place.Place.{Place}
use Rattle.lua_value.specs.declared.value.Value.{Value}
use Rattle.lua_value.specs.declared.library.LibFn.{LibFn}
use Rattle.lua_value.specs.declared.library.LibFn.TheVariants.{Assert, Error, GetMetatable, Ipairs, IpairsNext, Next, Pairs, Pcall, Print}
use Rattle.lua_value.specs.declared.library.LibFn.TheVariants.{RawEqual, RawGet, RawSet, Select, SetMetatable, ToNumber, ToString}
use Rattle.lua_value.specs.declared.library.LibFn.TheVariants.{«Type» as TypeOf, Unpack}
use Rattle.lua_table.specs.LuaState.{LuaState}
use Rattle.lua_table.specs.declared.call.Back.{Back}
use Rattle.lua_table.specs.declared.call.LibCall.{LibCall}
use Rattle.lua_table.specs.declared.call.LibNext.{LibNext}
use Rattle.lua_table.specs.declared.call.LibNext.TheVariants as nexts
use Rattle.lua_base.specs.Calls.{Turned, gives}
use Rattle.lua_base.specs.Errors.{assert_turned, error_turned, pcall_turned, pcall_back}
use Rattle.lua_base.specs.Tables.{getmetatable_turned, setmetatable_turned, rawequal_turned, rawget_turned, rawset_turned, next_turned}
use Rattle.lua_base.specs.Tables.{pairs_turned, ipairs_turned, ipairs_next_turned, unpack_turned}
use Rattle.lua_base.specs.Printing.{type_turned, print_turned, print_back, tostring_turned, tostring_back, tonumber_turned, select_turned}

-- what a function gives of arguments, at the place of its call, and of that of the function that calls it; one that is no basic function
-- gives nothing
abbrev pub answered : State LuaState → LibFn → List Value → Place → Option Place → Turned
answered s Assert vs place outer = assert_turned s vs place
answered s Error vs place outer = error_turned s vs place outer
answered s GetMetatable vs place outer = getmetatable_turned s vs place
answered s Ipairs vs place outer = ipairs_turned s vs place
answered s IpairsNext vs place outer = ipairs_next_turned s vs place
answered s Next vs place outer = next_turned s vs place
answered s Pairs vs place outer = pairs_turned s vs place
answered s Pcall vs place outer = pcall_turned s vs place
answered s Print vs place outer = print_turned s vs
answered s RawEqual vs place outer = rawequal_turned s vs place
answered s RawGet vs place outer = rawget_turned s vs place
answered s RawSet vs place outer = rawset_turned s vs place
answered s Select vs place outer = select_turned s vs place
answered s SetMetatable vs place outer = setmetatable_turned s vs place
answered s ToNumber vs place outer = tonumber_turned s vs place
answered s ToString vs place outer = tostring_turned s vs place
answered s TypeOf vs place outer = type_turned s vs place
answered s Unpack vs place outer = unpack_turned s vs place
answered s _ vs place outer = gives s []

-- what a call comes to
abbrev pub called : State LuaState → LibCall → Turned
called s call = answered s call.function call.args call.place call.outer

-- what a function comes to that goes on with an answer; those that others than basic functions wait for give nothing
abbrev pub backed : State LuaState → LibNext → Back → Turned
backed s nexts.Pcall answer = pcall_back s answer
backed s nexts.ToString answer = tostring_back s answer
backed s (nexts.Print written vs i) answer = print_back s written vs i answer
backed s (nexts.Map source count result function at) answer = gives s []
