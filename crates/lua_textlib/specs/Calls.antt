-- What a call of a function on texts or on tables comes to.
use Rattle.std.specs.Prelude.{List, []}
use Rattle.tl_base.specs.declared.place.Place.{Place}
use Rattle.tl_base.specs.Layer.{State}
use Rattle.lua_value.specs.declared.library.LibFn.{LibFn}
use Rattle.lua_value.specs.declared.library.LibFn.TheVariants.{Byte, Char, Format, Len, Rep, Sub, Concat, TableInsert, Remove}
use Rattle.lua_value.specs.declared.value.Value.{Value}
use Rattle.lua_table.specs.LuaState.{LuaState}
use Rattle.lua_table.specs.declared.call.LibCall.{LibCall}
use Rattle.lua_base.specs.Calls.{Turned, gives}
use Rattle.lua_textlib.specs.Texts.{byte_turned, char_turned, len_turned, rep_turned, sub_turned}
use Rattle.lua_textlib.specs.Formats.{format_turned}
use Rattle.lua_textlib.specs.Tables.{concat_turned, insert_turned, remove_turned}

-- what a function gives of arguments, at the place of its call; one that is not of this crate gives nothing
abbrev pub answered : State LuaState → LibFn → List Value → Place → Turned
answered s Byte vs place = byte_turned s vs place
answered s Char vs place = char_turned s vs place
answered s Format vs place = format_turned s vs place
answered s Len vs place = len_turned s vs place
answered s Rep vs place = rep_turned s vs place
answered s Sub vs place = sub_turned s vs place
answered s Concat vs place = concat_turned s vs place
answered s TableInsert vs place = insert_turned s vs place
answered s Remove vs place = remove_turned s vs place
answered s _ vs place = gives s []

-- what a call comes to
abbrev pub called : State LuaState → LibCall → Turned
called s call = answered s call.function call.args call.place
