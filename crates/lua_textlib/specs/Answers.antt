-- What the functions answer.
use Rattle.std.specs.Prelude.{ℕ, List, [], ◌∷◌, ◌++◌, length, codes, nat_le, Result, Ok, Err, if◌then◌else◌}
use Rattle.tl_base.specs.declared.place.Place.{Place}
use Rattle.tl_base.specs.Layer.{State}
use Rattle.tl_base.specs.declared.text.TheConstants.Text.{MAX_LEN}
use Rattle.lua_value.specs.declared.library.LibFn.{LibFn}
use Rattle.lua_value.specs.declared.value.Value.{Value}
use Rattle.lua_table.specs.LuaState.{LuaState}
use Rattle.lua_table.specs.declared.call.LibTurn.{LibTurn}
use Rattle.lua_table.specs.declared.call.LibTurn.TheVariants as turns
use Rattle.lua_base.specs.Calls as base
use Rattle.lua_base.specs.Calls.{Turned, turned, raised, bad_argument}
use Rattle.lua_textlib.specs.declared.refusal.Refusal.{Refusal}
use Rattle.lua_textlib.specs.declared.refusal.Refusal.TheVariants.{BadArgument, TooLong, Spent}

abbrev pub one_value : Value → LibTurn
one_value v = turns.Values (v ∷ [])

-- raises that a text is too long
abbrev pub too_long : State LuaState → Place → Turned
too_long s place = raised s place (codes "text too long")

-- gives the text of these bytes, which is paid for, where it isn't too long
abbrev pub making : State LuaState → List ℕ → Place → Turned
making s bytes place = base.making s place bytes one_value

-- what a function answers that comes to its bytes step by step, or to what ends it before
abbrev pub making_or : State LuaState → Result (List ℕ) Refusal → Place → LibFn → Turned
making_or s (Ok bytes) place f = making s bytes place
making_or s (Err (BadArgument position)) place f = bad_argument s place position f
making_or s (Err TooLong) place f = too_long s place
making_or s (Err Spent) place f = turned turns.Spent s

-- a text that is being made with more bytes behind it, where it doesn't become too long by them
abbrev pub grown : List ℕ → List ℕ → Result (List ℕ) Refusal
grown made more = if nat_le (length (made ++ more)) MAX_LEN then Ok (made ++ more) else Err TooLong
