-- `format` (Lua 5.1 manual, section 5.4), which knows the directives `%d`, `%s` and `%%`.
use Rattle.std.specs.Prelude.{ℕ, ◌+◌, List, [], ◌∷◌, Bool, true, false, codes, ◌==◌, Option, Some, None, Result, Ok, Err, if◌then◌else◌}
use Rattle.std.specs.Fmt.{signed_decimal}
use Rattle.tl_base.specs.declared.place.Place.{Place}
use Rattle.tl_base.specs.Layer.{State}
use Rattle.lua_value.specs.declared.library.LibFn.TheVariants.{Format}
use Rattle.lua_value.specs.declared.value.Value.{Value}
use Rattle.lua_table.specs.LuaState.{LuaState}
use Rattle.lua_base.specs.Arguments.{argument, number_in}
use Rattle.lua_base.specs.Calls.{Turned, bad_argument}
use Rattle.lua_textlib.specs.Arguments.{given, text_in}
use Rattle.lua_textlib.specs.Answers.{making_or, grown}
use Rattle.lua_textlib.specs.declared.formatting.Formatting.{Formatting}
use Rattle.lua_textlib.specs.declared.refusal.Refusal.{Refusal}
use Rattle.lua_textlib.specs.declared.refusal.Refusal.TheVariants.{BadArgument}

-- no directive is open, and the argument of a number is the next one
abbrev pub goes_on : ℕ → Result (List ℕ) Refusal → Result Formatting Refusal
goes_on next (Ok bytes) = Ok (record { made = bytes; directive = false; next = next })
goes_on next (Err refusal) = Err refusal

-- what is made with more bytes behind it
abbrev pub put : List ℕ → ℕ → List ℕ → Result Formatting Refusal
put made next more = goes_on next (grown made more)

-- an argument as a number, and as a text
abbrev pub numbered : LuaState → List ℕ → ℕ → Value → Result Formatting Refusal
numbered s made next v = given (number_in s v) (Err (BadArgument (next + 1))) (λ z. put made (next + 1) (signed_decimal z))

abbrev pub worded : LuaState → List ℕ → ℕ → Value → Result Formatting Refusal
worded s made next v = given (text_in s v) (Err (BadArgument (next + 1))) (λ bytes. put made (next + 1) bytes)

-- The byte behind a `%`: another `%` stands for itself, `d` for the next argument as a number and `s` for it as a text. No other byte
-- stands there
abbrev pub directed : LuaState → List Value → List ℕ → ℕ → ℕ → Result Formatting Refusal
directed s vs made next byte =
    if byte == 37 then put made next (codes "%")
    else (if byte == 100 then numbered s made next (argument vs next)
    else (if byte == 115 then worded s made next (argument vs next)
    else Err (BadArgument 1)))

-- a byte of the format: behind a `%`, a `%`, or one that stands for itself
abbrev pub formatted_byte : LuaState → List Value → Formatting → ℕ → Result Formatting Refusal
formatted_byte s vs f byte =
    if f.directive then directed s vs f.made f.next byte
    else (if byte == 37 then Ok (record f { directive = true }) else put f.made f.next (byte ∷ []))

abbrev pub and_then : Result Formatting Refusal → (Formatting → Result (List ℕ) Refusal) → Result (List ℕ) Refusal
and_then (Ok f) go = go f
and_then (Err refusal) go = Err refusal

-- the bytes of a format from the first one on; no `%` is the last one
abbrev pub formatted : LuaState → List Value → Formatting → List ℕ → Result (List ℕ) Refusal
formatted s vs f [] = if f.directive then Err (BadArgument 1) else Ok f.made
formatted s vs f (byte ∷ bytes) = and_then (formatted_byte s vs f byte) (λ g. formatted s vs g bytes)

-- before the first byte nothing is made, and the argument behind the format is the next one
abbrev pub begun : Formatting
begun = record { made = []; directive = false; next = 1 }

-- `format` gives the text that its first argument says of the others
abbrev pub format_turned : State LuaState → List Value → Place → Turned
format_turned s vs place =
    given (text_in s.world (argument vs 0)) (bad_argument s place 1 Format) (λ bytes.
    making_or s (formatted s.world vs begun bytes) place Format)

-- a step that did its work, and left this, or was refused
abbrev pub stepped : Option Refusal → Formatting → Result Formatting Refusal
stepped None f = Ok f
stepped (Some refusal) f = Err refusal
