-- The functions on texts (Lua 5.1 manual, section 5.4), `format` aside.
use Rattle.std.specs.Prelude.{ℕ, zero, suc, ◌+◌, ◌-◌, ℤ, pos, negsuc, List, [], ◌∷◌, ◌++◌, length, map, slice_range, nat_le, Option, Some}
use Rattle.std.specs.Prelude.{None, Result, Ok, Err, if◌then◌else◌}
use Rattle.tl_base.specs.declared.place.Place.{Place}
use Rattle.tl_base.specs.Layer.{State}
use Rattle.lua_value.specs.declared.library.LibFn.TheVariants.{Byte, Char, Len, Rep, Sub}
use Rattle.lua_value.specs.declared.value.Value.{Value}
use Rattle.lua_value.specs.declared.value.Value.TheVariants as values
use Rattle.lua_table.specs.LuaState.{LuaState}
use Rattle.lua_base.specs.Arguments.{argument, number_in, number_or}
use Rattle.lua_base.specs.Calls.{Turned, gives, bad_argument}
use Rattle.lua_textlib.specs.Arguments.{given, text_in}
use Rattle.lua_textlib.specs.Answers.{making, making_or}
use Rattle.lua_textlib.specs.declared.refusal.Refusal.{Refusal}
use Rattle.lua_textlib.specs.declared.refusal.Refusal.TheVariants.{BadArgument}

-- ---- len

-- `len` gives how many bytes a text has
abbrev pub len_turned : State LuaState → List Value → Place → Turned
len_turned s vs place =
    given (text_in s.world (argument vs 0)) (bad_argument s place 1 Len) (λ bytes.
    gives s (values.Number (pos (length bytes)) ∷ []))

-- ---- sub, byte

-- the place in a text of so many bytes that a number names: from 1 on, or from the end where it is negative, which is 0 before the begin
abbrev pub place_of : ℕ → ℤ → ℕ
place_of size (pos n) = n
place_of size (negsuc n) = size - n

-- the bytes of a text from one place to another one, which is among them, as far as they are there
abbrev pub part : List ℕ → ℤ → ℤ → List ℕ
part bytes i j = slice_range bytes (place_of (length bytes) i - 1) (place_of (length bytes) j)

-- `sub` gives the part of a text from a place on, to another place or to the end
abbrev pub sub_turned : State LuaState → List Value → Place → Turned
sub_turned s vs place =
    given (text_in s.world (argument vs 0)) (bad_argument s place 1 Sub) (λ bytes.
    given (number_in s.world (argument vs 1)) (bad_argument s place 2 Sub) (λ i.
    given (number_or s.world (argument vs 2) (negsuc 0)) (bad_argument s place 3 Sub) (λ j.
    making s (part bytes i j) place)))

abbrev pub number_of_byte : ℕ → Value
number_of_byte b = values.Number (pos b)

-- `byte` gives the bytes of such a part as numbers: from a place, or from the begin, to another place, or this one alone
abbrev pub byte_turned : State LuaState → List Value → Place → Turned
byte_turned s vs place =
    given (text_in s.world (argument vs 0)) (bad_argument s place 1 Byte) (λ bytes.
    given (number_or s.world (argument vs 1) (pos 1)) (bad_argument s place 2 Byte) (λ i.
    given (number_or s.world (argument vs 2) (pos (place_of (length bytes) i))) (bad_argument s place 3 Byte) (λ j.
    gives s (map number_of_byte (part bytes i j)))))

-- ---- rep

-- bytes so many times
abbrev pub repeated : ℕ → List ℕ → List ℕ
repeated zero bytes = []
repeated (suc n) bytes = bytes ++ repeated n bytes

-- how often a number says, which is not at all where it is negative
abbrev pub times : ℤ → ℕ
times (pos n) = n
times (negsuc n) = 0

-- `rep` gives a text so many times
abbrev pub rep_turned : State LuaState → List Value → Place → Turned
rep_turned s vs place =
    given (text_in s.world (argument vs 0)) (bad_argument s place 1 Rep) (λ bytes.
    given (number_in s.world (argument vs 1)) (bad_argument s place 2 Rep) (λ n.
    making s (repeated (times n) bytes) place))

-- ---- char

-- the byte that a number is
abbrev pub byte_from : Option ℤ → Option ℕ
byte_from (Some (pos n)) = if nat_le n 255 then Some n else None
byte_from (Some (negsuc n)) = None
byte_from None = None

-- the bytes made so far, and behind them those that further arguments are, of which the first has this position
abbrev pub chars_from : LuaState → List ℕ → ℕ → List Value → Result (List ℕ) Refusal
chars_from s made position [] = Ok made
chars_from s made position (v ∷ vs) =
    given (byte_from (number_in s v)) (Err (BadArgument position)) (λ b.
    chars_from s (made ++ b ∷ []) (position + 1) vs)

-- `char` gives the text of the bytes that its arguments are
abbrev pub char_turned : State LuaState → List Value → Place → Turned
char_turned s vs place = making_or s (chars_from s.world [] 1 vs) place Char
