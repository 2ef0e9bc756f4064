-- Arguments of functions of the library. Further arguments than a function has do nothing.
use Rattle.std.specs.Prelude.{ℕ, List, [], Option, Some, None, if◌then◌else◌}
use Rattle.lua_value.specs.Values.{is_nil}
use Rattle.lua_value.specs.declared.value.Value.{Value}
use Rattle.lua_table.specs.LuaState.{LuaState}
use Rattle.lua_table.specs.Heap.{text_at}
use Rattle.lua_textlib.specs.declared.arguments.Piece.{Piece}
use Rattle.lua_textlib.specs.declared.arguments.Piece.TheVariants.{Text, Decimal, Empty}
-- the bytes that a value is as a text: a number stands for its decimal text (Lua 5.1 manual, section 2.2.1)
pub use Rattle.lua_ops.specs.Outcomes.{piece_of as text_in}

-- what is done with a value, or else where there is none
abbrev pub given : {X Y : Type 0} → Option X → Y → (X → Y) → Y
given None other go = other
given (Some x) other go = go x

-- the bytes of a piece that a function reads
abbrev pub bytes_in : LuaState → Piece → List ℕ
bytes_in s (Text id) = text_at s id
bytes_in s (Decimal bytes) = bytes
bytes_in s Empty = []

-- the same of an argument that need not be there
abbrev pub text_or : LuaState → Value → List ℕ → Option (List ℕ)
text_or s v bytes = if is_nil v then Some bytes else text_in s v
