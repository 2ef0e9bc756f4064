-- Arguments of functions of the library (Lua 5.1 manual, section 5.1). Further arguments than a function has do nothing.
use Rattle.std.specs.Prelude.{ℕ, ℤ, Bool, List, length, nat_lt, Option, Some, None, if◌then◌else◌}
use Rattle.tl_base.specs.declared.ids.TableId.{TableId}
use Rattle.lua_value.specs.declared.value.Value.{Value}
use Rattle.lua_value.specs.declared.value.Value.TheVariants as values
use Rattle.lua_value.specs.Values.{is_nil}
use Rattle.lua_table.specs.LuaState.{LuaState}
use Rattle.lua_table.specs.Heap.{text_at}
use Rattle.lua_ops.specs.Numerals.{numeral_in}
-- the argument of a number, from 0; one that isn't there reads as nil
pub use Rattle.lua_table.specs.Cells.{nth_value as argument}

-- whether there is an argument of a number, from 0
abbrev pub has_argument : List Value → ℕ → Bool
has_argument vs i = nat_lt i (length vs)

-- the number that an argument is: a text that arithmetic turns into a number stands for it
abbrev pub number_in : LuaState → Value → Option ℤ
number_in s (values.Number z) = Some z
number_in s (values.Text id) = numeral_in (text_at s id)
number_in s v = None

-- the number that an argument is, which need not be there
abbrev pub number_or : LuaState → Value → ℤ → Option ℤ
number_or s v z = if is_nil v then Some z else number_in s v

-- the table that an argument is
abbrev pub table_in : Value → Option TableId
table_in (values.Table t) = Some t
table_in v = None
