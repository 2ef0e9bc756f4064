-- The text of bytes, and the heap that has it.
use Rattle.std.specs.Prelude.{ℕ, List, length, nat_le, if◌then◌else◌}
use Rattle.tl_base.specs.declared.text.TheConstants.Text.{MAX_LEN}
use Rattle.lua_value.specs.declared.value.Value.{Value}
use Rattle.lua_value.specs.declared.value.Value.TheVariants.{Nil, Text}
use Rattle.lua_table.specs.LuaState.{LuaState}
use Rattle.lua_table.specs.Heap.{interned_id, with_text}

abbrev pub text_value : LuaState → List ℕ → Value
text_value s bytes = if nat_le (length bytes) MAX_LEN then Text (interned_id s bytes) else Nil

abbrev pub text_state : LuaState → List ℕ → LuaState
text_state s bytes = if nat_le (length bytes) MAX_LEN then with_text s bytes else s
