-- The texts of values, as `print` and `tostring` give them.
use Rattle.std.specs.Prelude.{ℕ, ◌+◌, List, ◌++◌, codes, true, false}
use Rattle.std.specs.Fmt.{decimal, signed_decimal}
use Rattle.lua_value.specs.declared.value.Value.{Value}
use Rattle.lua_value.specs.declared.value.Value.TheVariants as values
use Rattle.lua_value.specs.Kinds.{kind_text}
use Rattle.lua_value.specs.Library.{library_text, primitive_text}
use Rattle.lua_value.specs.Values.{kind_of}
use Rattle.lua_table.specs.LuaState.{LuaState}
use Rattle.lua_table.specs.Heap.{text_at}

-- a kind, and the number of a value among those of its kind, from 1
abbrev pub numbered : Value → ℕ → List ℕ
numbered v id = kind_text (kind_of v) ++ codes ": " ++ decimal (id + 1)

-- a kind, and the name of a value that no source made
abbrev pub named : Value → List ℕ → List ℕ
named v name = kind_text (kind_of v) ++ codes ": " ++ name

-- the text of a value: of what has none it is the kind with a number, or with a name where no source made it. That of a type isn't read
-- here: it is asked for
abbrev pub value_text : LuaState → Value → List ℕ
value_text s values.Nil = codes "nil"
value_text s (values.Boolean true) = codes "true"
value_text s (values.Boolean false) = codes "false"
value_text s (values.Number n) = signed_decimal n
value_text s (values.Text id) = text_at s id
value_text s (values.Library f) = named (values.Library f) (library_text f)
value_text s (values.Table id) = numbered (values.Table id) id.0
value_text s (values.Closure id) = numbered (values.Closure id) id.0
value_text s (values.TerraFunction id) = numbered (values.TerraFunction id) id.0
value_text s (values.TerraType id) = numbered (values.TerraType id) id.0
value_text s (values.Quote id) = numbered (values.Quote id) id.0
value_text s (values.Symbol id) = numbered (values.Symbol id) id.0
value_text s (values.Macro id) = numbered (values.Macro id) id.0
value_text s (values.Global id) = numbered (values.Global id) id.0
value_text s (values.Constant id) = numbered (values.Constant id) id.0
value_text s (values.Primitive p) = named (values.Primitive p) (primitive_text p)
