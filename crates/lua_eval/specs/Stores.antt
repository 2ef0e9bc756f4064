-- Stores in names, by where their declarations are found.
use Rattle.std.specs.Prelude.{ℕ, List, Option, Some, None}
use Rattle.tl_base.specs.declared.place.Place.{Place}
use Rattle.tl_base.specs.Plan.{Read, Write}
use Rattle.lua_value.specs.declared.value.Value.{Value}
use Rattle.lua_value.specs.declared.value.Value.TheVariants as values
use Rattle.lua_table.specs.Cells.{with_local}
use Rattle.lua_model.specs.declared.scope.Scope.{Scope}
use Rattle.lua_model.specs.Plans.{LuaPlan, with_text_of}
use Rattle.lua_model.specs.Fields.{store, globals}

-- a local is so many environments outwards and at such a position there; any other name is a field of the globals
abbrev pub store_by_path : Option (ℕ × ℕ) → List ℕ → Place → Scope → Value → LuaPlan → LuaPlan
store_by_path (Some path) text place scope v rest = Read (λ s. Write (with_local s scope.env path.0 path.1 v) rest)
store_by_path None text place scope v rest =
    with_text_of text (λ key. store (values.Table globals) key v place scope.call rest)
