-- Where the cells of an environment are.
use Rattle.std.specs.Prelude.{◌≤◌, List, take}
use Rattle.tl_base.specs.declared.ids.CellId.{CellId}
use Rattle.lua_table.specs.declared.env.Held.{Held}
use Rattle.lua_table.specs.declared.env.Held.TheVariants as held

-- the cells, in their order
abbrev pub held_cells : Held → List CellId
held_cells (held.Few few) = take few.count few.cells
held_cells (held.Many cells) = cells.items

-- there is a place for each
abbrev pub IsHeld : Held → Type 0
IsHeld (held.Few few) = few.count ≤ 3
IsHeld (held.Many cells) = Unit {0}
