use Rattle.std.proofs.Common.{◌≤◌, ◌-◌, length, vec_capacity}
use Rattle.lua_table.specs.Borders.{AreFull}
use Rattle.lua_table.proofs.table.list_values.Given as goal

abbrev pub invariant-loop-listed : goal.invariant-loop-listed
invariant-loop-listed l = (length l.entries.entries ≤ vec_capacity l.listed) × AreFull l.entries.entries l.listed.items

abbrev pub decreases-loop-listed : goal.decreases-loop-listed
decreases-loop-listed l = length l.entries.entries - length l.listed.items
