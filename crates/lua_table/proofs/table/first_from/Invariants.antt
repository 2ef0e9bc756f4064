use Rattle.std.proofs.Common.{◌≡◌, drop}
use Rattle.lua_table.specs.Pairs.{first_in}
use Rattle.lua_table.proofs.table.first_from.Given as goal

-- what was passed over is empty
abbrev pub invariant-loop-place : goal.invariant-loop-place
invariant-loop-place l = first_in (drop l.fn.start l.entries.entries) ≡ first_in (drop l.place l.entries.entries)
