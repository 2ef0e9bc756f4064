use Rattle.std.proofs.Common.{◌≡◌}
use Rattle.lua_table.specs.Cells.{env_out}
use Rattle.lua_table.proofs.cells.env_out.Given as goal

abbrev pub invariant-steps : goal.invariant-steps
invariant-steps l = env_out l.heap l.env l.left ≡ env_out l.fn.heap l.fn.env l.fn.depth

abbrev pub decreases-steps : goal.decreases-steps
decreases-steps l = l.left
