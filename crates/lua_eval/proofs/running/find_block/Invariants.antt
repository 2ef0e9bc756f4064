use Rattle.std.proofs.Common.{◌≡◌, ◌≤◌}
use Rattle.tl_tree.specs.Arena.{items_of}
use Rattle.lua_model.specs.Statements.{arms_plan}
use Rattle.lua_eval.specs.AtOnce.{Becomes}
use Rattle.lua_eval.proofs.running.find_block.Given as goal

abbrev pub invariant-arms : goal.invariant-arms
invariant-arms l = record {
  same : l.heap ≡ l.fn.heap;
  within : l.units ≤ l.fn.left;
  passes : Becomes (items_of l.fn.tree) (arms_plan (items_of l.fn.tree) l.fn.list l.fn.otherwise l.fn.scope) l.fn.heap l.fn.left
      (arms_plan (items_of l.fn.tree) l.rest l.fn.otherwise l.fn.scope) l.fn.heap l.units;
}
