use Rattle.std.proofs.Common.{◌≡◌, List}
use Rattle.tl_tree.specs.Arena.{items_of}
use Rattle.lua_value.specs.declared.value.Value.{Value}
use Rattle.lua_model.specs.Plans.{LuaPlan}
use Rattle.lua_model.specs.Assignments.{targets}
use Rattle.lua_eval.specs.AtOnce.{Becomes}
use Rattle.lua_eval.proofs.direct.targets_at_once.Given as goal

abbrev pub invariant-targets : goal.invariant-targets
invariant-targets l = record {
  same : l.heap ≡ l.fn.heap;
  passes : (go : List Value → LuaPlan) →
      Becomes (items_of l.fn.tree) (targets l.fn.nodes l.fn.scope l.fn.held go) l.fn.heap l.fn.budget
      (targets l.rest l.fn.scope l.held go) l.fn.heap l.budget;
}
