use Rattle.std.proofs.Common.{◌≡◌, ◌≤◌, List}
use Rattle.tl_tree.specs.Arena.{items_of}
use Rattle.lua_value.specs.declared.value.Value.{Value}
use Rattle.lua_model.specs.Plans.{LuaPlan, values_of}
use Rattle.lua_eval.specs.AtOnce.{Becomes}
use Rattle.lua_eval.proofs.calling.find_all.Given as goal

abbrev pub invariant-values : goal.invariant-values
invariant-values l = record {
  same : l.heap ≡ l.fn.heap;
  within : l.units ≤ l.fn.left;
  passes : (go : List Value → LuaPlan) →
      Becomes (items_of l.fn.tree) (values_of l.fn.nodes l.fn.scope l.fn.values go) l.fn.heap l.fn.left
      (values_of l.rest l.fn.scope l.values go) l.fn.heap l.units;
}
