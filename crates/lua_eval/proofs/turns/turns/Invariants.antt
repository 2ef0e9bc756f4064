use Rattle.std.proofs.Common.{List}
use Rattle.tl_tree.specs.Arena.{items_of}
use Rattle.lua_value.specs.declared.value.Value.{Value}
use Rattle.lua_table.specs.Keeping.{KeepsHeap}
use Rattle.lua_eval.specs.AtOnce.{Becomes}
use Rattle.lua_eval.specs.Turns.{counted_plan}
use Rattle.lua_eval.proofs.turns.turns.Given as goal

abbrev pub invariant-turns : goal.invariant-turns
invariant-turns l = record {
  passes : (out : List Value) →
      Becomes (items_of l.fn.tree) (counted_plan (items_of l.fn.tree) l.fn.block l.fn.node l.fn.scope l.fn.at l.fn.limit l.fn.by out)
      l.fn.heap l.fn.budget (counted_plan (items_of l.fn.tree) l.fn.block l.fn.node l.fn.scope l.at l.fn.limit l.fn.by out) l.heap l.budget;
  kept : KeepsHeap l.fn.heap l.heap;
}
