use Rattle.std.proofs.Common.{List}
use Rattle.tl_tree.specs.Arena.{items_of}
use Rattle.lua_value.specs.declared.value.Value.{Value}
use Rattle.lua_table.specs.Keeping.{KeepsHeap}
use Rattle.lua_model.specs.declared.end.End.{End}
use Rattle.lua_model.specs.Plans.{LuaPlan, statements}
use Rattle.lua_eval.specs.AtOnce.{Becomes}
use Rattle.lua_eval.proofs.waiting.run_calls.Given as goal

abbrev pub invariant-calls : goal.invariant-calls
invariant-calls l = record {
  passes : (out : List Value) (go : End → LuaPlan) →
      Becomes (items_of l.fn.tree) (statements l.fn.list l.fn.scope out go) l.fn.heap l.fn.budget
      (statements l.rest l.fn.scope out go) l.heap l.budget;
  kept : KeepsHeap l.fn.heap l.heap;
}
