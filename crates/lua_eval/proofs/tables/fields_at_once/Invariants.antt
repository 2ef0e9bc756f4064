use Rattle.tl_base.specs.declared.place.Place.{Place}
use Rattle.tl_tree.specs.Arena.{items_of}
use Rattle.lua_table.specs.Keeping.{KeepsHeap}
use Rattle.lua_model.specs.Tables.{fields}
use Rattle.lua_eval.specs.AtOnce.{Becomes}
use Rattle.lua_eval.proofs.tables.fields_at_once.Given as goal

abbrev pub invariant-fields : goal.invariant-fields
invariant-fields l = record {
  passes : (place : Place) →
      Becomes (items_of l.fn.tree) (fields (items_of l.fn.tree) l.fn.fields.rest.now l.fn.table l.fn.fields.next place l.fn.scope)
      l.fn.heap l.fn.budget (fields (items_of l.fn.tree) l.rest l.fn.table l.next place l.fn.scope) l.heap l.budget;
  kept : KeepsHeap l.fn.heap l.heap;
}
