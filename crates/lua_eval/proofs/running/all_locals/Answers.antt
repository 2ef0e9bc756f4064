use Rattle.std.proofs.Common.{arith, List, length, sym, ap, ◌∙◌}
use Rattle.tl_base.specs.Layer.{state}
use Rattle.tl_base.specs.Plan.{Read, Write, run}
use Rattle.tl_tree.specs.Arena.{items_of}
use Rattle.lua_value.specs.declared.value.Value.{Value}
use Rattle.lua_table.specs.Cells.{declare_all}
use Rattle.lua_table.proofs.Keeping.{keeps_itself}
use Rattle.lua_model.specs.Plans.{LuaPlan, fell, values_of}
use Rattle.lua_model.specs.Statements.{local_plan}
use Rattle.lua_eval.specs.AtOnce.{Becomes}
use Rattle.lua_eval.proofs.Below.{jobs_of}
use Rattle.lua_table.proofs.Keeping.{heap_keeps_by}
use Rattle.lua_eval.proofs.running.all_locals.Goals as goal

pub spend-requires : goal.spend-requires
spend-requires c = omega (arith, rw c.in-Some.is at c.in_ok-units.ensures.within, c.requires.units)

pub returns-clause-done : goal.returns-clause-done
returns-clause-done c = λ is later.
    let a = c.args in
    let items = items_of a.tree.now in
    let scope = a.scope.now in
    let s = a.heap.now in
    let units = c.in-Some.units in
    let all = c.find_all.new.values in
    let go : List Value → LuaPlan = λ vs. Read (λ t. Write (declare_all (length a.names.now) scope.env vs t) fell) in
    let passes : Becomes items (values_of a.values.now scope c.new-found.result go) s a.left (go all) s units =
    (rw c.in-Some.is at c.in_ok-units.ensures.passes) go in
    let h : Becomes items (local_plan a.names.now a.values.now scope) s a.left
    fell (declare_all (length a.names.now) scope.env all s) units =
    λ l. ap (λ (vs : List Value). run (jobs_of items) (values_of a.values.now scope vs go) (state s a.left) l) (sym c.new-found.ensures)
    ∙ passes l in
    rw c.in_ok-declare_all-in-Some.ensures.ok (rw c.as_slice.ensures (rw c.in_ok-units.ensures.same
    (rw c.spend.ensures (h later))))

pub returns-clause-kept : goal.returns-clause-kept
returns-clause-kept c =
    let s = c.args.heap.now in
    heap_keeps_by s c.find_all.new.heap s c.declare_all.new.heap c.in_ok-units.ensures.same (keeps_itself s) c.in_ok-declare_all-in-Some.ensures.kept
