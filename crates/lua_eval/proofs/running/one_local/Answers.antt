use Rattle.std.proofs.Common.{arith, List, [], ◌∷◌, length}
use Rattle.tl_base.specs.Plan.{Read, Write}
use Rattle.tl_tree.specs.Arena.{items_of}
use Rattle.lua_value.specs.declared.value.Value.{Value}
use Rattle.lua_table.specs.Cells.{declare_all}
use Rattle.lua_table.proofs.Keeping.{keeps_itself}
use Rattle.lua_model.specs.declared.job.Job.TheVariants as jobs
use Rattle.lua_model.specs.declared.end.End.TheVariants.{One}
use Rattle.lua_model.specs.Plans.{LuaPlan, fell}
use Rattle.lua_model.specs.Statements.{local_plan}
use Rattle.lua_eval.specs.AtOnce.{Becomes}
use Rattle.lua_eval.proofs.AtOnce.{never_gains, value_passes}
use Rattle.lua_table.proofs.Keeping.{heap_keeps_by}
use Rattle.lua_eval.proofs.running.one_local.Goals as goal

pub spend-requires : goal.spend-requires
spend-requires c =
    let a = c.args in
    let found = c.in-Some.found in
    omega (
      arith,
      never_gains (items_of a.tree.now) (jobs.Expression a.value a.scope.now) (One found.value) a.heap.now a.heap.now
          a.left found.left c.in-Some.ensures.found,
      c.requires.units,
    )

pub returns-in_ok-declare_all-in-Some-clause-done : goal.returns-in_ok-declare_all-in-Some-clause-done
returns-in_ok-declare_all-in-Some-clause-done c = λ is later.
    let a = c.args in
    let items = items_of a.tree.now in
    let scope = a.scope.now in
    let s = a.heap.now in
    let found = c.in-Some.found in
    let go : List Value → LuaPlan = λ vs. Read (λ t. Write (declare_all (length a.names.now) scope.env vs t) fell) in
    let h : Becomes items (local_plan a.names.now (a.value ∷ []) scope) s a.left
    fell (declare_all (length a.names.now) scope.env (found.value ∷ []) s) found.left =
    value_passes items a.value [] scope [] found.value go s a.left found.left c.in-Some.ensures.found in
    rw c.in_ok-declare_all-in-Some.ensures.ok (rw c.in-Some.ensures.same (rw c.spend.ensures (h later)))

pub returns-in_ok-declare_all-in-Some-clause-kept : goal.returns-in_ok-declare_all-in-Some-clause-kept
returns-in_ok-declare_all-in-Some-clause-kept c =
    let s = c.args.heap.now in
    heap_keeps_by s c.find.new.heap s c.declare_all.new.heap c.in-Some.ensures.same (keeps_itself s) c.in_ok-declare_all-in-Some.ensures.kept
