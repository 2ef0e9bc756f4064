use Rattle.std.proofs.Common.{arith, [], ◌∷◌}
use Rattle.tl_tree.specs.Arena.{items_of}
use Rattle.lua_table.proofs.Keeping.{keeps_itself}
use Rattle.lua_model.specs.Assignments.{assign_plan}
use Rattle.lua_model.specs.Plans.{fell}
use Rattle.lua_eval.specs.AtOnce.{Becomes}
use Rattle.lua_eval.specs.Storing.{put_in}
use Rattle.lua_table.proofs.Keeping.{heap_keeps_by}
use Rattle.lua_eval.proofs.storing.assign_at_once.Goals as goal

pub spend-requires : goal.spend-requires
spend-requires c = omega (arith, c.in-Some.ensures.within, c.requires.units)

pub returns-in_ok-put-in-Some-clause-done : goal.returns-in_ok-put-in-Some-clause-done
returns-in_ok-put-in-Some-clause-done c = λ is later.
    let a = c.args in
    let ready = c.in-Some.ready in
    let h : Becomes (items_of a.tree.now) (assign_plan (items_of a.tree.now) (a.target ∷ []) (a.value ∷ []) a.scope.now) a.heap.now a.left
    fell (put_in a.heap.now a.scope.now ready.spot ready.value) ready.left =
    c.in-Some.ensures.passes in
    rw c.in_ok-put-in-Some.ensures.ok (rw c.in-Some.ensures.same (rw c.spend.ensures (h later)))

pub returns-in_ok-put-in-Some-clause-kept : goal.returns-in_ok-put-in-Some-clause-kept
returns-in_ok-put-in-Some-clause-kept c =
    let s = c.args.heap.now in
    heap_keeps_by s c.prepare.new.heap s c.put.new.heap c.in-Some.ensures.same (keeps_itself s) c.in_ok-put-in-Some.ensures.kept
