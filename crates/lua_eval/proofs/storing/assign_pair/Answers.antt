use Rattle.std.proofs.Common.{arith, [], ◌∷◌}
use Rattle.tl_tree.specs.Arena.{items_of}
use Rattle.lua_table.proofs.Keeping.{keeps_itself}
use Rattle.lua_model.specs.Assignments.{assign_plan}
use Rattle.lua_model.specs.Plans.{fell}
use Rattle.lua_eval.specs.AtOnce.{Becomes}
use Rattle.lua_eval.specs.Storing.{put_both}
use Rattle.lua_table.proofs.Keeping.{heap_keeps_by}
use Rattle.lua_eval.proofs.storing.assign_pair.Goals as goal

pub spend-requires : goal.spend-requires
spend-requires c = omega (arith, c.in-Some.ensures.within, c.requires.units)

pub returns-in_ok-put_pair-in-Some-clause-done : goal.returns-in_ok-put_pair-in-Some-clause-done
returns-in_ok-put_pair-in-Some-clause-done c = λ is later.
    let a = c.args in
    let items = items_of a.tree.now in
    let pair = c.in-Some.pair in
    let h : Becomes items (assign_plan items (a.targets.0 ∷ a.targets.1 ∷ []) (a.values.0 ∷ a.values.1 ∷ []) a.scope.now) a.heap.now a.left
    fell (put_both a.heap.now a.scope.now pair.first pair.one pair.second pair.other) pair.left =
    c.in-Some.ensures.passes in
    rw c.in_ok-put_pair-in-Some.ensures.ok (rw c.in-Some.ensures.same (rw c.spend.ensures (h later)))

pub returns-in_ok-put_pair-in-Some-clause-kept : goal.returns-in_ok-put_pair-in-Some-clause-kept
returns-in_ok-put_pair-in-Some-clause-kept c =
    let s = c.args.heap.now in
    heap_keeps_by s c.prepare_pair.new.heap s c.put_pair.new.heap c.in-Some.ensures.same (keeps_itself s) c.in_ok-put_pair-in-Some.ensures.kept
