use Rattle.std.proofs.Common.{List, [], ◌∷◌, ap, ◌∙◌}
use Rattle.tl_base.specs.declared.ids.NodeId.{NodeId}
use Rattle.tl_base.specs.Layer.{state}
use Rattle.tl_base.specs.Plan.{run}
use Rattle.tl_tree.specs.Arena.{items_of}
use Rattle.lua_model.specs.Assignments.{assign_plan}
use Rattle.lua_eval.proofs.Below.{jobs_of}
use Rattle.lua_eval.proofs.storing.assignment_at_once.Goals as goal

pub returns-clause-done : goal.returns-clause-done
returns-clause-done c = λ is later.
    let a = c.args in
    let items = items_of a.tree.now in
    let scope = a.scope.now in
    let s = a.heap.now in
    ap (λ (ns : List NodeId). run (jobs_of items) (assign_plan items ns a.values.now scope) (state s a.left) later) c.in-Some.ensures
    ∙ ap (λ (es : List NodeId). run (jobs_of items) (assign_plan items (c.in-Some.target ∷ []) es scope) (state s a.left) later)
    c.in-Some-only.ensures
    ∙ c.in_ok-done.ensures.done is later
