use Rattle.tl_tree.specs.Arena.{items_of}
use Rattle.lua_model.specs.declared.job.Job.TheVariants as jobs
use Rattle.lua_model.specs.declared.end.End.TheVariants.{Many}
use Rattle.lua_eval.specs.AtOnce.{EndsAtOnce}
use Rattle.lua_eval.specs.Spots.{held_in}
use Rattle.lua_eval.proofs.direct.held_at_once.Goals as goal

pub returns-in-Some-clause-found : goal.returns-in-Some-clause-found
returns-in-Some-clause-found c =
    let a = c.args in
    let aimed = c.in-Some.aimed in
    let h : EndsAtOnce (items_of a.tree.now) (jobs.Target a.node a.scope.now) (Many (held_in aimed.spot))
    a.heap.now a.budget.now a.heap.now aimed.left =
    rw c.left.ensures at c.in-Some.ensures.found in
    λ later. rw c.spend.ensures (rw c.held_of.ensures (h later))
