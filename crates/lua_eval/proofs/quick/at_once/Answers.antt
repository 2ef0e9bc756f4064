use Rattle.tl_tree.specs.Arena.{items_of}
use Rattle.lua_model.specs.declared.job.Job.TheVariants as jobs
use Rattle.lua_model.specs.declared.end.End.TheVariants.{One}
use Rattle.lua_eval.specs.AtOnce.{EndsAtOnce}
use Rattle.lua_eval.proofs.quick.at_once.Goals as goal

pub returns-in-Some-clause-found : goal.returns-in-Some-clause-found
returns-in-Some-clause-found c =
    let a = c.args in
    let found = c.in-Some.found in
    let h : EndsAtOnce (items_of a.tree.now) (jobs.Expression a.node a.scope.now) (One found.value)
    a.heap.now a.budget.now a.heap.now found.left =
    rw c.left.ensures at c.in-Some.ensures.found in
    λ later. rw c.spend.ensures (h later)
