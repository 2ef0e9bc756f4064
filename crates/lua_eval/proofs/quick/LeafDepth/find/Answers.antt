use Rattle.std.proofs.Common.{arith, ◌-◌}
use Rattle.tl_tree.specs.Arena.{items_of}
use Rattle.lua_model.specs.declared.job.Job.TheVariants as jobs
use Rattle.lua_model.specs.declared.end.End.TheVariants.{One}
use Rattle.lua_eval.proofs.AtOnce.{begun}
use Rattle.lua_eval.proofs.quick.LeafDepth.find.Goals as goal

pub returns-in-Some-clause-found : goal.returns-in-Some-clause-found
returns-in-Some-clause-found c =
    let a = c.args in
    begun (items_of a.tree.now) (jobs.Expression a.node a.scope.now) (One c.in-Some.value) a.heap.now a.heap.now a.left (a.left - 1)
    (omega (arith, c.if-left-eq0.false)) (c.in-Some.ensures (a.left - 1))
