use Rattle.std.proofs.Common.{arith, ◌≡◌, ◌-◌, [], refl, rules}
use Rattle.tl_base.specs.declared.machine.Step.TheVariants.{Return}
use Rattle.tl_tree.specs.Arena.{items_of}
use Rattle.tl_tree.specs.Item as kept
use Rattle.tl_tree.specs.Nodes.{item_at}
use Rattle.lua_model.specs.declared.job.Job.TheVariants as jobs
use Rattle.lua_model.specs.declared.end.End.TheVariants.{One}
use Rattle.lua_model.specs.Expressions.{expression_plan}
use Rattle.lua_eval.proofs.AtOnce.{begun, if-some}
use Rattle.lua_eval.proofs.Evaluating.{node_goes}
use Rattle.lua_eval.proofs.quick.OverDepth.find.Goals as goal

pub returns-in-Expression-clause-found : goal.returns-in-Expression-clause-found
returns-in-Expression-clause-found g c =
    let a = c.args in
    let m = c.in-Expression in
    let items = items_of a.tree.now in
    let s = a.heap.now in
    let e : item_at items a.node ≡ kept.Expression m.field-0 m.expression = search rules in
    if-some c.compound.result c.compound.ensures.found (λ found h.
    begun items (jobs.Expression a.node a.scope.now) (One found.value) s s a.left found.left (omega (arith, c.if-left-eq0.false))
    (node_goes items [] [] (kept.Expression m.field-0 m.expression) a.node a.scope.now
    (expression_plan items m.expression a.node m.field-0 a.scope.now) s s s (a.left - 1) found.left (Return (One found.value)) e refl refl
    (h a.node m.field-0)))
