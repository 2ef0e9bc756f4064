use Rattle.std.proofs.Common.{arith, ◌-◌, [], refl, ap}
use Rattle.tl_base.specs.declared.machine.Step.TheVariants.{Return}
use Rattle.tl_tree.specs.Arena.{items_of}
use Rattle.tl_tree.specs.Item.{Item}
use Rattle.tl_tree.specs.Nodes.{item_at}
use Rattle.lua_value.specs.declared.value.Value.TheVariants as values
use Rattle.lua_model.specs.declared.job.Job.TheVariants as jobs
use Rattle.lua_model.specs.declared.end.End.TheVariants.{One}
use Rattle.lua_model.specs.Expressions.{closing, node_plan}
use Rattle.lua_model.specs.Plans.{give}
use Rattle.lua_eval.specs.AtOnce.{EndsAtOnce}
use Rattle.lua_eval.proofs.AtOnce.{begun}
use Rattle.lua_eval.proofs.Below.{moved}
use Rattle.lua_eval.proofs.Doing.{returns as returned}
use Rattle.lua_eval.proofs.Making.{closing_goes}
use Rattle.lua_eval.proofs.running.function_at_once.Goals as goal

pub returns-in_ok-made-in-Some-clause-found : goal.returns-in_ok-made-in-Some-clause-found
returns-in_ok-made-in-Some-clause-found c =
    let a = c.args in
    let items = items_of a.tree.now in
    let scope = a.scope.now in
    let s = a.heap.now in
    let t = c.new_closure.new.self in
    let left = a.left in
    let function = c.in-Some.function in
    let made = c.in_ok-made-in-Some.made in
    let end = One (values.Closure made) in
    let ends : EndsAtOnce items (jobs.Expression a.node scope) end s left t (left - 1) =
    begun items (jobs.Expression a.node scope) end s t left (left - 1) (omega (arith, c.if-left-eq0.false))
    (moved items [] [] (node_plan items (item_at items a.node) a.node scope) (closing function scope give) s s t
    (left - 1) (left - 1) (Return end) (ap (λ (i : Item). node_plan items i a.node scope) c.in-Some.ensures.1) refl
    (closing_goes items [] [] function scope give s t t (left - 1) (left - 1) (Return end) made
    c.in_ok-made-in-Some.ensures.id c.in_ok-made-in-Some.ensures.ok (returned items [] end t (left - 1)))) in
    λ later. rw c.spend.ensures (ends later)
