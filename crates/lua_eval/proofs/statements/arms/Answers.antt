use Rattle.std.proofs.Common.{sym, ap, refl, ◌∙◌, List}
use Rattle.tl_base.specs.declared.ids.NodeId.{NodeId}
use Rattle.tl_base.specs.Plan.{Give}
use Rattle.tl_tree.specs.Arena.{items_of}
use Rattle.tl_tree.specs.Nodes.{item_at}
use Rattle.lua_value.specs.declared.value.Value.{Value}
use Rattle.lua_model.specs.Plans.{LuaPlan, value_of}
use Rattle.lua_model.specs.Statements.{block_plan, arms_plan, otherwise_plan}
use Rattle.tl_tree.specs.Code.{arm_block}
use Rattle.lua_eval.proofs.Below.{moved}
use Rattle.lua_eval.proofs.Doing.{enters}
use Rattle.lua_eval.proofs.Listing.{none_is}
use Rattle.lua_value.specs.Values.{is_true}
use Rattle.std.specs.Prelude.{if◌then◌else◌}
use Rattle.lua_eval.specs.declared.frame.LuaFrame.TheVariants as frames
use Rattle.lua_eval.specs.declared.frame.OneFrame.TheVariants as ones
use Rattle.lua_eval.specs.declared.frame.StatementFrame.TheVariants as of_statement
use Rattle.lua_model.specs.declared.job.Job.TheVariants as jobs
use Rattle.tl_base.specs.declared.machine.Step.TheVariants as steps
use Rattle.lua_eval.proofs.statements.arms.Goals as goal

pub returns-in_ok-push-in-Some-clause-means : goal.returns-in_ok-push-in-Some-clause-means
returns-in_ok-push-in-Some-clause-means c = λ left.
    let a = c.args in
    let items = items_of a.tree.now in
    let first = c.in-Some.first.now in
    let rest = c.in-Some.rest in
    let condition = c.arm.result.0 in
    let node = c.arm.result.1 in
    let frame = frames.One (ones.Statement (of_statement.Arm node rest a.otherwise a.scope)) in
    let go : NodeId → Value → LuaPlan = λ block v.
    if is_true v then block_plan items block a.scope Give else arms_plan items rest.now a.otherwise a.scope in
    moved items a.frames.now.items c.push.new.self.items (arms_plan items a.rest.now a.otherwise a.scope)
    (value_of condition a.scope (go node)) a.heap.now a.heap.now a.heap.now left left (steps.Enter (jobs.Expression condition a.scope))
    (ap (λ (l : List NodeId). arms_plan items l a.otherwise a.scope) c.in-Some.ensures.cases.0
    ∙ ap (λ (n : NodeId). value_of n a.scope (go (arm_block (item_at items first)))) (sym c.arm.ensures.condition)
    ∙ ap (λ (n : NodeId). value_of condition a.scope (go n)) (sym c.arm.ensures.block)) refl
    (enters items a.frames.now.items c.push.new.self.items frame (jobs.Expression condition a.scope) a.heap.now left
    c.in_ok-push-in-Some.ensures.items)

pub returns-in_ok-step-in-None-clause-means : goal.returns-in_ok-step-in-None-clause-means
returns-in_ok-step-in-None-clause-means c = λ left.
    let a = c.args in
    let items = items_of a.tree.now in
    moved items a.frames.now.items c.otherwise_block.new.frames.items (arms_plan items a.rest.now a.otherwise a.scope)
    (otherwise_plan items a.otherwise a.scope) a.heap.now a.heap.now c.otherwise_block.new.heap left left c.in_ok-step-in-None.step
    (ap (λ (l : List NodeId). arms_plan items l a.otherwise a.scope) (none_is a.rest.now c.in-None.ensures.cases)) refl
    (c.in_ok-step-in-None.ensures.means left)
