use Rattle.std.proofs.Common.{true, false, sym, ◌∙◌}
use Rattle.tl_base.specs.Plan.{Give}
use Rattle.tl_tree.specs.Arena.{items_of}
use Rattle.lua_value.specs.Values.{is_true}
use Rattle.lua_model.specs.Statements.{block_plan, arms_plan}
use Rattle.lua_eval.proofs.Below.{chosen}
use Rattle.lua_eval.proofs.statements.with_statement.Goals as goal

pub returns-in_ok-step-in-Arm-clause-means : goal.returns-in_ok-step-in-Arm-clause-means
returns-in_ok-step-in-Arm-clause-means c = λ left.
    let a = c.args in
    let m = c.in-Arm in
    let items = items_of a.tree.now in
    rw m.is (chosen items a.frames.now.items c.block.new.frames.items (is_true a.value) true
    (block_plan items m.node m.scope Give) (arms_plan items m.rest.now m.otherwise m.scope)
    a.heap.now c.block.new.heap left left c.in_ok-step-in-Arm.step
    (sym c.is_true.ensures ∙ c.if-is_true.true) (c.in_ok-step-in-Arm.ensures.means left))

pub returns-in_ok-step-in-Arm-2-clause-means : goal.returns-in_ok-step-in-Arm-2-clause-means
returns-in_ok-step-in-Arm-2-clause-means c = λ left.
    let a = c.args in
    let m = c.in-Arm in
    let items = items_of a.tree.now in
    rw m.is (chosen items a.frames.now.items c.arms.new.frames.items (is_true a.value) false
    (block_plan items m.node m.scope Give) (arms_plan items m.rest.now m.otherwise m.scope)
    a.heap.now c.arms.new.heap left left c.in_ok-step-in-Arm-2.step
    (sym c.is_true.ensures ∙ c.if-is_true.false) (c.in_ok-step-in-Arm-2.ensures.means left))
