use Rattle.std.proofs.Common.{arith, ◌∙◌}
use Rattle.tl_base.specs.Plan.{Give}
use Rattle.tl_tree.specs.Arena.{items_of}
use Rattle.lua_table.proofs.Keeping.{keeps_itself}
use Rattle.lua_model.specs.Statements.{otherwise_plan}
use Rattle.lua_eval.specs.AtOnce.{Becomes}
use Rattle.lua_eval.specs.Running.{entered_plan}
use Rattle.lua_table.proofs.Keeping.{heap_keeps_by}
use Rattle.lua_eval.proofs.running.enter_arm.Goals as goal

pub spend-requires : goal.spend-requires
spend-requires c = omega (arith, c.in-Some.ensures.within, c.requires.units)

pub returns-in_ok-entered-in-Some-clause-passes : goal.returns-in_ok-entered-in-Some-clause-passes
returns-in_ok-entered-in-Some-clause-passes c =
    let a = c.args in
    let items = items_of a.tree.now in
    let scope = a.scope.now in
    let opened = c.in-Some.opened in
    let entered = c.in_ok-entered-in-Some.entered in
    let h : Becomes items (otherwise_plan items opened.block scope) a.heap.now opened.left
    (entered_plan entered scope Give) c.enter_block.new.heap c.enter_block.new.budget =
    rw (c.in-Some.ensures.same, c.spend.ensures) at c.in_ok-entered-in-Some.ensures.passes in
    λ later. c.in-Some.ensures.passes later ∙ h later

pub returns-in_ok-entered-in-Some-clause-kept : goal.returns-in_ok-entered-in-Some-clause-kept
returns-in_ok-entered-in-Some-clause-kept c =
    let s = c.args.heap.now in
    heap_keeps_by s c.find_block.new.heap s c.enter_block.new.heap c.in-Some.ensures.same (keeps_itself s) c.in_ok-entered-in-Some.ensures.kept
