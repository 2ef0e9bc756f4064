use Rattle.std.proofs.Common.{sym, ap, ◌∙◌, List}
use Rattle.tl_base.specs.declared.ids.NodeId.{NodeId}
use Rattle.tl_base.specs.Layer.{state}
use Rattle.tl_base.specs.Plan.{Give, run}
use Rattle.tl_tree.specs.Arena.{items_of}
use Rattle.lua_table.proofs.Keeping.{keeps_itself}
use Rattle.lua_model.specs.Statements.{arms_plan, block_plan}
use Rattle.lua_eval.specs.AtOnce.{Becomes}
use Rattle.lua_eval.specs.Choices.{choice_plan}
use Rattle.lua_eval.specs.declared.statements.Choice.{Choice}
use Rattle.lua_eval.proofs.AtOnce.{passed}
use Rattle.lua_eval.proofs.Below.{jobs_of, moved}
use Rattle.lua_table.proofs.Keeping.{heap_keeps_by}
use Rattle.tl_base.proofs.Results.{if-ok, on-ok}
use Rattle.lua_eval.proofs.statements.first_arm.Goals as goal

pub returns-in-Block-clause-means : goal.returns-in-Block-clause-means
returns-in-Block-clause-means c =
    let a = c.args in
    let items = items_of a.tree.now in
    let fs = a.frames.now.items in
    let fs2 = c.block.new.frames.items in
    let s = a.heap.now in
    let t = c.choose.new.heap in
    let s2 = c.block.new.heap in
    let mid = c.choose.new.budget in
    let choice = c.choose.result in
    let part : Becomes items (arms_plan items a.list.now a.otherwise a.scope) s a.budget.now
    (choice_plan items choice a.otherwise a.scope) s mid =
    λ later. ap (λ (l : List NodeId). run (jobs_of items) (arms_plan items l a.otherwise a.scope) (state s a.budget.now) later)
    (sym c.as_slice-list.ensures)
    ∙ c.choose.ensures.passes later in
    if-ok c.block.result c.block.ensures.means (λ step it. passed items fs fs2 (arms_plan items a.list.now a.otherwise a.scope) (choice_plan items choice a.otherwise a.scope)
    s s s2 a.budget.now mid mid step part
    (moved items fs fs2 (choice_plan items choice a.otherwise a.scope) (block_plan items c.in-Block.node a.scope Give) s t s2 mid mid step
    (ap (λ (x : Choice). choice_plan items x a.otherwise a.scope) c.in-Block.is) (sym c.choose.ensures.same)
    (it mid)))

pub returns-in-Block-clause-kept : goal.returns-in-Block-clause-kept
returns-in-Block-clause-kept c =
    let s = c.args.heap.now in
    on-ok c.block.result c.block.ensures.kept (λ kept.
    heap_keeps_by s c.choose.new.heap s c.block.new.heap c.choose.ensures.same (keeps_itself s) kept)

pub returns-in-Arms-clause-means : goal.returns-in-Arms-clause-means
returns-in-Arms-clause-means c =
    let a = c.args in
    let items = items_of a.tree.now in
    let fs = a.frames.now.items in
    let fs2 = c.arms.new.frames.items in
    let s = a.heap.now in
    let t = c.choose.new.heap in
    let s2 = c.arms.new.heap in
    let mid = c.choose.new.budget in
    let choice = c.choose.result in
    let part : Becomes items (arms_plan items a.list.now a.otherwise a.scope) s a.budget.now
    (choice_plan items choice a.otherwise a.scope) s mid =
    λ later. ap (λ (l : List NodeId). run (jobs_of items) (arms_plan items l a.otherwise a.scope) (state s a.budget.now) later)
    (sym c.as_slice-list.ensures)
    ∙ c.choose.ensures.passes later in
    if-ok c.arms.result c.arms.ensures.means (λ step it. passed items fs fs2 (arms_plan items a.list.now a.otherwise a.scope) (choice_plan items choice a.otherwise a.scope)
    s s s2 a.budget.now mid mid step part
    (moved items fs fs2 (choice_plan items choice a.otherwise a.scope) (arms_plan items c.in-Arms.rest.now a.otherwise a.scope)
    s t s2 mid mid step
    (ap (λ (x : Choice). choice_plan items x a.otherwise a.scope) c.in-Arms.is) (sym c.choose.ensures.same)
    (it mid)))

pub returns-in-Arms-clause-kept : goal.returns-in-Arms-clause-kept
returns-in-Arms-clause-kept c =
    let s = c.args.heap.now in
    on-ok c.arms.result c.arms.ensures.kept (λ kept.
    heap_keeps_by s c.choose.new.heap s c.arms.new.heap c.choose.ensures.same (keeps_itself s) kept)
