use Rattle.std.proofs.Common.{sym, ap, refl, List}
use Rattle.tl_base.specs.declared.ids.NodeId.{NodeId}
use Rattle.tl_base.specs.Plan.{Give}
use Rattle.tl_tree.specs.Arena.{items_of}
use Rattle.lua_model.specs.Plans.{statements}
use Rattle.tl_tree.specs.Code.{statements_at}
use Rattle.lua_eval.proofs.Below.{moved}
use Rattle.tl_base.proofs.Results.{if-ok}
use Rattle.lua_eval.proofs.loops.turn_block.Goals as goal

pub returns-clause-means : goal.returns-clause-means
returns-clause-means c =
    let a = c.args in
    let items = items_of a.tree.now in
    let list = c.block_statements-list.result in
    if-ok c.proceed.result c.proceed.ensures.means (λ v it. moved items a.frames.now.items c.proceed.new.frames.items (statements (statements_at items a.block) a.inner a.out Give)
    (statements list.now a.inner a.out Give) a.heap.now a.heap.now c.proceed.new.heap a.budget.now c.proceed.new.budget
    v
    (ap (λ (ns : List NodeId). statements ns a.inner a.out Give) (sym c.block_statements-list.ensures)) refl
    it)
