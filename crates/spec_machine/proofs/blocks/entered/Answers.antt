use Rattle.std.proofs.Common.{◌≡◌, refl, sym, ap, ◌∙◌, List, []}
use Rattle.tl_base.specs.declared.ids.EnvId.{EnvId}
use Rattle.tl_base.specs.declared.ids.NodeId.{NodeId}
use Rattle.tl_base.specs.declared.ids.TermId.{TermId}
use Rattle.tl_tree.specs.Arena.{items_of}
use Rattle.tl_tree.specs.Code.{statements_at}
use Rattle.spec_machine.specs.Frames.{block_plan}
use Rattle.spec_machine.specs.Kept.{keeps_then}
use Rattle.spec_machine.proofs.Doing.{moved}
use Rattle.tl_base.proofs.Results.{carried}
use Rattle.spec_machine.proofs.Entering.{entering_goes}
use Rattle.spec_machine.proofs.blocks.entered.Goals as goal

pub returns-clause-means : goal.returns-clause-means
returns-clause-means c =
    let a = c.args in
    let items = items_of a.tree.now in
    let fs = a.frames.now.items in
    let fs2 = c.statements.new.frames.items in
    let w = a.world.now in
    let v = c.new_env.new.world in
    let w2 = c.statements.new.world in
    let left = a.budget.now in
    let left2 = c.statements.new.budget in
    let inner = c.in_ok-inner.inner in
    let ns = statements_at items a.block in
    let found = c.block_statements.result.now in
    let none = c.new-none.result in
    carried _ _ c.statements.result c.statements.ensures.means (λ step g.
    entering_goes items fs fs2 a.owner a.env inner (λ (e : EnvId). block_plan items ns e [] a.then) w v w2 left left2 step
    c.in_ok-inner.ensures.id c.in_ok-inner.ensures.ok
    (moved items fs fs2 (block_plan items ns inner [] a.then) (block_plan items found inner none a.then) v v w2 left left2 step
    (ap (λ (l : List NodeId). block_plan items l inner [] a.then) (sym c.block_statements.ensures)
    ∙ ap (λ (ts : List TermId). block_plan items found inner ts a.then) (sym c.new-none.ensures)) refl g))

pub returns-clause-kept : goal.returns-clause-kept
returns-clause-kept c =
    carried _ _ c.statements.result c.statements.ensures.kept (λ step k.
    keeps_then c.args.world.now c.new_env.new.world c.statements.new.world c.in_ok-inner.ensures.kept k)
