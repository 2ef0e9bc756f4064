use Rattle.std.proofs.Common.{◌≡◌, refl, sym, ap, ◌∙◌, List, [], ◌∷◌, Option, Some, None}
use Rattle.tl_base.specs.declared.ids.EnvId.{EnvId}
use Rattle.tl_base.specs.declared.ids.NodeId.{NodeId}
use Rattle.tl_base.specs.declared.ids.SymId.{SymId}
use Rattle.tl_base.specs.declared.ids.TermId.{TermId}
use Rattle.tl_tree.specs.Arena.{items_of}
use Rattle.tl_tree.specs.Code.{statements_at}
use Rattle.lua_value.specs.declared.value.Value.TheVariants as values
use Rattle.exotype.specs.World.{StageState}
use Rattle.spec_model.specs.Making.{next_symbol, with_symbol}
use Rattle.spec_model.specs.Plans.{SpecPlan, entering, declaring}
use Rattle.spec_model.specs.Statements as plans
use Rattle.spec_machine.specs.declared.frame.BlockThen.{BlockThen}
use Rattle.spec_machine.specs.declared.frame.BlockThen.TheVariants as of_block
use Rattle.spec_machine.specs.Frames.{for_plan_of, block_plan}
use Rattle.spec_machine.specs.Kept.{keeps_then}
use Rattle.spec_machine.proofs.Doing.{moved}
use Rattle.tl_base.proofs.Results.{carried}
use Rattle.spec_machine.proofs.Entering.{entering_goes, declaring_goes}
use Rattle.spec_machine.proofs.loops.for_body.Goals as goal

pub returns-in-Some-clause-means : goal.returns-in-Some-clause-means
returns-in-Some-clause-means c =
    let a = c.args in
    let f = a.frame in
    let items = items_of a.tree.now in
    let w = a.world.now in
    carried _ _ c.entered.result c.entered.ensures.means (λ step g.
    moved items a.frames.now.items c.entered.new.frames.items (for_plan_of items f f.symbol a.bounds)
    (for_plan_of items f (Some c.in-Some.symbol) a.bounds) w w c.entered.new.world a.budget.now c.entered.new.budget step
    (ap (λ (o : Option SymId). for_plan_of items f o a.bounds) c.in-Some.is) refl g)

pub returns-in_ok-declare-in-None-clause-means : goal.returns-in_ok-declare-in-None-clause-means
returns-in_ok-declare-in-None-clause-means c =
    let a = c.args in
    let f = a.frame in
    let items = items_of a.tree.now in
    let fs = a.frames.now.items in
    let fs2 = c.statements.new.frames.items in
    let w = a.world.now in
    let w1 = c.new_symbol.new.world in
    let w2 = c.new_env.new.world in
    let w3 = c.declare.new.world in
    let w4 = c.statements.new.world in
    let left = a.budget.now in
    let left2 = c.statements.new.budget in
    let x = c.in_ok-symbol-in-None.symbol in
    let inner = c.in_ok-inner-in-None.inner in
    let none = c.new-none.result in
    let nodes = c.block_statements-nodes.result.now in
    let then = of_block.For x f.at a.bounds f.place in
    let by : SymId → SpecPlan = λ y. entering f.node f.env (λ (e : EnvId).
    declaring e (values.Symbol y) (plans.for_body items f.node f.block y f.at a.bounds f.place e)) in
    carried _ _ c.statements.result c.statements.ensures.means (λ step g.
    moved items fs fs2 (for_plan_of items f f.symbol a.bounds) (for_plan_of items f None a.bounds) w w w4 left left2 step
    (ap (λ (o : Option SymId). for_plan_of items f o a.bounds) c.in-None.is) refl
    (moved items fs fs2 (by (next_symbol w)) (by x) (with_symbol w None) w1 w4 left left2 step
    (ap by (sym c.in_ok-symbol-in-None.ensures.id)) (sym c.in_ok-symbol-in-None.ensures.ok)
    (entering_goes items fs fs2 f.node f.env inner
    (λ (e : EnvId). declaring e (values.Symbol x) (plans.for_body items f.node f.block x f.at a.bounds f.place e))
    w1 w2 w4 left left2 step c.in_ok-inner-in-None.ensures.id c.in_ok-inner-in-None.ensures.ok
    (declaring_goes items fs fs2 inner (values.Symbol x) (plans.for_body items f.node f.block x f.at a.bounds f.place inner)
    w2 w3 w4 left left2 step c.in_ok-declare-in-None.ensures.ok
    (moved items fs fs2 (block_plan items (statements_at items f.block) inner [] then) (block_plan items nodes inner none then)
    w3 w3 w4 left left2 step
    (ap (λ (l : List NodeId). block_plan items l inner [] then) (sym c.block_statements-nodes.ensures)
    ∙ ap (λ (ts : List TermId). block_plan items nodes inner ts then) (sym c.new-none.ensures)) refl g)))))

pub returns-in_ok-declare-in-None-clause-kept : goal.returns-in_ok-declare-in-None-clause-kept
returns-in_ok-declare-in-None-clause-kept c =
    let w = c.args.world.now in
    let w1 = c.new_symbol.new.world in
    let w2 = c.new_env.new.world in
    let w3 = c.declare.new.world in
    let w4 = c.statements.new.world in
    carried _ _ c.statements.result c.statements.ensures.kept (λ step k.
    keeps_then w w1 w4 c.in_ok-symbol-in-None.ensures.kept
    (keeps_then w1 w2 w4 c.in_ok-inner-in-None.ensures.kept (keeps_then w2 w3 w4 c.in_ok-declare-in-None.ensures.kept k)))
