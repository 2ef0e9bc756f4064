use Rattle.std.proofs.Common.{◌≡◌, refl, sym, ap, ◌∙◌, List, [], ◌∷◌, ◌++◌}
use Rattle.tl_base.specs.declared.ids.NodeId.{NodeId}
use Rattle.tl_base.specs.declared.ids.TermId.{TermId}
use Rattle.tl_base.specs.declared.place.Place.{Place}
use Rattle.tl_tree.specs.Arena.{items_of}
use Rattle.tl_tree.specs.Code.{arm_condition, arm_block, place_at}
use Rattle.tl_tree.specs.Nodes.{item_at}
use Rattle.terra_term.specs.declared.term.Statement.TheVariants as s
use Rattle.terra_term.specs.declared.term.Term.TheVariants as terms
use Rattle.spec_model.specs.Plans.{SpecPlan, term, node}
use Rattle.spec_model.specs.Statements.{else_of, inner_block}
use Rattle.spec_machine.specs.declared.frame.Arm.{Arm}
use Rattle.spec_machine.specs.Frames as waiting
use Rattle.spec_machine.specs.Frames.{last_arm, behind, joined_one}
use Rattle.spec_machine.proofs.Arms.{closed, behind_more}
use Rattle.spec_machine.proofs.Doing.{moved}
use Rattle.tl_base.proofs.Results.{carried}
use Rattle.spec_machine.proofs.Pushing.{none_is}
use Rattle.spec_machine.proofs.conditions.others.Goals as goal

pub returns-in-None-clause-means : goal.returns-in-None-clause-means
returns-in-None-clause-means c =
    let a = c.args in
    let f = a.frame in
    let items = items_of a.tree.now in
    let done : Arm = record { place = f.place; test = a.test; statements = a.statements } in
    carried _ _ c.else_block.result c.else_block.ensures.means (λ step g left.
    moved items a.frames.now.items c.else_block.new.frames.items (waiting.others items f a.test a.statements)
    (else_of items [] f.otherwise f.env (λ us. last_arm done f.arms us)) a.world.now a.world.now c.else_block.new.world left left step
    (ap (λ (ns : List NodeId). else_of items ns f.otherwise f.env (λ us. last_arm done f.arms us))
    (none_is f.rest.now c.in-None.ensures.cases)) refl (g left))

pub returns-in_ok-push-in-Some-clause-means : goal.returns-in_ok-push-in-Some-clause-means
returns-in_ok-push-in-Some-clause-means c =
    let a = c.args in
    let f = a.frame in
    let items = items_of a.tree.now in
    let w = a.world.now in
    let n = c.in-Some.next.now in
    let rest = c.in-Some.rest in
    let condition = arm_condition (item_at items n) in
    let done : Arm = record { place = f.place; test = a.test; statements = a.statements } in
    let at = c.place.result in
    let more = c.push.new.self in
    -- an arm at a place, with what it is made for
    let by : Place → (TermId → SpecPlan) → SpecPlan = λ p go.
    term condition f.env (λ test. inner_block items (arm_block (item_at items n)) f.env (λ ts.
    else_of items rest.now f.otherwise f.env (λ us. node (terms.Statement p (s.If test ts us)) go))) in
    let at_is : at ≡ place_at items condition =
    c.place.ensures ∙ ap (λ (m : NodeId). place_at items m) c.arm_parts.ensures.condition in
    let more_is : behind more joined_one ≡ closed done (behind f.arms joined_one) =
    ap (λ (before : List Arm). behind before joined_one) c.in_ok-push-in-Some.ensures.ok ∙ behind_more f.arms done joined_one in
    carried _ _ c.arm.result c.arm.ensures.means (λ step g left.
    moved items a.frames.now.items c.arm.new.frames.items (waiting.others items f a.test a.statements) (by at (behind more joined_one))
    w w w left left step
    (ap (λ (ns : List NodeId). else_of items ns f.otherwise f.env (λ us. last_arm done f.arms us)) c.in-Some.ensures.cases.0
    ∙ ap (by (place_at items condition)) (sym more_is)
    ∙ ap (λ (p : Place). by p (behind more joined_one)) (sym at_is)) refl (g w left))
