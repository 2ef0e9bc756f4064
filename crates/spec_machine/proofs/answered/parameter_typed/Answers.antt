use Rattle.std.proofs.Common.{◌+◌, ◌-◌, true, [], ◌∷◌, ◌++◌, refl, sym, ap, ◌∙◌}
use Rattle.tl_base.specs.declared.ids.NodeId.{NodeId}
use Rattle.tl_base.specs.declared.ids.TypeId.{TypeId}
use Rattle.tl_base.specs.declared.place.Place.{Place}
use Rattle.tl_tree.specs.Arena.{items_of}
use Rattle.tl_tree.specs.Code.{place_at}
use Rattle.spec_model.specs.Nodes.{typing_at}
use Rattle.spec_model.specs.Plans.{SpecPlan}
use Rattle.spec_model.specs.Types as types
use Rattle.spec_model.specs.Definitions as definitions
use Rattle.spec_machine.specs.Kept.{keeps_then}
use Rattle.spec_machine.specs.Frames as waiting
use Rattle.spec_machine.proofs.Doing.{moved, comes, leaves}
use Rattle.spec_machine.proofs.Made.{named}
use Rattle.tl_base.proofs.Results.{carried, on-ok}
use Rattle.spec_machine.proofs.answered.parameter_typed.Goals as goal

pub returns-in-Value-clause-means : goal.returns-in-Value-clause-means
returns-in-Value-clause-means c = carried _ _ c.with_parameter.result c.with_parameter.ensures.means (λ step g.
    let a = c.args in
    let items = items_of a.tree.now in
    let fs = a.frames.now.items in
    let w = a.world.now in
    let go : Place → TypeId → SpecPlan = λ p. λ of. definitions.draw of (λ x. waiting.parameters_from items a.frame.definition a.frame.rest.now (a.frame.drawn ++ record { symbol = x; of = of; place = place_at items (typing_at items a.node).name; named = true } ∷ [])) in
    let plan : Place → (TypeId → SpecPlan) → SpecPlan = λ p k. types.as_type a.value p k in
    let fs2 = c.with_parameter.new.frames.items in
    let w2 = c.with_parameter.new.world in
    let left2 = c.with_parameter.new.budget in
    moved items fs fs2 (plan (place_at items a.of) (go (place_at items a.of))) (plan (c.place.result) (go (c.place.result))) w w w2 a.budget.now left2 step
    (ap (λ (p : Place). plan p (go p)) (sym c.place.ensures)) refl
    (comes {X = TypeId} items fs fs2 (plan (c.place.result)) (go (c.place.result)) c.in_ok-reached.reached c.in-Value.of
    w c.as_type.new.world w2 a.budget.now c.as_type.new.budget left2 step c.in-Value.is c.in_ok-reached.ensures.means
    (let u = c.as_type.new.world in
    let left = c.as_type.new.budget in
    let of = c.in-Value.of in
    let drawing : Place → SpecPlan = λ at. definitions.draw of (λ x. waiting.parameters_from items a.frame.definition a.frame.rest.now
    (a.frame.drawn ++ record { symbol = x; of = of; place = at; named = true } ∷ [])) in
    moved items fs fs2 (drawing (place_at items (typing_at items a.node).name)) (drawing c.place-at.result) u u w2 left left2 step
    (ap (λ (n : NodeId). drawing (place_at items n)) (sym c.typing_at.ensures.name) ∙ ap drawing (sym c.place-at.ensures)) refl
    g)))

pub returns-in-Left-clause-means : goal.returns-in-Left-clause-means
returns-in-Left-clause-means c =
    let a = c.args in
    let items = items_of a.tree.now in
    let fs = a.frames.now.items in
    let w = a.world.now in
    let go : Place → TypeId → SpecPlan = λ p. λ of. definitions.draw of (λ x. waiting.parameters_from items a.frame.definition a.frame.rest.now (a.frame.drawn ++ record { symbol = x; of = of; place = place_at items (typing_at items a.node).name; named = true } ∷ [])) in
    let plan : Place → (TypeId → SpecPlan) → SpecPlan = λ p k. types.as_type a.value p k in
    moved items fs fs (plan (place_at items a.of) (go (place_at items a.of))) (plan (c.place.result) (go (c.place.result))) w w c.as_type.new.world a.budget.now c.as_type.new.budget c.in-Left.step
    (ap (λ (p : Place). plan p (go p)) (sym c.place.ensures)) refl
    (leaves {X = TypeId} items fs (plan (c.place.result)) (go (c.place.result)) c.in_ok-reached.reached c.in-Left.step
    w c.as_type.new.world a.budget.now c.as_type.new.budget c.in-Left.is c.in_ok-reached.ensures.means)

pub returns-in-Value-clause-kept : goal.returns-in-Value-clause-kept
returns-in-Value-clause-kept c = on-ok c.with_parameter.result c.with_parameter.ensures.kept (λ g.
    keeps_then c.args.world.now c.as_type.new.world c.with_parameter.new.world c.in_ok-reached.ensures.kept g)
