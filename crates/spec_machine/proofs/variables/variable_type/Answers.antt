use Rattle.std.proofs.Common.{◌≡◌, refl, sym, ap, ◌∙◌, List, Option, Some, None, ◌++◌}
use Rattle.tl_base.specs.declared.ids.NodeId.{NodeId}
use Rattle.tl_base.specs.declared.machine.Step.TheVariants.{Stop, Return}
use Rattle.tl_tree.specs.Arena.{items_of}
use Rattle.lua_value.specs.declared.value.Value.TheVariants.{Nil}
use Rattle.spec_model.specs.declared.end.End.TheVariants.{Gave}
use Rattle.spec_model.specs.declared.question.SpecQuestion.TheVariants as questions
use Rattle.spec_model.specs.Nodes.{typing_at}
use Rattle.spec_model.specs.Plans.{SpecPlan, eval}
use Rattle.spec_model.specs.Types.{type_if_any}
use Rattle.spec_machine.specs.declared.frame.SpecFrame.TheVariants as frames
use Rattle.spec_machine.specs.declared.frame.ValueFrame.TheVariants as of_value
use Rattle.spec_machine.specs.declared.frame.NextFrame.TheVariants as of_next
use Rattle.spec_machine.specs.Frames.{wanted_from, wanted_of, with_value, with_wanted}
use Rattle.spec_machine.proofs.Doing.{moved, bounces}
use Rattle.spec_machine.proofs.Pushing.{asks_value}
use Rattle.spec_machine.proofs.Varying.{wanted_same}
use Rattle.spec_machine.proofs.variables.variable_type.Goals as goal

pub returns-in_ok-push-in-Some-clause-means : goal.returns-in_ok-push-in-Some-clause-means
returns-in_ok-push-in-Some-clause-means c = λ left.
    let a = c.args in
    let f = a.frame in
    let items = items_of a.tree.now in
    let of = c.in-Some.of in
    let value = of_value.VarType a.node of a.symbols f in
    let by : Option NodeId → SpecPlan = λ type. type_if_any items type f.env (λ t. with_wanted items a.node a.symbols f t) in
    moved items a.frames.now.items c.push.new.self.items (by (typing_at items a.node).type) (eval of f.env (with_value items value))
    a.world.now a.world.now a.world.now left left (Stop (questions.Eval of f.env))
    (ap by (sym c.typing_at.ensures.of ∙ c.in-Some.is)) refl
    (asks_value items a.frames.now.items c.push.new.self.items value of f.env a.world.now left c.in_ok-push-in-Some.ensures.items)

pub returns-in_ok-push-in-None-clause-means : goal.returns-in_ok-push-in-None-clause-means
returns-in_ok-push-in-None-clause-means c = λ left.
    let a = c.args in
    let f = a.frame in
    let items = items_of a.tree.now in
    let g = c.in_ok-frame-in-None.frame in
    let e = c.in_ok-frame-in-None.ensures in
    let by : Option NodeId → SpecPlan = λ type. type_if_any items type f.env (λ t. with_wanted items a.node a.symbols f t) in
    moved items a.frames.now.items c.push-in-None.new.self.items (by (typing_at items a.node).type)
    (wanted_from items g g.rest.now g.wanted) a.world.now a.world.now a.world.now left left (Return (Gave Nil))
    (ap by (sym c.typing_at.ensures.of ∙ c.in-None.is)
    ∙ wanted_same items f g (f.wanted ++ wanted_of items a.node a.symbols None) e.rest e.values e.place e.env e.wanted) refl
    (bounces items a.frames.now.items c.push-in-None.new.self.items (frames.Next (of_next.Var g)) (Gave Nil) a.world.now left
    c.in_ok-push-in-None.ensures.items)
