use Rattle.std.proofs.Common.{◌≡◌, refl, sym, ap, ◌∙◌, List, Option, Some, None}
use Rattle.tl_base.specs.declared.ids.NodeId.{NodeId}
use Rattle.tl_base.specs.declared.machine.Step.TheVariants.{Stop}
use Rattle.tl_tree.specs.Arena.{items_of}
use Rattle.spec_model.specs.declared.question.SpecQuestion.TheVariants as questions
use Rattle.spec_model.specs.Nodes.{typing_at, escaped_at}
use Rattle.spec_model.specs.Plans.{SpecPlan, eval}
use Rattle.spec_model.specs.Types.{type_if_any}
use Rattle.spec_model.specs.Statements.{wanted_one}
use Rattle.spec_machine.specs.declared.frame.ValueFrame.TheVariants as of_value
use Rattle.spec_machine.specs.Frames.{wanted_from, variable_plan, with_value, with_wanted}
use Rattle.spec_machine.proofs.Doing.{moved}
use Rattle.tl_base.proofs.Results.{carried}
use Rattle.spec_machine.proofs.Pushing.{asks_value}
use Rattle.spec_machine.proofs.variables.variable.Goals as goal

pub returns-in_ok-push-in-Some-clause-means : goal.returns-in_ok-push-in-Some-clause-means
returns-in_ok-push-in-Some-clause-means c = λ left.
    let a = c.args in
    let f = a.frame in
    let items = items_of a.tree.now in
    let code = c.in-Some.code in
    let by : Option NodeId → SpecPlan = λ e.
    wanted_one items (typing_at items a.node) e f.env f.wanted (λ more. wanted_from items f f.rest.now more) in
    let is : escaped_at items (typing_at items a.node).name ≡ Some code =
    ap (λ (n : NodeId). escaped_at items n) (sym c.typing_at.ensures.name) ∙ sym c.escaped.ensures ∙ c.in-Some.is in
    moved items a.frames.now.items c.push.new.self.items (variable_plan items a.node f)
    (eval code f.env (with_value items (of_value.Symbols a.node f))) a.world.now a.world.now a.world.now left left
    (Stop (questions.Eval code f.env)) (ap by is) refl
    (asks_value items a.frames.now.items c.push.new.self.items (of_value.Symbols a.node f) code f.env a.world.now left
    c.in_ok-push-in-Some.ensures.items)

pub returns-in-None-clause-means : goal.returns-in-None-clause-means
returns-in-None-clause-means c =
    let a = c.args in
    let f = a.frame in
    let items = items_of a.tree.now in
    let by : Option NodeId → SpecPlan = λ e.
    wanted_one items (typing_at items a.node) e f.env f.wanted (λ more. wanted_from items f f.rest.now more) in
    let is : escaped_at items (typing_at items a.node).name ≡ None =
    ap (λ (n : NodeId). escaped_at items n) (sym c.typing_at.ensures.name) ∙ sym c.escaped.ensures ∙ c.in-None.is in
    carried _ _ c.variable_type.result c.variable_type.ensures.means (λ step g left.
    moved items a.frames.now.items c.variable_type.new.frames.items (variable_plan items a.node f)
    (type_if_any items (typing_at items a.node).type f.env (λ of. with_wanted items a.node None f of))
    a.world.now a.world.now c.variable_type.new.world left left step (ap by is) refl (g left))
