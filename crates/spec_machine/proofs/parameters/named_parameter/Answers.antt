use Rattle.std.proofs.Common.{◌-◌, refl, ap, ◌∙◌, Option, Some, None}
use Rattle.tl_base.specs.declared.ids.NodeId.{NodeId}
use Rattle.tl_base.specs.declared.machine.Step.TheVariants.{Return, Stop}
use Rattle.lua_value.specs.declared.value.Value.TheVariants as values
use Rattle.spec_model.specs.declared.end.End.TheVariants as ends
use Rattle.spec_model.specs.declared.question.SpecQuestion.TheVariants as questions
use Rattle.spec_model.specs.Nodes.{typing_at}
use Rattle.spec_model.specs.Plans.{SpecPlan}
use Rattle.spec_model.specs.Definitions as definitions
use Rattle.spec_machine.specs.declared.frame.SpecFrame.TheVariants as frames
use Rattle.spec_machine.specs.declared.frame.ValueFrame.TheVariants as of_value
use Rattle.spec_machine.specs.declared.frame.NextFrame.TheVariants as of_next
use Rattle.spec_machine.specs.Frames as waiting
use Rattle.spec_machine.proofs.Doing.{bounces, moved}
use Rattle.spec_machine.proofs.Asking.{asks_value}
use Rattle.spec_machine.proofs.parameters.named_parameter.Goals as goal

pub returns-in_ok-push-in-Some : goal.returns-in_ok-push-in-Some
returns-in_ok-push-in-Some c =
    let a = c.args in
    let f = a.frame in
    let of = c.in-Some.of in
    record {
      means = λ items w left is.
          let p : Option NodeId → SpecPlan = λ o. definitions.named_parameter items (typing_at items a.node) o f.definition.env f.drawn
          (λ more. waiting.parameters_from items f.definition f.rest.now more) in
          moved items a.frames.now.items c.push.new.self.items (p (typing_at items a.node).type) (p (Some of)) w w w left left
          (Stop (questions.Eval of f.definition.env)) (ap p (is ∙ c.in-Some.is)) refl
          (asks_value items a.frames.now.items c.push.new.self.items (of_value.ParameterType a.node of f) (questions.Eval of f.definition.env) w left
          c.in_ok-push-in-Some.ensures.items);
    }

pub returns-in_ok-push-in-None : goal.returns-in_ok-push-in-None
returns-in_ok-push-in-None c =
    let a = c.args in
    let f = a.frame in
    record {
      means = λ items w left is.
          let p : Option NodeId → SpecPlan = λ o. definitions.named_parameter items (typing_at items a.node) o f.definition.env f.drawn
          (λ more. waiting.parameters_from items f.definition f.rest.now more) in
          let end = ends.Gave values.Nil in
          moved items a.frames.now.items c.push-in-None.new.self.items (p (typing_at items a.node).type) (p None) w w w left left
          (Return end) (ap p (is ∙ c.in-None.is)) refl
          (bounces items a.frames.now.items c.push-in-None.new.self.items (frames.Next (of_next.Parameters f)) end w left
          c.in_ok-push-in-None.ensures.items);
    }
