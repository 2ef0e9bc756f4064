use Rattle.std.proofs.Common.{◌+◌, ◌-◌, refl, ap, ◌∙◌, Option, Some, None}
use Rattle.tl_base.specs.declared.ids.NodeId.{NodeId}
use Rattle.tl_base.specs.declared.machine.Step.TheVariants.{Return, Stop}
use Rattle.tl_base.specs.Plan.{Read}
use Rattle.tl_tree.specs.Code.{name_at}
use Rattle.lua_value.specs.declared.value.Value.TheVariants as values
use Rattle.exotype.specs.Types.{tables_of}
use Rattle.spec_model.specs.declared.end.End.TheVariants as ends
use Rattle.spec_model.specs.declared.question.SpecQuestion.TheVariants as questions
use Rattle.spec_model.specs.Nodes.{typing_at}
use Rattle.spec_model.specs.Plans.{SpecPlan}
use Rattle.spec_model.specs.Types as types
use Rattle.spec_model.specs.Structs as structs
use Rattle.spec_machine.specs.declared.frame.SpecFrame.TheVariants as frames
use Rattle.spec_machine.specs.declared.frame.ValueFrame.TheVariants as of_value
use Rattle.spec_machine.specs.declared.frame.NextFrame.TheVariants as of_next
use Rattle.spec_machine.specs.Frames as waiting
use Rattle.spec_machine.proofs.Doing.{bounces, moved}
use Rattle.spec_machine.proofs.Asking.{asks_value}
use Rattle.spec_machine.proofs.Entries.{next_is}
use Rattle.spec_machine.proofs.structs.entry_type.Goals as goal

pub returns-in_ok-push-in-Some : goal.returns-in_ok-push-in-Some
returns-in_ok-push-in-Some c =
    let a = c.args in
    let f = a.frame in
    let of = c.in-Some.of in
    record {
      means = λ items w left is.
          let plan : Option NodeId → SpecPlan = λ o. types.type_if_any items o f.env (λ t. Read (λ u.
          structs.entry_if_any (tables_of u f.of).entries f.number (name_at items (typing_at items a.node).name) t
          (waiting.entries_from items f f.rest.now (f.number + 1)))) in
          moved items a.frames.now.items c.push.new.self.items (plan (typing_at items a.node).type) (plan (Some of)) w w w left left
          (Stop (questions.Eval of f.env)) (ap plan (is ∙ c.in-Some.is)) refl
          (asks_value items a.frames.now.items c.push.new.self.items (of_value.EntryType a.node of f) (questions.Eval of f.env) w left
          c.in_ok-push-in-Some.ensures.items);
    }

pub returns-in_ok-push-in-None : goal.returns-in_ok-push-in-None
returns-in_ok-push-in-None c =
    let a = c.args in
    let f = a.frame in
    let next = c.in_ok-next-in-None.next in
    record {
      means = λ items w left is.
          let plan : Option NodeId → SpecPlan = λ o. types.type_if_any items o f.env (λ t. Read (λ u.
          structs.entry_if_any (tables_of u f.of).entries f.number (name_at items (typing_at items a.node).name) t
          (waiting.entries_from items f f.rest.now (f.number + 1)))) in
          let end = ends.Gave values.Nil in
          moved items a.frames.now.items c.push-in-None.new.self.items (plan (typing_at items a.node).type) (plan None) w w w left left
          (Return end) (ap plan (is ∙ c.in-None.is)) refl
          (moved items a.frames.now.items c.push-in-None.new.self.items (waiting.entries_from items f f.rest.now (f.number + 1))
          (waiting.entries_from items next next.rest.now next.number) w w w left left (Return end)
          (next_is items f next c.in_ok-next-in-None.ensures.rest c.in_ok-next-in-None.ensures.of c.in_ok-next-in-None.ensures.number c.in_ok-next-in-None.ensures.env c.in_ok-next-in-None.ensures.anonymous) refl
          (bounces items a.frames.now.items c.push-in-None.new.self.items (frames.Next (of_next.Entries next)) end w left
          c.in_ok-push-in-None.ensures.items));
    }
