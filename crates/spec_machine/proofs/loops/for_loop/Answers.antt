use Rattle.std.proofs.Common.{◌≡◌, refl, sym, ap, ◌∙◌, List, [], ◌∷◌, Option, Some, None}
use Rattle.tl_base.specs.declared.ids.NodeId.{NodeId}
use Rattle.tl_base.specs.declared.place.Place.{Place}
use Rattle.tl_base.specs.declared.machine.Step.TheVariants.{Stop}
use Rattle.tl_tree.specs.Arena.{items_of}
use Rattle.tl_tree.specs.Code.{if_any, place_at}
use Rattle.spec_model.specs.declared.question.SpecQuestion.TheVariants as questions
use Rattle.spec_model.specs.Nodes.{escaped_at}
use Rattle.spec_model.specs.Plans.{SpecPlan, eval}
use Rattle.spec_model.specs.Statements.{for_plan}
use Rattle.spec_machine.specs.declared.frame.ForFrame.{ForFrame}
use Rattle.spec_machine.specs.declared.frame.ValueFrame.TheVariants as of_value
use Rattle.spec_machine.specs.Frames.{bounds_from, with_value}
use Rattle.spec_machine.proofs.Doing.{moved}
use Rattle.tl_base.proofs.Results.{carried}
use Rattle.spec_machine.proofs.Pushing.{asks_value}
use Rattle.spec_machine.proofs.loops.for_loop.Goals as goal

pub returns-in_ok-push-in-Some : goal.returns-in_ok-push-in-Some
returns-in_ok-push-in-Some c = record {
  means = λ left.
      let a = c.args in
      let items = items_of a.tree.now in
      let w = a.world.now in
      let code = c.in-Some.code in
      let f : ForFrame = record { node = a.node; symbol = None; at = c.place.result; block = a.block; place = a.at; env = a.env } in
      let value = of_value.ForName a.first a.limit a.step f in
      let by : Option NodeId → Place → SpecPlan = λ e p. for_plan items a.node e p (a.first ∷ a.limit ∷ if_any a.step) a.block a.at a.env in
      moved items a.frames.now.items c.push.new.self.items (by (escaped_at items a.name) (place_at items a.name))
      (eval code a.env (with_value items value)) w w w left left (Stop (questions.Eval code a.env))
      (ap (λ (e : Option NodeId). by e (place_at items a.name)) (sym c.escaped.ensures ∙ c.in-Some.is)
      ∙ ap (by (Some code)) (sym c.place.ensures)) refl
      (asks_value items a.frames.now.items c.push.new.self.items value code a.env w left c.in_ok-push-in-Some.ensures.items);
}

pub returns-in-None : goal.returns-in-None
returns-in-None c =
    record {
      means =
          let a = c.args in
          let items = items_of a.tree.now in
          let w = a.world.now in
          let f : ForFrame = record { node = a.node; symbol = None; at = c.place.result; block = a.block; place = a.at; env = a.env } in
          let by : Option NodeId → Place → SpecPlan = λ e p. for_plan items a.node e p (a.first ∷ a.limit ∷ if_any a.step) a.block a.at a.env in
          carried _ _ c.bounds.result c.bounds.ensures.means (λ step g left.
          moved items a.frames.now.items c.bounds.new.frames.items (by (escaped_at items a.name) (place_at items a.name))
          (bounds_from items f (a.first ∷ a.limit ∷ if_any a.step) []) w w w left left step
          (ap (λ (e : Option NodeId). by e (place_at items a.name)) (sym c.escaped.ensures ∙ c.in-None.is)
          ∙ ap (by None) (sym c.place.ensures)) refl (g items w left));
    }
