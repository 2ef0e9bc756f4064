use Rattle.std.proofs.Common.{ℕ, ◌-◌, List, refl, sym, ap, ◌∙◌}
use Rattle.tl_base.specs.declared.ids.TextId.{TextId}
use Rattle.tl_base.specs.declared.place.Place.{Place}
use Rattle.tl_base.specs.declared.machine.Step.TheVariants.{Stop}
use Rattle.tl_base.specs.Plan.{AskFor}
use Rattle.tl_tree.specs.Arena.{items_of}
use Rattle.tl_tree.specs.Code.{name_at, place_at}
use Rattle.spec_model.specs.declared.question.SpecQuestion.TheVariants as questions
use Rattle.spec_model.specs.Plans as plans
use Rattle.spec_model.specs.Plans.{SpecPlan}
use Rattle.spec_machine.specs.declared.frame.ValueFrame.TheVariants as of_value
use Rattle.spec_machine.specs.Frames as waiting
use Rattle.spec_machine.proofs.Doing.{moved, gets}
use Rattle.spec_machine.proofs.Asking.{asks_value}
use Rattle.spec_machine.proofs.paths.next_object.Goals as goal

pub returns-clause-means : goal.returns-clause-means
returns-clause-means c = λ left.
    let a = c.args in
    let f = a.frame in
    let items = items_of a.tree.now in
    let fs = a.frames.now.items in
    let pushed = c.push.new.self.items in
    let bytes = c.as_bytes.result.now in
    let text = c.in_ok-text.text in
    let v = c.text.new.world in
    let here = c.place.result in
    let at = place_at items a.node in
    let ask : Place → TextId → SpecPlan = λ p t. AskFor (questions.Index a.object t p)
    (λ r. plans.on_value r (waiting.with_value items (of_value.Path f))) in
    let q = questions.Index a.object text here in
    moved items fs pushed (plans.with_text_of (name_at items a.node) (ask at)) (plans.with_text_of bytes (ask here))
    a.world.now a.world.now v left left
    (Stop q)
    (ap (λ (bs : List ℕ). plans.with_text_of bs (ask at)) (sym (c.as_bytes.ensures.value ∙ c.name.ensures))
    ∙ ap (λ (p : Place). plans.with_text_of bytes (ask p)) (sym c.place.ensures)) refl
    (gets {X = TextId} items fs pushed (λ k. plans.with_text_of bytes k) (ask here) text a.world.now v v left left
    (Stop q)
    c.in_ok-text.ensures.means (asks_value items fs pushed (of_value.Path f) q v left c.in_ok-push.ensures.items))
