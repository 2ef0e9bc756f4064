use Rattle.std.proofs.Common.{◌≡◌, ℕ, ◌-◌, List, refl, sym, ap, ◌∙◌, Some, None}
use Rattle.tl_base.specs.declared.ids.TextId.{TextId}
use Rattle.tl_base.specs.declared.machine.Step.TheVariants.{Return, Stop}
use Rattle.tl_base.specs.Plan.{AskFor, Read}
use Rattle.tl_tree.specs.Scopes.{binder}
use Rattle.lua_value.specs.declared.value.Value.{Value}
use Rattle.lua_value.specs.declared.value.Value.TheVariants as values
use Rattle.lua_table.specs.Cells.{local_value}
use Rattle.exotype.specs.World.{StageState}
use Rattle.spec_model.specs.declared.end.End.TheVariants as ends
use Rattle.spec_model.specs.declared.question.SpecQuestion.TheVariants as questions
use Rattle.spec_model.specs.Plans as plans
use Rattle.spec_model.specs.Plans.{SpecPlan}
use Rattle.spec_model.specs.Expressions as expressions
use Rattle.spec_machine.specs.Kept.{keeps_itself}
use Rattle.spec_machine.specs.declared.frame.ValueFrame.TheVariants as of_value
use Rattle.spec_machine.proofs.Doing.{returns as returned, moved, gets}
use Rattle.spec_machine.proofs.Placing as placing
use Rattle.spec_machine.proofs.Asking.{asks_value}
use Rattle.lua_model.specs.Fields.{globals}
use Rattle.spec_machine.proofs.expressions.use_of.Goals as goal

pub returns-in-Some : goal.returns-in-Some
returns-in-Some c =
    let a = c.args in
    let fs = a.frames.now.items in
    let w = a.world.now in
    let depth = c.in-Some.depth in
    let position = c.in-Some.position in
    let end = ends.Found c.local-value.result a.place in
    record {
      means = λ items left paths.
          let b = binder items a.node in
          let go : Value → SpecPlan = expressions.found a.place in
          let p : Some (depth, position) ≡ placing.path_of b = c.in-Some.ensures ∙ ap placing.path_of (paths a.node) in
          moved items fs fs (expressions.named_value b a.name.now a.place a.env go) (Read (λ u. go (local_value u.heap a.env depth position))) w w w
          left left (Return end) (placing.local_is b depth position a.name.now a.place a.env go p) refl
          (moved items fs fs (go (local_value w.heap a.env depth position)) (go c.local-value.result) w w w left left (Return end)
          (ap go (sym (c.local-value.ensures ∙ ap (λ (x : StageState). local_value x.heap a.env depth position) c.world.view_is))) refl (returned items fs end w left));
      kept = keeps_itself w;
    }

pub returns-in_ok-push-in-None-clause-means : goal.returns-in_ok-push-in-None-clause-means
returns-in_ok-push-in-None-clause-means c = λ items left paths.
    let a = c.args in
    let fs = a.frames.now.items in
    let pushed = c.push.new.self.items in
    let w = a.world.now in
    let v = c.text.new.world in
    let b = binder items a.node in
    let bytes = c.as_bytes.result.now in
    let go : Value → SpecPlan = expressions.found a.place in
    let ask : TextId → SpecPlan = λ t. AskFor (questions.Index (values.Table globals) t a.place) (λ r. plans.on_value r go) in
    let q = questions.Index (values.Table globals) c.in_ok-text-in-None.text a.place in
    let p : None ≡ placing.path_of b = c.in-None.ensures ∙ ap placing.path_of (paths a.node) in
    moved items fs pushed (expressions.named_value b a.name.now a.place a.env go) (plans.with_text_of bytes ask) w w v left left (Stop q)
    (placing.global_is b a.name.now a.place a.env go p ∙ ap (λ (bs : List ℕ). plans.with_text_of bs ask) (sym c.as_bytes.ensures.value)) refl
    (gets {X = TextId} items fs pushed (λ k. plans.with_text_of bytes k) ask c.in_ok-text-in-None.text w v v left left (Stop q) c.in_ok-text-in-None.ensures.means
    (asks_value items fs pushed (of_value.Found a.place) q v left c.in_ok-push-in-None.ensures.items))
