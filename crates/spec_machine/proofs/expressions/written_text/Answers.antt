use Rattle.std.proofs.Common.{ℕ, ◌-◌, List, refl, sym, ap, ◌∙◌}
use Rattle.tl_base.specs.declared.ids.TermId.{TermId}
use Rattle.tl_base.specs.declared.machine.Step.TheVariants.{Return}
use Rattle.tl_base.specs.Plan.{Give}
use Rattle.spec_model.specs.declared.end.End.TheVariants as ends
use Rattle.spec_model.specs.Plans as plans
use Rattle.spec_model.specs.Plans.{SpecPlan}
use Rattle.spec_machine.proofs.Doing.{returns as returned, moved, comes, leaves}
use Rattle.tl_lex.specs.Values.{value_of as literal_value}
use Rattle.spec_machine.proofs.expressions.written_text.Goals as goal

pub returns-in-Value-clause-means : goal.returns-in-Value-clause-means
returns-in-Value-clause-means c = λ items fs.
    let a = c.args in
    let w = a.world.now in
    let v = c.literal.new.world in
    let left2 = c.literal.new.budget in
    let go : TermId → SpecPlan = λ t. Give (ends.Made t) in
    let plan : List ℕ → (TermId → SpecPlan) → SpecPlan = λ bs k. plans.literal bs a.place k in
    let bytes = c.deref.result.now in
    moved items fs fs (plan (literal_value a.written.now) go) (plan bytes go) w w v a.budget.now left2 (Return (ends.Made c.in-Value.term))
    (ap (λ (bs : List ℕ). plan bs go) (sym (c.deref.ensures.value ∙ c.in_ok-bytes.ensures))) refl
    (comes {X = TermId} items fs fs (plan bytes) go c.in_ok-reached.reached c.in-Value.term w v v a.budget.now left2 left2 (Return (ends.Made c.in-Value.term))
    c.in-Value.is c.in_ok-reached.ensures.means (returned items fs (ends.Made c.in-Value.term) v left2))

pub returns-clause-means : goal.returns-clause-means
returns-clause-means c = λ items fs.
    let a = c.args in
    let w = a.world.now in
    let v = c.literal.new.world in
    let left2 = c.literal.new.budget in
    let go : TermId → SpecPlan = λ t. Give (ends.Made t) in
    let plan : List ℕ → (TermId → SpecPlan) → SpecPlan = λ bs k. plans.literal bs a.place k in
    let bytes = c.deref.result.now in
    moved items fs fs (plan (literal_value a.written.now) go) (plan bytes go) w w v a.budget.now left2 c.in-Left.step
    (ap (λ (bs : List ℕ). plan bs go) (sym (c.deref.ensures.value ∙ c.in_ok-bytes.ensures))) refl
    (leaves {X = TermId} items fs (plan bytes) go c.in_ok-reached.reached c.in-Left.step w v a.budget.now left2 c.in-Left.is c.in_ok-reached.ensures.means)
