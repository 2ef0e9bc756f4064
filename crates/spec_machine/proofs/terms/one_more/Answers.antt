use Rattle.std.proofs.Common.{◌≡◌, List, [], ◌∷◌, ◌++◌, refl, sym, ap, ◌∙◌}
use Rattle.tl_base.specs.declared.ids.TermId.{TermId}
use Rattle.spec_model.specs.Plans.{SpecPlan, one}
use Rattle.spec_machine.specs.declared.reached.Reached.TheVariants.{Value, Left}
use Rattle.spec_machine.proofs.Reaching.{passes_then, passes_same, comes_on, comes_gone, came_as}
use Rattle.spec_machine.proofs.terms.one_more.Goals as goal

pub returns-in_ok-push-in-Value-clause-means : goal.returns-in_ok-push-in-Value-clause-means
returns-in_ok-push-in-Value-clause-means c =
    let a = c.args in
    let w = c.one.new.world in
    let left = c.one.new.budget in
    let t = c.in-Value.term in
    let first = λ (go : TermId → SpecPlan). one a.value a.at go in
    let behind = λ (u : TermId) (go : List TermId → SpecPlan). go (a.terms ++ u ∷ []) in
    let whole = λ (go : List TermId → SpecPlan). one a.value a.at (λ u. behind u go) in
    let end = λ (go : List TermId → SpecPlan). go c.push.new.self in
    passes_then whole (behind t) end a.world.now w w a.budget.now left left
    (comes_on first behind t a.world.now w a.budget.now left
    (came_as first c.in_ok-term.field-0 (Value t) a.world.now w a.budget.now left c.in-Value.is c.in_ok-term.ensures.means))
    (passes_same (behind t) end w w left (λ go. ap go (sym c.in_ok-push-in-Value.ensures.ok)) refl)

pub returns-in-Left-clause-means : goal.returns-in-Left-clause-means
returns-in-Left-clause-means c =
    let a = c.args in
    let w = c.one.new.world in
    let left = c.one.new.budget in
    let step = c.in-Left.step in
    let first = λ (go : TermId → SpecPlan). one a.value a.at go in
    let behind = λ (u : TermId) (go : List TermId → SpecPlan). go (a.terms ++ u ∷ []) in
    comes_gone first behind step a.world.now w a.budget.now left
    (came_as first c.in_ok-term.field-0 (Left step) a.world.now w a.budget.now left c.in-Left.is c.in_ok-term.ensures.means)
