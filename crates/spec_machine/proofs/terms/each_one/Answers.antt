use Rattle.std.proofs.Common.{◌≡◌, ◌+◌, List, [], ◌∷◌, ◌++◌, drop, refl, sym, ap, ◌∙◌}
use Rattle.std.proofs.lemmas.List.{get_or_read}
use Rattle.tl_base.specs.declared.ids.TermId.{TermId}
use Rattle.lua_value.specs.declared.value.Value.TheVariants.{Nil}
use Rattle.spec_model.specs.Plans.{SpecPlan, one, each_one}
use Rattle.spec_machine.specs.declared.reached.Reached.TheVariants.{Value, Left}
use Rattle.spec_machine.specs.Kept.{keeps_then}
use Rattle.spec_machine.proofs.Looping.{each_next, each_end}
use Rattle.spec_machine.proofs.Reaching.{passes_then, passes_same, comes_past, comes_on, comes_gone, came_as}
use Rattle.spec_machine.proofs.terms.each_one.Goals as goal

pub returns-in-Left-clause-means : goal.returns-in-Left-clause-means
returns-in-Left-clause-means c =
    let a = c.args in
    let l = c.values in
    let vs = a.values.now in
    let i = l.value-index in
    let v = c.value-item.result in
    let w = c.one.new.world in
    let left = c.one.new.budget in
    let step = c.in-Left.step in
    let whole = λ (go : List TermId → SpecPlan). each_one vs a.at a.terms go in
    let rest = λ (go : List TermId → SpecPlan). each_one (drop i vs) a.at l.terms go in
    let first = λ (go : TermId → SpecPlan). one v a.at go in
    let behind = λ (t : TermId) (go : List TermId → SpecPlan). each_one (drop (i + 1) vs) a.at (l.terms ++ t ∷ []) go in
    let next = λ (go : List TermId → SpecPlan). one v a.at (λ t. behind t go) in
    let is = sym (get_or_read vs i v c.values-test.true c.value-item.is Nil) in
    comes_past whole rest (Left step) a.world.now l.world w a.budget.now l.budget left l.invariant.passes
    (comes_past rest next (Left step) l.world l.world w l.budget l.budget left
    (passes_same rest next l.world l.world l.budget (λ go. each_next vs i v a.at l.terms go c.values-test.true is) refl)
    (comes_gone first behind step l.world w l.budget left
    (came_as first c.in_ok-term.field-0 (Left step) l.world w l.budget left c.in-Left.is c.in_ok-term.ensures.means)))

pub values-preserved : goal.values-preserved
values-preserved c =
    let a = c.args in
    let l = c.values in
    let vs = a.values.now in
    let i = l.value-index in
    let v = c.value-item.result in
    let w = c.one.new.world in
    let left = c.one.new.budget in
    let t = c.in-Value.term in
    let whole = λ (go : List TermId → SpecPlan). each_one vs a.at a.terms go in
    let rest = λ (go : List TermId → SpecPlan). each_one (drop i vs) a.at l.terms go in
    let first = λ (go : TermId → SpecPlan). one v a.at go in
    let behind = λ (u : TermId) (go : List TermId → SpecPlan). each_one (drop (i + 1) vs) a.at (l.terms ++ u ∷ []) go in
    let next = λ (go : List TermId → SpecPlan). one v a.at (λ u. behind u go) in
    let after = λ (go : List TermId → SpecPlan). each_one (drop (i + 1) vs) a.at c.push.new.self go in
    let is = sym (get_or_read vs i v c.values-test.true c.value-item.is Nil) in
    record {
      passes =
          passes_then whole rest after a.world.now l.world w a.budget.now l.budget left l.invariant.passes
          (passes_then rest next after l.world l.world w l.budget l.budget left
          (passes_same rest next l.world l.world l.budget (λ go. each_next vs i v a.at l.terms go c.values-test.true is) refl)
          (passes_then next (behind t) after l.world w w l.budget left left
          (comes_on first behind t l.world w l.budget left
          (came_as first c.in_ok-term.field-0 (Value t) l.world w l.budget left c.in-Value.is c.in_ok-term.ensures.means))
          (passes_same (behind t) after w w left
          (λ go. ap (λ (ts : List TermId). each_one (drop (i + 1) vs) a.at ts go) (sym c.in_ok-push-in-Value.ensures.ok)) refl)));
      kept = keeps_then a.world.now l.world w l.invariant.kept c.in_ok-term.ensures.kept;
    }

pub returns-clause-means : goal.returns-clause-means
returns-clause-means c =
    let a = c.args in
    let l = c.values in
    let vs = a.values.now in
    let i = l.value-index in
    let whole = λ (go : List TermId → SpecPlan). each_one vs a.at a.terms go in
    let rest = λ (go : List TermId → SpecPlan). each_one (drop i vs) a.at l.terms go in
    let end = λ (go : List TermId → SpecPlan). go l.terms in
    passes_then whole rest end a.world.now l.world l.world a.budget.now l.budget l.budget l.invariant.passes
    (passes_same rest end l.world l.world l.budget (λ go. each_end vs i a.at l.terms go c.values-test.false) refl)

pub returns-in-Left-clause-kept : goal.returns-in-Left-clause-kept
returns-in-Left-clause-kept c = keeps_then c.args.world.now c.values.world c.one.new.world c.values.invariant.kept c.in_ok-term.ensures.kept
