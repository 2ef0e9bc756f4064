use Rattle.std.proofs.Common.{◌+◌, List, [], drop, refl, sym, ap, ◌∙◌}
use Rattle.std.proofs.lemmas.List.{get_or_read}
use Rattle.tl_base.specs.declared.ids.TermId.{TermId}
use Rattle.lua_value.specs.declared.value.Value.TheVariants as values
use Rattle.spec_model.specs.Plans.{SpecPlan}
use Rattle.spec_model.specs.Statements.{each_item, item_of}
use Rattle.spec_machine.specs.Kept.{keeps_itself, keeps_then}
use Rattle.spec_machine.specs.declared.reached.Reached.TheVariants.{Value as Came, Left}
use Rattle.spec_machine.proofs.Reaching.{passes_then, passes_same, comes_past, came_as}
use Rattle.spec_machine.proofs.Spliced.{items_turn, items_left}
use Rattle.spec_machine.proofs.Splicing.{items_end}
use Rattle.spec_machine.proofs.splices.each_item.Goals as goal

pub values-preserved : goal.values-preserved
values-preserved c =
    let a = c.args in
    let l = c.values in
    let vs = a.values.now in
    let i = l.value-index in
    let value = c.value-item.result in
    let v = c.item.new.world in
    let after = c.item.new.budget in
    let us = c.in-Value.more in
    record {
      passes = passes_then (λ (go : List TermId → SpecPlan). each_item vs a.at a.terms go)
          (λ (go : List TermId → SpecPlan). each_item (drop i vs) a.at l.terms go)
          (λ (go : List TermId → SpecPlan). each_item (drop (i + 1) vs) a.at us go) a.world.now l.world v a.budget.now l.budget after
          l.invariant.passes
          (items_turn vs i values.Nil value a.at l.terms us l.world v l.budget after c.values-test.true
          (sym (get_or_read vs i value c.values-test.true c.value-item.is values.Nil))
          (came_as (λ (go : List TermId → SpecPlan). item_of value a.at l.terms go) c.in_ok-reached.reached (Came us) l.world v l.budget after
          c.in-Value.is c.in_ok-reached.ensures.means));
      kept = keeps_then a.world.now l.world v l.invariant.kept c.in_ok-reached.ensures.kept;
    }

pub returns-in-Left-clause-means : goal.returns-in-Left-clause-means
returns-in-Left-clause-means c =
    let a = c.args in
    let l = c.values in
    let vs = a.values.now in
    let i = l.value-index in
    let value = c.value-item.result in
    let v = c.item.new.world in
    let after = c.item.new.budget in
    let step = c.in-Left.step in
    comes_past (λ (go : List TermId → SpecPlan). each_item vs a.at a.terms go)
    (λ (go : List TermId → SpecPlan). each_item (drop i vs) a.at l.terms go) (Left step) a.world.now l.world v a.budget.now l.budget after
    l.invariant.passes
    (items_left vs i values.Nil value a.at l.terms step l.world v l.budget after c.values-test.true
    (sym (get_or_read vs i value c.values-test.true c.value-item.is values.Nil))
    (came_as (λ (go : List TermId → SpecPlan). item_of value a.at l.terms go) c.in_ok-reached.reached (Left step) l.world v l.budget after
    c.in-Left.is c.in_ok-reached.ensures.means))

pub returns-in-Left-clause-kept : goal.returns-in-Left-clause-kept
returns-in-Left-clause-kept c =
    keeps_then c.args.world.now c.values.world c.item.new.world c.values.invariant.kept c.in_ok-reached.ensures.kept

pub returns-clause-means : goal.returns-clause-means
returns-clause-means c =
    let a = c.args in
    let l = c.values in
    let vs = a.values.now in
    let i = l.value-index in
    passes_then (λ (go : List TermId → SpecPlan). each_item vs a.at a.terms go)
    (λ (go : List TermId → SpecPlan). each_item (drop i vs) a.at l.terms go) (λ (go : List TermId → SpecPlan). go l.terms)
    a.world.now l.world l.world a.budget.now l.budget l.budget l.invariant.passes
    (passes_same (λ (go : List TermId → SpecPlan). each_item (drop i vs) a.at l.terms go) (λ (go : List TermId → SpecPlan). go l.terms)
    l.world l.world l.budget (λ go. items_end vs i a.at l.terms go c.values-test.false) refl)
