-- What is kept of a type, and of its elements, is read as the view says.
use Rattle.std.proofs.Common.{sym, ◌∙◌, ap}
use Rattle.terra_types.specs.Elements.{spread}
use Rattle.terra_types.specs.Kept.{own_measure, by_elements}
use Rattle.terra_types.specs.Sizes.{for_some}
use Rattle.terra_types.proofs.measuring.measure_kept.Goals as goal

pub returns-in-None : goal.returns-in-None
returns-in-None c =
    ap (λ o. for_some o (λ kept. by_elements c.args.table.now.entries kept kept.elements)) c.in-None.ensures

pub returns-in-None-elements : goal.returns-in-None-elements
returns-in-None-elements c =
    c.own_measure.ensures ∙
    (ap (by_elements c.args.table.now.entries c.in-Some.kept.now) (sym c.in-None-elements.is) ∙
    ap (λ o. for_some o (λ kept. by_elements c.args.table.now.entries kept kept.elements)) c.in-Some.ensures)

pub returns-in-None-kept_of : goal.returns-in-None-kept_of
returns-in-None-kept_of c =
    ap (λ o. for_some (for_some o own_measure) (spread c.in-Some-elements.elements)) c.in-None-kept_of.ensures ∙
    (ap (by_elements c.args.table.now.entries c.in-Some.kept.now) (sym c.in-Some-elements.is) ∙
    ap (λ o. for_some o (λ kept. by_elements c.args.table.now.entries kept kept.elements)) c.in-Some.ensures)

pub returns-in-None-own_measure : goal.returns-in-None-own_measure
returns-in-None-own_measure c =
    ap (λ o. for_some o (spread c.in-Some-elements.elements)) c.in-None-own_measure.ensures ∙
    (ap (λ o. for_some (for_some o own_measure) (spread c.in-Some-elements.elements)) c.in-Some-kept_of.ensures ∙
    (ap (by_elements c.args.table.now.entries c.in-Some.kept.now) (sym c.in-Some-elements.is) ∙
    ap (λ o. for_some o (λ kept. by_elements c.args.table.now.entries kept kept.elements)) c.in-Some.ensures))

pub returns-in-Some-own_measure : goal.returns-in-Some-own_measure
returns-in-Some-own_measure c =
    c.spread_measure.ensures ∙
    (ap (λ o. for_some o (spread c.in-Some-elements.elements)) c.in-Some-own_measure.ensures ∙
    (ap (λ o. for_some (for_some o own_measure) (spread c.in-Some-elements.elements)) c.in-Some-kept_of.ensures ∙
    (ap (by_elements c.args.table.now.entries c.in-Some.kept.now) (sym c.in-Some-elements.is) ∙
    ap (λ o. for_some o (λ kept. by_elements c.args.table.now.entries kept kept.elements)) c.in-Some.ensures)))
