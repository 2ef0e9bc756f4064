use Rattle.std.proofs.Common.{◌+◌, List, ◌++◌, drop, refl, ap, ◌∙◌}
use Rattle.tl_base.specs.declared.ids.TermId.{TermId}
use Rattle.check_model.specs.declared.made.Made.{Made}
use Rattle.check_model.specs.Plans as plans
use Rattle.tl_base.proofs.Results.{carried}
use Rattle.check_expr.proofs.Lists.{place_more, places_end}
use Rattle.check_expr.proofs.assigning.ids_of.Goals as goal

pub made-preserved : goal.made-preserved
made-preserved c =
    let ms = c.args.made.now in
    let l = c.made in
    ap (λ (ts : List TermId). ts ++ plans.ids_of (drop (l.one-index + 1) ms)) c.in_ok-push.ensures.ok
    ∙ place_more plans.ids_of (λ (m : Made). m.id) (λ m rest. refl) l.ids (plans.ids_of ms) ms l.one-index _ c.made-test.true l.invariant

pub returns : goal.returns
returns c =
    let ms = c.args.made.now in
    let l = c.made in
    carried _ _ c.from_list.result c.from_list.ensures (λ list is. is
    ∙ places_end plans.ids_of refl l.ids (plans.ids_of ms) ms l.one-index c.made-test.false l.invariant)
