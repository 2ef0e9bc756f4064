use Rattle.std.proofs.Common.{◌+◌, List, ◌++◌, drop, refl, ap, ◌∙◌}
use Rattle.tl_base.specs.declared.ids.TypeId.{TypeId}
use Rattle.terra_term.specs.declared.lists.Parameter.{Parameter}
use Rattle.check_model.specs.Calls as models
use Rattle.check_expr.proofs.Lists.{place_more, places_end}
use Rattle.check_expr.proofs.known.types_of.Goals as goal

pub parameters-preserved : goal.parameters-preserved
parameters-preserved c =
    let ps = c.args.parameters.now in
    let l = c.parameters in
    ap (λ (ts : List TypeId). ts ++ models.types_of (drop (l.parameter-index + 1) ps)) c.in_ok-push.ensures.ok
    ∙ place_more models.types_of (λ (p : Parameter). p.of) (λ p rest. refl) l.types (models.types_of ps) ps
    l.parameter-index _
    c.parameters-test.true l.invariant

pub returns : goal.returns
returns c =
    let ps = c.args.parameters.now in
    let l = c.parameters in
    c.from_list.ensures
    ∙ places_end models.types_of refl l.types (models.types_of ps) ps l.parameter-index c.parameters-test.false
    l.invariant
