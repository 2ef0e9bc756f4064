use Rattle.std.proofs.Common.{◌+◌, List, ◌++◌, drop, refl, ap, ◌∙◌}
use Rattle.terra_term.specs.declared.lists.Parameter.{Parameter}
use Rattle.terra_term.specs.declared.lists.TypedName.{TypedName}
use Rattle.check_model.specs.Bodies as models
use Rattle.check_expr.proofs.Lists.{place_more, places_end}
use Rattle.check_expr.proofs.functions.names_of.Goals as goal

pub parameters-preserved : goal.parameters-preserved
parameters-preserved c =
    let ps = c.args.parameters.now in
    let l = c.parameters in
    ap (λ (ns : List TypedName). ns ++ models.names_of (drop (l.parameter-index + 1) ps)) c.in_ok-push.ensures.ok
    ∙ place_more models.names_of (λ (p : Parameter). record { symbol = p.symbol; of = p.of }) (λ p rest. refl)
    l.named
    (models.names_of ps) ps l.parameter-index _ c.parameters-test.true l.invariant

pub returns : goal.returns
returns c =
    let ps = c.args.parameters.now in
    let l = c.parameters in
    places_end models.names_of refl l.named (models.names_of ps) ps l.parameter-index c.parameters-test.false
    l.invariant
