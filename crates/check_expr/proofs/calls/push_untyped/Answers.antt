use Rattle.std.proofs.Common.{◌+◌, List, ◌++◌, drop, refl, ap, ◌∙◌}
use Rattle.tl_base.specs.declared.ids.TermId.{TermId}
use Rattle.check_model.specs.declared.job.Operand.{Operand}
use Rattle.check_model.specs.declared.job.Operand.TheVariants.{Untyped}
use Rattle.check_model.specs.Plans as plans
use Rattle.check_expr.proofs.Lists.{place_more, places_end}
use Rattle.check_expr.proofs.calls.push_untyped.Goals as goal

pub terms-preserved : goal.terms-preserved
terms-preserved c =
    let ts = c.args.terms.now in
    let l = c.terms in
    ap (λ (os : List Operand). os ++ plans.untyped (drop (l.term-index + 1) ts)) c.in_ok-push.ensures.items
    ∙ place_more plans.untyped (λ (t : TermId). Untyped t) (λ t rest. refl) l.operands.items _ ts l.term-index _
    c.terms-test.true l.invariant

pub returns : goal.returns
returns c =
    let ts = c.args.terms.now in
    let l = c.terms in
    places_end plans.untyped refl l.operands.items _ ts l.term-index c.terms-test.false l.invariant
