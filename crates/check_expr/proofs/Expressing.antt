-- What an expression means, by the term that it is.
use Rattle.std.proofs.Common.{◌≡◌, ℕ, List, Option, Some, refl, ap}
use Rattle.std.specs.Prelude.{slice_get}
use Rattle.tl_base.specs.declared.ids.TermId.{TermId}
use Rattle.tl_base.specs.declared.place.Place.{Place}
use Rattle.terra_term.specs.declared.term.Expression.{Expression}
use Rattle.terra_term.specs.declared.term.Term.{Term}
use Rattle.terra_term.specs.declared.term.Term.TheVariants as kinds
use Rattle.check_model.specs.declared.site.Site.{Site}
use Rattle.check_model.specs.Expressions.{expression_job, expression_plan, node_plan}
use Rattle.check_model.specs.Typing.{TypingState}
use Rattle.check_expr.specs.declared.frame.BodyFrame.{BodyFrame}
use Rattle.check_expr.specs.Steps.{BodyStep, Goes}
use Rattle.check_expr.proofs.Doing.{moved}

-- a term that is an expression
pub expresses : (fs fs2 : List BodyFrame) (t : TermId) (at : Place) (x : Expression) (site : Site) (w w2 : TypingState)
    (left left2 : ℕ) (step : BodyStep)
    → slice_get w.stage.store.terms t.0 ≡ Some (kinds.Expression at x)
    → Goes fs (expression_plan w x at t site) w left fs2 step w2 left2
    → Goes fs (expression_job t site) w left fs2 step w2 left2
expresses fs fs2 t at x site w w2 left left2 step is g =
    moved fs fs2 (node_plan w (slice_get w.stage.store.terms t.0) t site) (expression_plan w x at t site) w w w2 left
    left2 step
    (ap (λ (o : Option Term). node_plan w o t site) is) refl g
