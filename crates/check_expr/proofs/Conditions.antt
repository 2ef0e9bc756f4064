-- Conditions, of which each is a bool.
use Rattle.std.proofs.Common.{◌≡◌, ℕ, true, false, List}
use Rattle.terra_types.specs.Making.{same_type}
use Rattle.terra_types.specs.Opening.{boolean}
use Rattle.terra_term.specs.declared.refusal.RefusalKind.TheVariants.{Mismatch}
use Rattle.check_model.specs.declared.made.Made.{Made}
use Rattle.check_model.specs.declared.site.Site.{Site}
use Rattle.check_model.specs.Plans.{BodyPlan, refuse}
use Rattle.check_model.specs.Typing.{TypingState}
use Rattle.check_expr.specs.declared.frame.BodyFrame.{BodyFrame}
use Rattle.check_expr.specs.Frames.{as_condition}
use Rattle.check_expr.specs.Steps.{BodyStep, Goes}
use Rattle.check_expr.proofs.Doing.{chosen}

-- it is a bool
pub as_bool : (fs fs2 : List BodyFrame) (m : Made) (site : Site) (rest : BodyPlan) (w w2 : TypingState)
    (left left2 : ℕ) (step : BodyStep)
    → same_type m.of boolean ≡ true → Goes fs rest w left fs2 step w2 left2 → Goes fs (as_condition m site rest)
    w left fs2 step w2 left2
as_bool fs fs2 m site rest w w2 left left2 step is g =
    chosen fs fs2 (same_type m.of boolean) true rest (refuse Mismatch m.at site) w w2 left left2 step is g

-- it is none
pub as_none : (fs fs2 : List BodyFrame) (m : Made) (site : Site) (rest : BodyPlan) (w w2 : TypingState)
    (left left2 : ℕ) (step : BodyStep)
    → same_type m.of boolean ≡ false → Goes fs (refuse Mismatch m.at site) w left fs2 step w2 left2
    → Goes fs (as_condition m site rest) w left fs2 step w2 left2
as_none fs fs2 m site rest w w2 left left2 step is g =
    chosen fs fs2 (same_type m.of boolean) false rest (refuse Mismatch m.at site) w w2 left left2 step is g
