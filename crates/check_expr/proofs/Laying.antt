-- Layouts that are asked for, or need no question.
use Rattle.std.proofs.Common.{◌≡◌, ℕ, Bool, true, false, List, [], ◌∷◌, ◌++◌, ap}
use Rattle.std.specs.Prelude.{◌&&◌, nat_lt, if◌then◌else◌}
use Rattle.tl_base.specs.declared.ids.TypeId.{TypeId}
use Rattle.tl_base.specs.declared.place.Place.{Place}
use Rattle.tl_base.specs.declared.machine.Step.TheVariants.{Return, Stop}
use Rattle.tl_base.specs.Plan.{AskFor}
use Rattle.terra_term.specs.WellTyped.{widest}
use Rattle.terra_term.specs.declared.refusal.RefusalKind.TheVariants.{TooWide}
use Rattle.check_model.specs.declared.end.PartEnd.TheVariants as ends
use Rattle.check_model.specs.declared.made.Made.{Made}
use Rattle.check_model.specs.declared.question.BodyQuestion.TheVariants.{LayoutOf}
use Rattle.check_model.specs.declared.question.CheckAnswer.TheVariants as answers
use Rattle.check_model.specs.declared.site.Site.{Site}
use Rattle.check_model.specs.Typing.{TypingState, form_in, is_aggregate_form, bytes_in}
use Rattle.check_model.specs.Plans.{reading, refuse, give, on_layout, laid_out, is_wide, as_value}
use Rattle.check_expr.specs.declared.frame.BodyFrame.{BodyFrame}
use Rattle.check_expr.specs.declared.frame.BodyFrame.TheVariants as frames
use Rattle.check_expr.specs.declared.frame.LaidThen.{LaidThen}
use Rattle.check_expr.specs.Frames.{laid_then}
use Rattle.check_expr.specs.Steps.{Goes}
use Rattle.check_expr.proofs.Doing.{returns, bounces, asks, chosen}

-- an aggregate's is asked for
pub lays_aggregate : (fs pushed : List BodyFrame) (of : TypeId) (at : Place) (site : Site) (next : LaidThen) (w : TypingState) (left : ℕ)
    → is_aggregate_form (form_in w.stage of) ≡ true → pushed ≡ fs ++ frames.Laid at site next ∷ []
    → Goes fs (laid_out of at site (laid_then next site)) w left pushed (Stop (LayoutOf of at)) w left
lays_aggregate fs pushed of at site next w left aggregate is =
    chosen fs pushed (is_aggregate_form (form_in w.stage of)) true
    (AskFor (LayoutOf of at) (λ a. on_layout a at site (laid_then next site))) (laid_then next site) w w left left (Stop (LayoutOf of at))
    aggregate (asks fs pushed (frames.Laid at site next) (LayoutOf of at) w left is)

-- any other one is there
pub lays_other : (fs pushed : List BodyFrame) (of : TypeId) (at : Place) (site : Site) (next : LaidThen) (w : TypingState) (left : ℕ)
    → is_aggregate_form (form_in w.stage of) ≡ false → pushed ≡ fs ++ frames.Laid at site next ∷ []
    → Goes fs (laid_out of at site (laid_then next site)) w left pushed (Return (ends.Answered answers.Done)) w left
lays_other fs pushed of at site next w left other is =
    chosen fs pushed (is_aggregate_form (form_in w.stage of)) false
    (AskFor (LayoutOf of at) (λ a. on_layout a at site (laid_then next site))) (laid_then next site) w w left left
    (Return (ends.Answered answers.Done)) other (bounces fs pushed (frames.Laid at site next) (ends.Answered answers.Done) w left is)

-- what is no aggregate is a value
pub narrow_value : (fs : List BodyFrame) (m : Made) (site : Site) (w : TypingState) (left : ℕ)
    → is_aggregate_form (form_in w.stage m.of) ≡ false → Goes fs (as_value m site (give m)) w left fs (Return (ends.Made m)) w left
narrow_value fs m site w left other =
    chosen fs fs (is_aggregate_form (form_in w.stage m.of)) false
    (AskFor (LayoutOf m.of m.at)
    (λ a. on_layout a m.at site (reading (λ v. if is_wide v m.of then refuse TooWide m.at site else give m))))
    (reading (λ v. if is_wide v m.of then refuse TooWide m.at site else give m)) w w left left (Return (ends.Made m)) other
    (chosen fs fs (is_wide w.stage m.of) false (refuse TooWide m.at site) (give m) w w left left (Return (ends.Made m))
    (ap (λ (b : Bool). b && nat_lt widest (bytes_in w.stage m.of)) other) (returns fs (ends.Made m) w left))
