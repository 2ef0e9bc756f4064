-- What asks Lua, and what its answers give.
use Rattle.std.proofs.Common.{◌≡◌, ℕ, List, [], ◌∷◌, ◌++◌, Option, Some, None, refl, sym, ap}
use Rattle.std.specs.Prelude.{unwrap_or}
use Rattle.tl_base.specs.declared.ids.TermId.{TermId}
use Rattle.tl_base.specs.declared.place.Place.{Place}
use Rattle.tl_base.specs.declared.machine.Step.TheVariants.{Enter}
use Rattle.tl_base.specs.Layer.{state}
use Rattle.tl_base.specs.Plan.{Give, Gives, Stops, then_do, run, run_job}
use Rattle.tl_base.specs.Machine.{plug}
use Rattle.lua_value.specs.declared.value.Value.{Value}
use Rattle.lua_table.specs.Cells.{first_value}
use Rattle.check_model.specs.declared.end.PartEnd.{PartEnd}
use Rattle.check_model.specs.declared.end.PartEnd.TheVariants as ends
use Rattle.check_model.specs.declared.job.BodyJob.TheVariants as all
use Rattle.check_model.specs.declared.made.Made.{Made}
use Rattle.check_model.specs.declared.question.CheckAnswer.{CheckAnswer}
use Rattle.check_model.specs.declared.question.CheckAnswer.TheVariants as answers
use Rattle.check_model.specs.declared.site.Site.{Site}
use Rattle.check_model.specs.Typing.{TypingState}
use Rattle.check_model.specs.Bodies.{body_job}
use Rattle.check_model.specs.Plans.{BodyPlan, on_made, on_values, give, typing, quoting, in_place}
use Rattle.check_model.proofs.Composing.{BodyRun}
use Rattle.check_expr.specs.declared.frame.BodyFrame.{BodyFrame}
use Rattle.check_expr.specs.declared.frame.BodyFrame.TheVariants as frames
use Rattle.check_expr.specs.declared.frame.MadeFrame.{MadeFrame}
use Rattle.check_expr.specs.Frames.{body_rules, with_made}
use Rattle.check_expr.specs.Asking.{next_value, with_quoted, value_in}
use Rattle.check_expr.specs.Steps.{BodyStep, Goes}
use Rattle.check_expr.proofs.Composing.{placed_continues}
use Rattle.check_expr.proofs.Doing.{jobs, moved, below}

-- ---- quotes

-- a plan that goes on with a typed quote
pub quotes_then : (fs fs2 : List BodyFrame) (m : Made) (go : Value → BodyPlan) (q : Value) (w v w2 : TypingState)
    (left left2 : ℕ) (step : BodyStep)
    → q ≡ next_value w → v ≡ with_quoted w m → Goes fs (go q) v left fs2 step w2 left2
    → Goes fs (quoting m go) w left fs2 step w2 left2
quotes_then fs fs2 m go q w v w2 left left2 step is by g = λ later.
    moved fs fs2 (go (next_value w)) (go q) (with_quoted w m) v w2 left left2 step (ap go (sym is)) (sym by) g later

-- ---- values that are typed in place of a node

-- an expression's end is the end of what typed it
made_ends : (r : PartEnd) → on_made r give ≡ Give r
made_ends (ends.Made m) = refl
made_ends (ends.Stated id result) = refl
made_ends (ends.Refused why) = refl
made_ends (ends.Answered a) = refl

run_ends : (o : BodyRun) → then_do o (λ r. run jobs (on_made r give)) ≡ o
run_ends (Gives r s l) = ap (λ (p : BodyPlan). run jobs p s l) (made_ends r)
run_ends (Stops at) = refl

-- an expression without a frame
pub types : (fs : List BodyFrame) (t : TermId) (site : Site) (w : TypingState) (left : ℕ)
    → Goes fs (typing t site give) w left fs (Enter (all.Expression t site)) w left
types fs t site w left = λ later. ap (plug body_rules fs) (run_ends (run_job body_job (all.Expression t site) (state w left) later))

-- what is behind a value that is typed in place of a node, as a frame that waits for it
pub behind_place : (fs pushed fs2 : List BodyFrame) (f : MadeFrame) (v : Value) (at : Place) (site : Site)
    (w w2 : TypingState) (left left2 : ℕ) (step : BodyStep)
    → pushed ≡ fs ++ frames.Made f ∷ [] → Goes pushed (in_place v at site give) w left fs2 step w2 left2
    → Goes fs (in_place v at site (λ r. with_made f r)) w left fs2 step w2 left2
behind_place fs pushed fs2 f v at site w w2 left left2 step is g =
    below fs pushed fs2 (frames.Made f) (in_place v at site (λ r. with_made f r)) (in_place v at site give) w w2 left left2 step
    (λ s later. placed_continues jobs v at site (λ r. with_made f r) s later) is g

-- ---- answers

same_some : (v u : Value) → Some v ≡ Some u → v ≡ u
same_some v u is = ap (λ (o : Option Value). unwrap_or o v) is

pub values_given : (a : CheckAnswer) (v : Value) (go : Value → BodyPlan) (otherwise : BodyPlan)
    → value_in a ≡ Some v → on_values a go otherwise ≡ go v
values_given (answers.Values vs) v go otherwise is = ap go (same_some (first_value vs) v is)
values_given answers.Go v go otherwise is = absurd (cc is)
values_given (answers.Raise u place) v go otherwise is = absurd (cc is)
values_given (answers.Result t) v go otherwise is = absurd (cc is)
values_given (answers.Refused r) v go otherwise is = absurd (cc is)
values_given answers.Done v go otherwise is = absurd (cc is)
values_given (answers.NoLayout kind) v go otherwise is = absurd (cc is)

pub none_given : (a : CheckAnswer) (go : Value → BodyPlan) (otherwise : BodyPlan)
    → value_in a ≡ None → on_values a go otherwise ≡ otherwise
none_given (answers.Values vs) go otherwise is = absurd (cc is)
none_given a go otherwise is = refl
