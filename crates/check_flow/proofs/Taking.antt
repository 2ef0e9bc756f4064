-- What is done with the function at a place of the queue.
use Rattle.std.proofs.Common.{◌≡◌, ℕ, List, [], ◌∷◌, ◌++◌, sym, ap, ◌∙◌, Option, Some, slice_get}
use Rattle.tl_base.specs.declared.ids.TermId.{TermId}
use Rattle.tl_base.specs.declared.place.Place.{Place}
use Rattle.tl_base.specs.declared.machine.Step.{Step}
use Rattle.tl_base.specs.declared.machine.Step.TheVariants.{Stop}
use Rattle.tl_base.specs.Layer.{state}
use Rattle.tl_base.specs.Machine.{plug, plan_run}
use Rattle.terra_term.specs.declared.store.Function.{Function}
use Rattle.terra_term.specs.declared.store.FunctionState.{FunctionState}
use Rattle.terra_term.specs.declared.store.FunctionState.TheVariants as standing
use Rattle.exotype.specs.World.{StageState}
use Rattle.check_model.specs.declared.job.CheckJob.{CheckJob}
use Rattle.check_model.specs.declared.job.CheckJob.TheVariants.{Take}
use Rattle.check_model.specs.declared.job.Reached.{Reached}
use Rattle.check_model.specs.declared.end.CheckEnd.{CheckEnd}
use Rattle.check_model.specs.declared.question.CheckQuestion.{CheckQuestion}
use Rattle.check_model.specs.declared.question.CheckQuestion.TheVariants.{Body}
use Rattle.check_model.specs.Checks.{CheckPlan, check_job, at_index, taken, by_state}
use Rattle.check_flow.specs.declared.check_frame.CheckFrame.{CheckFrame}
use Rattle.check_flow.specs.CheckFrames.{check_rules}
use Rattle.check_flow.specs.Steps.{ChecksOn}
use Rattle.check_flow.proofs.Asking.{asks}
use Rattle.check_flow.proofs.Answering.{body_answered}

abbrev CheckStep : Type 0
CheckStep = Step CheckJob CheckEnd CheckQuestion

moved : (fs fs2 : List CheckFrame) (p q : CheckPlan) (w : StageState) (left : ℕ) (step : CheckStep)
    → p ≡ q → ChecksOn fs q w left fs2 step w left → ChecksOn fs p w left fs2 step w left
moved fs fs2 p q w left step is g = λ later. ap (λ (x : CheckPlan). plug check_rules fs (plan_run check_rules x (state w left) later)) is ∙ g later

takes : (fs fs2 : List CheckFrame) (queue : List Reached) (i : ℕ) (r : Reached) (g : Option Function) (w : StageState) (left : ℕ) (step : CheckStep)
    → Some r ≡ slice_get queue i → g ≡ slice_get w.store.functions r.function.0
    → ChecksOn fs (taken g queue i r) w left fs2 step w left → ChecksOn fs (check_job (Take queue i)) w left fs2 step w left
takes fs fs2 queue i r g w left step found there goes =
    moved fs fs2 (at_index (slice_get queue i) queue i) (at_index (Some r) queue i) w left step
    (ap (λ (o : Option Reached). at_index o queue i) (sym found))
    (moved fs fs2 (taken (slice_get w.store.functions r.function.0) queue i r) (taken g queue i r) w left step
    (ap (λ (o : Option Function). taken o queue i r) (sym there)) goes)

-- it is this one, of which the store says this
pub takes_so : (fs fs2 : List CheckFrame) (queue : List Reached) (i : ℕ) (r : Reached) (g : Function) (s : FunctionState) (w : StageState) (left : ℕ)
    (step : CheckStep)
    → Some r ≡ slice_get queue i → Some g ≡ slice_get w.store.functions r.function.0 → g.state ≡ s
    → ChecksOn fs (by_state s g.place queue i r) w left fs2 step w left → ChecksOn fs (check_job (Take queue i)) w left fs2 step w left
takes_so fs fs2 queue i r g s w left step found there is goes =
    takes fs fs2 queue i r (Some g) w left step found there
    (moved fs fs2 (by_state g.state g.place queue i r) (by_state s g.place queue i r) w left step
    (ap (λ (x : FunctionState). by_state x g.place queue i r) is) goes)

-- its body is asked for
pub asks_body : (fs pushed : List CheckFrame) (queue : List Reached) (i : ℕ) (r : Reached) (own : Place) (t : TermId) (w : StageState) (left : ℕ)
    → pushed ≡ fs ++ record { queue = queue; place = i; function = r.function } ∷ []
    → ChecksOn fs (by_state (standing.Defined t) own queue i r) w left pushed (Stop (Body r.function)) w left
asks_body fs pushed queue i r own t w left is =
    asks check_rules fs pushed (record { queue = queue; place = i; function = r.function }) (Body r.function) _ (state w left)
    (body_answered queue i r.function) is
