-- What a step does by itself: it returns an end, enters a job or asks, below a frame or with nothing to wait for it.
use Rattle.std.proofs.Common.{◌≡◌, ℕ, ◌-◌, ◌≤◌, ◌<◌, Bool, List, [], ◌∷◌, ◌++◌, refl, sym, subst, ap, ◌∙◌}
use Rattle.std.specs.Prelude.{if◌then◌else◌}
use Rattle.tl_base.specs.Layer.{State, state}
use Rattle.tl_base.specs.declared.machine.Step.TheVariants.{Enter, Return, Stop, Spent}
use Rattle.tl_base.specs.Plan.{Give, Do, AskFor, Pay, then_do, run, run_job}
use Rattle.tl_base.specs.Machine.{plug, plan_run, ask}
use Rattle.tl_base.proofs.Steps.{plug-push, then_do-give}
use Rattle.tl_base.proofs.Plans.{paid-enough, paid-short}
use Rattle.check_model.specs.declared.job.BodyJob.{BodyJob}
use Rattle.check_model.specs.declared.end.PartEnd.{PartEnd}
use Rattle.check_model.specs.declared.question.BodyQuestion.{BodyQuestion}
use Rattle.check_model.specs.Typing.{TypingState}
use Rattle.check_model.specs.Plans.{BodyPlan}
use Rattle.check_model.specs.Bodies.{BodyGiven, body_job}
use Rattle.check_model.proofs.Composing.{BodyCourse}
use Rattle.check_expr.specs.declared.frame.BodyFrame.{BodyFrame}
use Rattle.check_expr.specs.Frames.{after, body_rules, reply}
use Rattle.check_expr.specs.Steps.{BodyStep, Goes, Does}

-- runs of jobs
abbrev pub jobs : BodyJob → BodyCourse
jobs = run_job body_job

pub returns : (fs : List BodyFrame) (r : PartEnd) (w : TypingState) (left : ℕ) → Goes fs (Give r) w left fs (Return r) w left
returns fs r w left = λ later. refl

-- a job without a frame
pub tails : (fs : List BodyFrame) (job : BodyJob) (w : TypingState) (left : ℕ) → Goes fs (Do job Give) w left fs (Enter job) w left
tails fs job w left = λ later. ap (plug body_rules fs) (then_do-give (run_job body_job job (state w left) later))

-- an end below a frame, which goes on with it
pub bounces : (fs pushed : List BodyFrame) (f : BodyFrame) (r : PartEnd) (w : TypingState) (left : ℕ)
    → pushed ≡ fs ++ f ∷ [] → Goes fs (after f r) w left pushed (Return r) w left
bounces fs pushed f r w left is = λ later.
    sym (plug-push body_rules fs f (plan_run body_rules (Give r) (state w left) later))
    ∙ ap (λ (gs : List BodyFrame). plug body_rules gs (plan_run body_rules (Give r) (state w left) later)) (sym is)

-- a job below a frame
pub enters : (fs pushed : List BodyFrame) (f : BodyFrame) (job : BodyJob) (w : TypingState) (left : ℕ)
    → pushed ≡ fs ++ f ∷ [] → Goes fs (Do job (after f)) w left pushed (Enter job) w left
enters fs pushed f job w left is = λ later.
    sym (plug-push body_rules fs f (run_job body_job job (state w left) later))
    ∙ ap (λ (gs : List BodyFrame). plug body_rules gs (run_job body_job job (state w left) later)) (sym is)

asked : (f : BodyFrame) (q : BodyQuestion) (s : State TypingState) (later : List BodyGiven)
    → run jobs (AskFor q (λ a. after f (reply a))) s later
    ≡ then_do (plan_run body_rules (ask body_rules q) s later) (λ r. run jobs (after f r))
asked f q s [] = refl
asked f q s (a ∷ later) = refl

-- a question below a frame
pub asks : (fs pushed : List BodyFrame) (f : BodyFrame) (q : BodyQuestion) (w : TypingState) (left : ℕ)
    → pushed ≡ fs ++ f ∷ [] → Goes fs (AskFor q (λ a. after f (reply a))) w left pushed (Stop q) w left
asks fs pushed f q w left is = λ later.
    ap (plug body_rules fs) (asked f q (state w left) later)
    ∙ sym (plug-push body_rules fs f (plan_run body_rules (ask body_rules q) (state w left) later))
    ∙ ap (λ (gs : List BodyFrame). plug body_rules gs (plan_run body_rules (ask body_rules q) (state w left) later)) (sym is)

-- a plan that goes on behind another one, which is done below the frame of what is behind it
pub below : (fs pushed fs2 : List BodyFrame) (f : BodyFrame) (p q : BodyPlan) (w w2 : TypingState) (left left2 : ℕ) (step : BodyStep)
    → ((s : State TypingState) (later : List BodyGiven) → run jobs p s later ≡ then_do (run jobs q s later) (λ r. run jobs (after f r)))
    → pushed ≡ fs ++ f ∷ [] → Goes pushed q w left fs2 step w2 left2 → Goes fs p w left fs2 step w2 left2
below fs pushed fs2 f p q w w2 left left2 step with is g = λ later.
    ap (plug body_rules fs) (with (state w left) later)
    ∙ sym (plug-push body_rules fs f (run jobs q (state w left) later))
    ∙ ap (λ (gs : List BodyFrame). plug body_rules gs (run jobs q (state w left) later)) (sym is)
    ∙ g later

-- ---- plans and worlds that are known by equations

-- the same plan, with the same world
pub moved : (fs fs2 : List BodyFrame) (p q : BodyPlan) (w v w2 : TypingState) (left left2 : ℕ) (step : BodyStep)
    → p ≡ q → w ≡ v → Goes fs q v left fs2 step w2 left2 → Goes fs p w left fs2 step w2 left2
moved fs fs2 p q w v w2 left left2 step plans worlds g = λ later.
    ap (λ (x : BodyPlan). plug body_rules fs (run jobs x (state w left) later)) plans
    ∙ ap (λ (u : TypingState). plug body_rules fs (run jobs q (state u left) later)) worlds ∙ g later

-- a plan that chooses by a test
pub chosen : (fs fs2 : List BodyFrame) (b c : Bool) (p q : BodyPlan) (w w2 : TypingState) (left left2 : ℕ) (step : BodyStep)
    → b ≡ c → Goes fs (if c then p else q) w left fs2 step w2 left2
    → Goes fs (if b then p else q) w left fs2 step w2 left2
chosen fs fs2 b c p q w w2 left left2 step e g =
    moved fs fs2 (if b then p else q) (if c then p else q) w w w2 left left2 step
    (ap (λ (d : Bool). if d then p else q) e) refl g

-- a payment
pub pays : (fs fs2 : List BodyFrame) (n : ℕ) (p : BodyPlan) (w w2 : TypingState) (left after left2 : ℕ) (step : BodyStep)
    → n ≤ left → after ≡ left - n → Goes fs p w after fs2 step w2 left2 → Goes fs (Pay n p) w left fs2 step w2 left2
pays fs fs2 n p w w2 left after left2 step enough is g = λ later.
    ap (plug body_rules fs) (paid-enough n (state w left) (λ s. run jobs p s later) enough)
    ∙ ap (λ (m : ℕ). plug body_rules fs (run jobs p (state w m) later)) (sym is) ∙ g later

-- a payment above what is left
pub lacks : (fs : List BodyFrame) (n : ℕ) (p : BodyPlan) (w : TypingState) (left : ℕ)
    → left < n → Goes fs (Pay n p) w left fs Spent w left
lacks fs n p w left short = λ later.
    ap (plug body_rules fs) (paid-short n (state w left) (λ s. run jobs p s later) short)

-- a step over any frames, whose plan is known by an equation
pub does_as : (fs : List BodyFrame) (p q : BodyPlan) (w w2 : TypingState) (left left2 : ℕ) (step : BodyStep)
    → p ≡ q → Does q w left step w2 left2 → Goes fs p w left fs step w2 left2
does_as fs p q w w2 left left2 step is does = moved fs fs p q w w w2 left left2 step is refl (does fs)

-- a payment above what is left, where what is left stays
pub unpaid : (fs : List BodyFrame) (n : ℕ) (p : BodyPlan) (w : TypingState) (left after : ℕ)
    → left < n → after ≡ left → Goes fs (Pay n p) w left fs Spent w after
unpaid fs n p w left after short same =
    subst (λ (m : ℕ). Goes fs (Pay n p) w left fs Spent w m) (sym same) (lacks fs n p w left short)
