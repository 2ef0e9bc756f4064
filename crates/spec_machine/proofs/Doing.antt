-- What a step does by itself: it returns an end, enters a job or asks, below a frame or with nothing to wait for it; and what it does where
-- its plan or its world is known by equations, or where it goes on behind a plan that waits for nothing.
use Rattle.std.proofs.Common.{◌≡◌, ℕ, ◌-◌, ◌≤◌, ◌<◌, Bool, true, false, List, [], ◌∷◌, ◌++◌, length, refl, sym, ap, ◌∙◌, Option, Some, None}
use Rattle.std.specs.Prelude.{if◌then◌else◌, Result, Ok, Err, IfOk}
use Rattle.tl_base.specs.Layer.{State, state}
use Rattle.tl_base.specs.declared.machine.Step.TheVariants.{Enter, Return, Stop, Spent}
use Rattle.tl_base.specs.Plan.{Give, Do, AskFor, Read, Write, Pay, Stops, Lacks, Course, then_do, paid, run, run_job}
use Rattle.tl_base.specs.Machine.{plug, plan_run, ask}
use Rattle.tl_base.proofs.Steps.{plug-push, then_do-give, plug-stops}
use Rattle.tl_base.proofs.Plans.{paid-enough, paid-short}
use Rattle.tl_tree.specs.Code.{Items}
use Rattle.exotype.specs.World.{StageState}
use Rattle.spec_model.specs.declared.job.Job.{Job}
use Rattle.spec_model.specs.declared.end.End.{End}
use Rattle.spec_model.specs.declared.question.SpecQuestion.{SpecQuestion}
use Rattle.spec_model.specs.declared.question.SpecAnswer.{SpecAnswer}
use Rattle.spec_model.specs.Plans.{SpecPlan}
use Rattle.spec_model.specs.Meaning.{SpecGiven, job_plan}
use Rattle.spec_machine.specs.declared.frame.SpecFrame.{SpecFrame}
use Rattle.spec_machine.specs.declared.reached.Reached.{Reached}
use Rattle.spec_machine.specs.declared.reached.Reached.TheVariants.{Value, Left}
use Rattle.spec_machine.specs.Frames.{after, spec_rules, reply}
use Rattle.spec_machine.specs.Steps.{SpecStep, Goes, Does, Comes, Gets, Runs}

-- runs of jobs in a tree
abbrev pub jobs_of : Items → Job → Course StageState SpecQuestion SpecAnswer End
jobs_of items = run_job (job_plan items)

pub returns : (items : Items) (fs : List SpecFrame) (r : End) (w : StageState) (left : ℕ)
    → Goes items fs (Give r) w left fs (Return r) w left
returns items fs r w left = λ later. refl

-- an end below a frame, which goes on with it
pub bounces : (items : Items) (fs pushed : List SpecFrame) (f : SpecFrame) (r : End) (w : StageState) (left : ℕ)
    → pushed ≡ fs ++ f ∷ [] → Goes items fs (after items f r) w left pushed (Return r) w left
bounces items fs pushed f r w left is = λ later.
    sym (plug-push (spec_rules items) fs f (plan_run (spec_rules items) (Give r) (state w left) later))
    ∙ ap (λ (gs : List SpecFrame). plug (spec_rules items) gs (plan_run (spec_rules items) (Give r) (state w left) later)) (sym is)

-- a job below a frame
pub enters : (items : Items) (fs pushed : List SpecFrame) (f : SpecFrame) (job : Job) (w : StageState) (left : ℕ)
    → pushed ≡ fs ++ f ∷ [] → Goes items fs (Do job (after items f)) w left pushed (Enter job) w left
enters items fs pushed f job w left is = λ later.
    sym (plug-push (spec_rules items) fs f (run_job (job_plan items) job (state w left) later))
    ∙ ap (λ (gs : List SpecFrame). plug (spec_rules items) gs (run_job (job_plan items) job (state w left) later)) (sym is)

asked : (items : Items) (f : SpecFrame) (q : SpecQuestion) (s : State StageState) (later : List SpecGiven)
    → run (jobs_of items) (AskFor q (λ a. after items f (reply a))) s later
    ≡ then_do (plan_run (spec_rules items) (ask (spec_rules items) q) s later) (λ r. run (jobs_of items) (after items f r))
asked items f q s [] = refl
asked items f q s (a ∷ later) = refl

-- a question below a frame
pub asks : (items : Items) (fs pushed : List SpecFrame) (f : SpecFrame) (q : SpecQuestion) (w : StageState) (left : ℕ)
    → pushed ≡ fs ++ f ∷ [] → Goes items fs (AskFor q (λ a. after items f (reply a))) w left pushed (Stop q) w left
asks items fs pushed f q w left is = λ later.
    ap (plug (spec_rules items) fs) (asked items f q (state w left) later)
    ∙ sym (plug-push (spec_rules items) fs f (plan_run (spec_rules items) (ask (spec_rules items) q) (state w left) later))
    ∙ ap (λ (gs : List SpecFrame). plug (spec_rules items) gs (plan_run (spec_rules items) (ask (spec_rules items) q) (state w left) later)) (sym is)

-- ---- plans and worlds that are known by equations

-- the same plan, with the same world
pub moved : (items : Items) (fs fs2 : List SpecFrame) (p q : SpecPlan) (w v w2 : StageState) (left left2 : ℕ) (step : SpecStep)
    → p ≡ q → w ≡ v → Goes items fs q v left fs2 step w2 left2 → Goes items fs p w left fs2 step w2 left2
moved items fs fs2 p q w v w2 left left2 step plans worlds g = λ later.
    ap (λ (x : SpecPlan). plug (spec_rules items) fs (run (jobs_of items) x (state w left) later)) plans
    ∙ ap (λ (u : StageState). plug (spec_rules items) fs (run (jobs_of items) q (state u left) later)) worlds ∙ g later

-- a plan that chooses by a test
pub chosen : (items : Items) (fs fs2 : List SpecFrame) (b c : Bool) (p q : SpecPlan) (w w2 : StageState) (left left2 : ℕ) (step : SpecStep)
    → b ≡ c → Goes items fs (if c then p else q) w left fs2 step w2 left2
    → Goes items fs (if b then p else q) w left fs2 step w2 left2
chosen items fs fs2 b c p q w w2 left left2 step e g =
    moved items fs fs2 (if b then p else q) (if c then p else q) w w w2 left left2 step
    (ap (λ (d : Bool). if d then p else q) e) refl g

-- a payment
pub pays : (items : Items) (fs fs2 : List SpecFrame) (n : ℕ) (p : SpecPlan) (w w2 : StageState) (left after left2 : ℕ) (step : SpecStep)
    → n ≤ left → after ≡ left - n → Goes items fs p w after fs2 step w2 left2 → Goes items fs (Pay n p) w left fs2 step w2 left2
pays items fs fs2 n p w w2 left after left2 step enough is g = λ later.
    ap (plug (spec_rules items) fs) (paid-enough n (state w left) (λ s. run (jobs_of items) p s later) enough)
    ∙ ap (λ (m : ℕ). plug (spec_rules items) fs (run (jobs_of items) p (state w m) later)) (sym is) ∙ g later

-- a payment above what is left
pub lacks : (items : Items) (fs : List SpecFrame) (n : ℕ) (p : SpecPlan) (w : StageState) (left : ℕ)
    → left < n → Goes items fs (Pay n p) w left fs Spent w left
lacks items fs n p w left short = λ later.
    ap (plug (spec_rules items) fs) (paid-short n (state w left) (λ s. run (jobs_of items) p s later) short)

-- ---- behind a plan that waits for nothing

pub gets : {X : Type 0} (items : Items) (fs fs2 : List SpecFrame) (plan : (X → SpecPlan) → SpecPlan) (go : X → SpecPlan) (x : X)
    (w v w2 : StageState) (left left2 : ℕ) (step : SpecStep)
    → Gets plan w x v → Goes items fs (go x) v left fs2 step w2 left2 → Goes items fs (plan go) w left fs2 step w2 left2
gets {X} items fs fs2 plan go x w v w2 left left2 step got g = λ later.
    ap (plug (spec_rules items) fs) (got (jobs_of items) go left later) ∙ g later

pub comes : {X : Type 0} (items : Items) (fs fs2 : List SpecFrame) (plan : (X → SpecPlan) → SpecPlan) (go : X → SpecPlan) (r : Reached X) (x : X)
    (w v w2 : StageState) (left middle left2 : ℕ) (step : SpecStep)
    → r ≡ Value x → Comes plan w left r v middle → Goes items fs (go x) v middle fs2 step w2 left2
    → Goes items fs (plan go) w left fs2 step w2 left2
comes {X} items fs fs2 plan go r x w v w2 left middle left2 step is came g =
    value (rw is at came)
  where
    value : Comes plan w left (Value x) v middle → Goes items fs (plan go) w left fs2 step w2 left2
    value had = λ later. ap (plug (spec_rules items) fs) (had (jobs_of items) go later) ∙ g later

pub leaves : {X : Type 0} (items : Items) (fs : List SpecFrame) (plan : (X → SpecPlan) → SpecPlan) (go : X → SpecPlan) (r : Reached X) (step : SpecStep)
    (w v : StageState) (left middle : ℕ)
    → r ≡ Left step → Comes plan w left r v middle → Goes items fs (plan go) w left fs step v middle
leaves {X} items fs plan go r step w v left middle is came =
    gone (rw is at came)
  where
    gone : Comes plan w left (Left step) v middle → Goes items fs (plan go) w left fs step v middle
    gone had = had items go fs

-- what holds of the step that comes of a call, by what the call ensures of it
pub mapped : {X E : Type 0} (P Q : X → Type 0) (r : Result X E) → ((x : X) → P x → Q x) → IfOk r P → IfOk r Q
mapped {X} {E} P Q (Ok x) h p = h x p
mapped {X} {E} P Q (Err e) h p = p
