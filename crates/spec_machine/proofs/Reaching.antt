-- Plans that wait for nothing: what comes of one is what comes of another, or of the next one behind it.
use Rattle.std.proofs.Common.{◌≡◌, ℕ, ◌-◌, ◌≤◌, ◌<◌, List, [], ◌∷◌, ◌++◌, length, refl, sym, ap, subst, ◌∙◌}
use Rattle.tl_base.specs.Layer.{State, state}
use Rattle.tl_base.specs.declared.machine.Step.TheVariants.{Spent}
use Rattle.tl_base.specs.Plan.{Pay, Course, run}
use Rattle.tl_base.specs.Machine.{plug}
use Rattle.tl_base.proofs.Plans.{paid-enough}
use Rattle.tl_tree.specs.Code.{Items}
use Rattle.exotype.specs.World.{StageState, with_heap}
use Rattle.lua_table.specs.Heap.{interned_id, with_text}
use Rattle.spec_model.specs.declared.job.Job.{Job}
use Rattle.spec_model.specs.declared.end.End.{End}
use Rattle.spec_model.specs.declared.question.SpecQuestion.{SpecQuestion}
use Rattle.spec_model.specs.declared.question.SpecAnswer.{SpecAnswer}
use Rattle.spec_model.specs.Plans.{SpecPlan}
use Rattle.spec_model.specs.Meaning.{SpecGiven}
use Rattle.spec_machine.specs.declared.frame.SpecFrame.{SpecFrame}
use Rattle.spec_machine.specs.declared.reached.Reached.{Reached}
use Rattle.spec_machine.specs.declared.reached.Reached.TheVariants.{Value, Left}
use Rattle.spec_machine.specs.Frames.{spec_rules}
use Rattle.spec_machine.specs.Steps.{SpecStep, Goes, Does, Comes, Gets}
use Rattle.spec_machine.proofs.Doing.{jobs_of, pays, lacks}

-- a plan goes on as another one, whatever is behind both
abbrev pub Passes : {X : Type 0} → ((X → SpecPlan) → SpecPlan) → StageState → ℕ → ((X → SpecPlan) → SpecPlan) → StageState → ℕ → Type 0
Passes {X} p w left q w2 left2 =
    (f : Job → Course StageState SpecQuestion SpecAnswer End) (go : X → SpecPlan) (later : List SpecGiven)
    → run f (p go) (state w left) later ≡ run f (q go) (state w2 left2) later

pub passes_then : {X : Type 0} (p q r : (X → SpecPlan) → SpecPlan) (w v u : StageState) (left middle last : ℕ)
    → Passes p w left q v middle → Passes q v middle r u last → Passes p w left r u last
passes_then {X} p q r w v u left middle last one two = λ f go later. one f go later ∙ two f go later

-- plans and worlds that are known by equations
pub passes_same : {X : Type 0} (p q : (X → SpecPlan) → SpecPlan) (w v : StageState) (left : ℕ)
    → ((go : X → SpecPlan) → p go ≡ q go) → w ≡ v → Passes p w left q v left
passes_same {X} p q w v left plans worlds = λ f go later.
    ap (λ (x : SpecPlan). run f x (state w left) later) (plans go) ∙ ap (λ (u : StageState). run f (q go) (state u left) later) worlds

-- a payment
pub passes_enough : {X : Type 0} (n : ℕ) (p : (X → SpecPlan) → SpecPlan) (w : StageState) (left after : ℕ)
    → n ≤ left → after ≡ left - n → Passes (λ (go : X → SpecPlan). Pay n (p go)) w left p w after
passes_enough {X} n p w left after enough is = λ f go later.
    paid-enough n (state w left) (λ s. run f (p go) s later) enough
    ∙ ap (λ (m : ℕ). run f (p go) (state w m) later) (sym is)

-- a payment above what is left
pub comes_short : {X : Type 0} (n : ℕ) (p : (X → SpecPlan) → SpecPlan) (w : StageState) (left after : ℕ)
    → left < n → after ≡ left → Comes (λ (go : X → SpecPlan). Pay n (p go)) w left (Left Spent) w after
comes_short {X} n p w left after short same = λ items go fs.
    subst (λ (m : ℕ). Goes items fs (Pay n (p go)) w left fs Spent w m) (sym same) (lacks items fs n (p go) w left short)

-- what comes of the plan that a plan goes on as
pub comes_past : {X : Type 0} (p q : (X → SpecPlan) → SpecPlan) (r : Reached X) (w v w2 : StageState) (left middle left2 : ℕ)
    → Passes p w left q v middle → Comes q v middle r w2 left2 → Comes p w left r w2 left2
comes_past {X} p q (Value x) w v w2 left middle left2 passes came = λ f go later. passes f go later ∙ came f go later
comes_past {X} p q (Left step) w v w2 left middle left2 passes came = λ items go fs later.
    ap (plug (spec_rules items) fs) (passes (jobs_of items) go later) ∙ came items go fs later

-- a plan behind one that came to a value
pub comes_on : {X Y : Type 0} (p : (Y → SpecPlan) → SpecPlan) (q : Y → (X → SpecPlan) → SpecPlan) (y : Y) (w v : StageState) (left middle : ℕ)
    → Comes p w left (Value y) v middle → Passes (λ (go : X → SpecPlan). p (λ z. q z go)) w left (q y) v middle
comes_on {X} {Y} p q y w v left middle came = λ f go later. came f (λ z. q z go) later

-- or behind one that was left
pub comes_gone : {X Y : Type 0} (p : (Y → SpecPlan) → SpecPlan) (q : Y → (X → SpecPlan) → SpecPlan) (step : SpecStep) (w v : StageState) (left middle : ℕ)
    → Comes p w left (Left step) v middle → Comes (λ (go : X → SpecPlan). p (λ z. q z go)) w left (Left step) v middle
comes_gone {X} {Y} p q step w v left middle came = λ items go. came items (λ z. q z go)

-- the same, where what came is known by an equation
pub came_as : {X : Type 0} (p : (X → SpecPlan) → SpecPlan) (r s : Reached X) (w v : StageState) (left middle : ℕ)
    → r ≡ s → Comes p w left r v middle → Comes p w left s v middle
came_as {X} p r s w v left middle is came = rw is at came

-- a step that a plan does, whatever was to be behind it
pub comes_left : {X : Type 0} (p : SpecPlan) (step : SpecStep) (w v : StageState) (left middle : ℕ)
    → ((items : Items) → Does items p w left step v middle) → Comes (λ (go : X → SpecPlan). p) w left (Left step) v middle
comes_left {X} p step w v left middle does = λ items go. does items
