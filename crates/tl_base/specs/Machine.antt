-- What remains to be done by a machine with frames.
use Rattle.std.specs.Prelude.{◌≡◌, ℕ, Bool, not, List, [], ◌∷◌}
use Rattle.tl_base.specs.declared.machine.Step.{Step}
use Rattle.tl_base.specs.declared.machine.Step.TheVariants.{Enter, Return, Stop, Spent}
use Rattle.tl_base.specs.declared.machine.Waiting.{Waiting}
use Rattle.tl_base.specs.declared.machine.Waiting.TheVariants.{Begin, Asked}
use Rattle.tl_base.specs.Layer.{State, Given, Meaning, state}
use Rattle.tl_base.specs.Plan.{Plan, Give, AskFor, Run, Gives, Stops, Lacks, Course, then_do, run, run_job, shown}

-- a language: the plan with which each task begins, the plan of each job, how each frame goes on with the end of what
-- is above it, the end that the answer to a question gives, and the end of the task that an end inside is
pub record Rules (T J W Q A R E F : Type 0) : Type 0 where
  pub first : T → Plan J W Q A R
  pub plan : J → Plan J W Q A R
  pub after : F → R → Plan J W Q A R
  pub reply : A → R
  pub close : R → E

-- a plan that asks and ends with the answer
abbrev pub ask : {T J W Q A R E F : Type 0} → Rules T J W Q A R E F → Q → Plan J W Q A R
ask rules q = AskFor q (λ a. Give (rules.reply a))

-- a plan's run
abbrev pub plan_run : {T J W Q A R E F : Type 0} → Rules T J W Q A R E F → Plan J W Q A R → Course W Q A R
plan_run rules = run (run_job rules.plan)

-- what a task means, given the answer that begins it, and the answers after that: what shows of the run of its first
-- plan. To begin it costs nothing
abbrev pub meaning_of : {T J W Q A R E F : Type 0} → Rules T J W Q A R E F → T → Meaning W Q A E
meaning_of rules task first later = shown rules.close (plan_run rules (rules.first task) first.state later)

-- goes on from a run through the frames, of which the last goes on first
abbrev pub plug : {T J W Q A R E F : Type 0} → Rules T J W Q A R E F → List F → Run W Q A R → Run W Q A R
plug rules [] o = o
plug rules (f ∷ fs) o = then_do (plug rules fs o) (λ r. plan_run rules (rules.after f r))

-- what a step does
abbrev pub meant : {T J W Q A R E F : Type 0} → Rules T J W Q A R E F → Step J R Q → Course W Q A R
meant rules (Enter job) = run_job rules.plan job
meant rules (Return r) = Gives r
meant rules (Stop q) = plan_run rules (ask rules q)
meant rules Spent = λ s l. Stops (Lacks s)

-- frames and a plan do what other frames and a step do, with all answers
abbrev pub GoesOn : {T J W Q A R E F : Type 0} → Rules T J W Q A R E F →
    List F → Plan J W Q A R → State W → List F → Step J R Q → State W → Type 0
GoesOn {T} {J} {W} {Q} {A} {R} {E} {F} rules fs plan s fs' step s' =
    (later : List (Given W A)) → plug rules fs (plan_run rules plan s later) ≡ plug rules fs' (meant rules step s' later)

-- the same for a step that pays nothing, with all units
abbrev pub GoesOnFree : {T J W Q A R E F : Type 0} → Rules T J W Q A R E F →
    List F → Plan J W Q A R → W → List F → Step J R Q → W → Type 0
GoesOnFree rules fs plan w fs' step w' =
    (left : ℕ) → GoesOn rules fs plan (state w left) fs' step (state w' left)

-- the plan with which a machine that waits goes on
abbrev pub woken : {T J W Q A R E F : Type 0} → Rules T J W Q A R E F → Waiting T → A → Plan J W Q A R
woken rules (Begin task) a = rules.first task
woken rules Asked a = Give (rules.reply a)

-- what remains to be done
abbrev pub rest_of : {T J W Q A R E F : Type 0} → Rules T J W Q A R E F → List F → Waiting T → Meaning W Q A E
rest_of rules fs waiting next later =
    shown rules.close (plug rules fs (plan_run rules (woken rules waiting next.answer) next.state later))

-- only the first answer begins
abbrev pub fits_waiting : {T A : Type 0} → (A → Bool) → Waiting T → A → Bool
fits_waiting is_go (Begin task) a = is_go a
fits_waiting is_go Asked a = not (is_go a)

-- frames and a step do what other frames and a step do
abbrev pub RunsAs : {T J W Q A R E F : Type 0} → Rules T J W Q A R E F →
    List F → Step J R Q → State W → List F → Step J R Q → State W → Type 0
RunsAs {T} {J} {W} {Q} {A} {R} {E} {F} rules fs step s fs' step' s' =
    (later : List (Given W A)) → plug rules fs (meant rules step s later) ≡ plug rules fs' (meant rules step' s' later)
