-- Plans that do the same run alike, and layers that mean the same come to the same in a stage.
use Rattle.std.proofs.Common.{◌≡◌, ℕ, zero, suc, ◌-◌, List, [], ◌∷◌, Option, Some, None, refl, sym, ap, subst, ◌∙◌}
use Rattle.tl_base.specs.Layer.{State, Given, state, Seen, Ended, SpentAt, Asks, Meaning, at}
use Rattle.tl_base.specs.Plan.{Plan, Give, Do, AskFor, Read, Write, Pay, Run, Gives, Stops, Lacks, Waits, Course}
use Rattle.tl_base.specs.Plan.{shown, then_do, paid, run, run_within, run_job, units}
use Rattle.tl_base.proofs.Plans.{paid_cases, paid-enough, paid-short}
use Rattle.stage_form.specs.Stage.{Stage, Final, Finished, Exhausted, after, on_question, on_end, fed, staged}
use Rattle.stage_form.specs.Within.{Fitting, given_part, whole, seen_within, answered, within}
use Rattle.stage_form.proofs.Standing.{within_same}
use Rattle.tl_alike.specs.Plans.{DoSame, AsksOnly, MeanSame}

-- ---- runs

-- a run that stops at a question does so at such a one
abbrev pub WaitsOnly : {W Q A R : Type 0} → (Q → Type 0) → Run W Q A R → Type 0
WaitsOnly IsQuestion (Gives r s l) = Unit {0}
WaitsOnly IsQuestion (Stops (Lacks s)) = Unit {0}
WaitsOnly IsQuestion (Stops (Waits q s)) = IsQuestion q

-- two runs come to the same, and stop at such questions alone
abbrev pub RunSame : {W Q A R : Type 0} → (Q → Type 0) → Run W Q A R → Run W Q A R → Type 0
RunSame IsQuestion one other = (one ≡ other) × WaitsOnly IsQuestion one

-- so do two runs of jobs, of each such job
abbrev pub JobsSame : {J W Q A R : Type 0} → (J → Type 0) → (Q → Type 0) → (J → Course W Q A R) → (J → Course W Q A R) → Type 0
JobsSame {J} {W} {Q} {A} IsJob IsQuestion f g =
    (job : J) → IsJob job → (s : State W) (l : List (Given W A)) → RunSame IsQuestion (f job s l) (g job s l)

then_do-same : {W Q A R : Type 0} (IsQuestion : Q → Type 0) (one other : Run W Q A R) (go goes : R → Course W Q A R)
    → RunSame IsQuestion one other
    → ((r : R) (s : State W) (l : List (Given W A)) → RunSame IsQuestion (go r s l) (goes r s l))
    → RunSame IsQuestion (then_do one go) (then_do other goes)
then_do-same {W} {Q} {A} {R} IsQuestion one other go goes h k =
    subst (λ o. RunSame IsQuestion (then_do one go) (then_do o goes)) h.0 (alone one h.1)
  where
    alone : (o : Run W Q A R) → WaitsOnly IsQuestion o → RunSame IsQuestion (then_do o go) (then_do o goes)
    alone (Gives r s l) w = k r s l
    alone (Stops (Lacks s)) w = (refl, tt)
    alone (Stops (Waits q s)) w = (refl, w)

paid-same : {W Q A R : Type 0} (IsQuestion : Q → Type 0) (n : ℕ) (s : State W) (f g : State W → Run W Q A R)
    → RunSame IsQuestion (f (state s.world (s.left - n))) (g (state s.world (s.left - n)))
    → RunSame IsQuestion (paid n s f) (paid n s g)
paid-same IsQuestion n s f g h =
    paid_cases n s (λ o. RunSame IsQuestion o (paid n s g)) f
    (λ k. subst (λ o. RunSame IsQuestion (f (state s.world (s.left - n))) o) (sym (paid-enough n s g k)) h)
    (λ k. (sym (paid-short n s g k), tt))

-- plans that do the same run alike, where the jobs do
pub run-same : {J W Q A R : Type 0} (IsJob : J → Type 0) (IsQuestion : Q → Type 0) (f g : J → Course W Q A R)
    → JobsSame IsJob IsQuestion f g → (p q : Plan J W Q A R) → DoSame IsJob IsQuestion p q
    → (s : State W) (l : List (Given W A)) → RunSame IsQuestion (run f p s l) (run g q s l)
run-same IsJob IsQuestion f g e (Give r) (Give other) h s l = (ap (λ x. Gives x s l) h, tt)
run-same IsJob IsQuestion f g e (Do job go) (Do other goes) h s l =
    then_do-same IsQuestion (f job s l) (g other s l) (λ r. run f (go r)) (λ r. run g (goes r))
    (subst (λ j. RunSame IsQuestion (f job s l) (g j s l)) h.0 (e job h.1 s l))
    (λ r s' l'. run-same IsJob IsQuestion f g e (go r) (goes r) (h.2 r) s' l')
run-same IsJob IsQuestion f g e (AskFor q go) (AskFor other goes) h s [] = (ap (λ x. Stops (Waits x s)) h.0, h.1)
run-same IsJob IsQuestion f g e (AskFor q go) (AskFor other goes) h s (a ∷ l) =
    run-same IsJob IsQuestion f g e (go a.answer) (goes a.answer) (h.2 a.answer) a.state l
run-same IsJob IsQuestion f g e (Read go) (Read goes) h s l =
    run-same IsJob IsQuestion f g e (go s.world) (goes s.world) (h s.world) s l
run-same IsJob IsQuestion f g e (Write w p) (Write other q) h s l =
    subst (λ x. RunSame IsQuestion (run f p (state w s.left) l) (run g q (state x s.left) l)) h.0
    (run-same IsJob IsQuestion f g e p q h.1 (state w s.left) l)
run-same IsJob IsQuestion f g e (Pay n p) (Pay other q) h s l =
    subst (λ m. RunSame IsQuestion (paid n s (λ s'. run f p s' l)) (paid m s (λ s'. run g q s' l))) h.0
    (paid-same IsQuestion n s (λ s'. run f p s' l) (λ s'. run g q s' l)
    (run-same IsJob IsQuestion f g e p q h.1 (state s.world (s.left - n)) l))
run-same IsJob IsQuestion f g e _ _ h s l = absurd h

-- Two tables have plans that do the same for each such job.
abbrev pub PlansSame : {J W Q A R : Type 0} → (J → Type 0) → (Q → Type 0) → (J → Plan J W Q A R) → (J → Plan J W Q A R) → Type 0
PlansSame {J} IsJob IsQuestion plan other = (job : J) → IsJob job → DoSame IsJob IsQuestion (plan job) (other job)

pub run_within-same : {J W Q A R : Type 0} (IsJob : J → Type 0) (IsQuestion : Q → Type 0) (plan other : J → Plan J W Q A R)
    → PlansSame IsJob IsQuestion plan other → (n : ℕ) → JobsSame IsJob IsQuestion (run_within plan n) (run_within other n)
unfolding run_within
run_within-same IsJob IsQuestion plan other e zero job is s l = (refl, tt)
run_within-same IsJob IsQuestion plan other e (suc n) job is s l =
    paid-same IsQuestion 1 s (λ s'. run (run_within plan n) (plan job) s' l) (λ s'. run (run_within other n) (other job) s' l)
    (run-same IsJob IsQuestion (run_within plan n) (run_within other n) (run_within-same IsJob IsQuestion plan other e n)
    (plan job) (other job) (e job is) (state s.world (s.left - 1)) l)

pub run_job-same : {J W Q A R : Type 0} (IsJob : J → Type 0) (IsQuestion : Q → Type 0) (plan other : J → Plan J W Q A R)
    → PlansSame IsJob IsQuestion plan other → JobsSame IsJob IsQuestion (run_job plan) (run_job other)
unfolding run_job
run_job-same IsJob IsQuestion plan other e job is s l = run_within-same IsJob IsQuestion plan other e (units s l) job is s l

-- ---- what shows

shown-same : {W Q A R E : Type 0} (IsQuestion : Q → Type 0) (close : R → E) (one other : Run W Q A R) → RunSame IsQuestion one other
    → (shown close one ≡ shown close other) × AsksOnly IsQuestion (shown close one)
shown-same {W} {Q} {A} {R} IsQuestion close one other h = (ap (λ o. shown close o) h.0, only one h.1)
  where
    only : (o : Run W Q A R) → WaitsOnly IsQuestion o → AsksOnly IsQuestion (shown close o)
    only (Gives r s l) w = tt
    only (Stops (Lacks s)) w = tt
    only (Stops (Waits q s)) w = w

-- Layers whose plans do the same mean the same.
pub plans_mean_same : {J W Q A R E : Type 0} (IsJob : J → Type 0) (IsQuestion : Q → Type 0) (close : R → E)
    (plan other : J → Plan J W Q A R) (p q : Plan J W Q A R)
    → ((job : J) → IsJob job → DoSame IsJob IsQuestion (plan job) (other job)) → DoSame IsJob IsQuestion p q
    → MeanSame {A = A} IsQuestion (λ first later. shown close (run (run_job plan) p first.state later))
    (λ first later. shown close (run (run_job other) q first.state later))
plans_mean_same IsJob IsQuestion close plan other p q e h first later =
    shown-same IsQuestion close (run (run_job plan) p first.state later) (run (run_job other) q first.state later)
    (run-same IsJob IsQuestion (run_job plan) (run_job other) (run_job-same IsJob IsQuestion plan other e) p q h first.state later)

-- ---- layers that stand in a stage

seen_within-only : {W P Q R A B E F : Type 0} (IsQuestion : Q → Type 0) (IsOuter : R → Type 0) (f : Fitting W P Q R A B E F)
    → ((q : Q) → IsQuestion q → IsOuter (f.question q)) → (w : W) (o : Seen P Q E) (go : Seen W R F → Seen W R F)
    → AsksOnly IsQuestion o → ((asked : Seen W R F) → AsksOnly IsOuter asked → AsksOnly IsOuter (go asked))
    → AsksOnly IsOuter (seen_within f w o go)
seen_within-only IsQuestion IsOuter f turns w (Ended e s) go h k = tt
seen_within-only IsQuestion IsOuter f turns w (SpentAt s) go h k = tt
seen_within-only IsQuestion IsOuter f turns w (Asks q s) go h k = k (Asks (f.question q) (whole f w s)) (turns q h)

abbrev AlwaysAsksOnly : {W Q A E : Type 0} → (Q → Type 0) → Meaning W Q A E → Type 0
AlwaysAsksOnly {W} {Q} {A} IsQuestion meaning =
    (first : Given W A) (later : List (Given W A)) → AsksOnly IsQuestion (meaning first later)

answered-only : {W P Q R A B E F : Type 0} (IsQuestion : Q → Type 0) (IsOuter : R → Type 0) (f : Fitting W P Q R A B E F)
    → ((q : Q) → IsQuestion q → IsOuter (f.question q)) → (later : List (Given W B)) (meaning : Meaning P Q A E)
    → AlwaysAsksOnly IsQuestion meaning → (asked : Seen W R F) → AsksOnly IsOuter asked
    → AsksOnly IsOuter (answered f meaning later asked)
answered-only IsQuestion IsOuter f turns [] meaning only asked h = h
answered-only IsQuestion IsOuter f turns (next ∷ later) meaning only asked h =
    seen_within-only IsQuestion IsOuter f turns next.state.world (meaning (given_part f next) [])
    (answered f (after meaning (given_part f next)) later) (only (given_part f next) [])
    (answered-only IsQuestion IsOuter f turns later (after meaning (given_part f next))
    (λ first more. only (given_part f next) (first ∷ more)))

-- Layers that mean the same do so in a stage.
pub within_means_same : {W P Q R A B E F : Type 0} (IsQuestion : Q → Type 0) (IsOuter : R → Type 0) (f : Fitting W P Q R A B E F)
    (one other : Meaning P Q A E) → ((q : Q) → IsQuestion q → IsOuter (f.question q)) → MeanSame IsQuestion one other
    → MeanSame IsOuter (within f one) (within f other)
within_means_same IsQuestion IsOuter f one other turns h first later = (
  within_same f one other (λ g l. (h g l).0) first later,
  seen_within-only IsQuestion IsOuter f turns first.state.world (one (given_part f first) [])
      (answered f (after one (given_part f first)) later) (h (given_part f first) []).1
      (answered-only IsQuestion IsOuter f turns later (after one (given_part f first)) (λ g l. (h (given_part f first) (g ∷ l)).1)),
)

-- ---- what a question comes to

on_question-same : {W Q E : Type 0} (IsQuestion : Q → Type 0) (one other : Seen W Q E) (go goes : Q → State W → Option (Final W E))
    → one ≡ other → AsksOnly IsQuestion one → ((q : Q) (s : State W) → IsQuestion q → go q s ≡ goes q s)
    → on_question one go ≡ on_question other goes
on_question-same {W} {Q} {E} IsQuestion one other go goes e only h = alone one only ∙ ap (λ o. on_question o goes) e
  where
    alone : (o : Seen W Q E) → AsksOnly IsQuestion o → on_question o go ≡ on_question o goes
    alone (Ended end s) w = refl
    alone (SpentAt s) w = refl
    alone (Asks q s) w = h q s w

on_end-same : {W E : Type 0} (one other : Option (Final W E)) (go goes : E → State W → Option (Final W E)) → one ≡ other
    → ((end : E) (s : State W) → go end s ≡ goes end s) → on_end one go ≡ on_end other goes
on_end-same {W} {E} one other go goes e h = alone one ∙ ap (λ o. on_end o goes) e
  where
    alone : (o : Option (Final W E)) → on_end o go ≡ on_end o goes
    alone None = refl
    alone (Some (Finished end s)) = h end s
    alone (Some (Exhausted s)) = refl

-- Two stages whose layers mean the same for each such question.
pub record StagesSame {W Q A E : Type 0} (IsQuestion : Q → Type 0) (stage other : Stage W Q A E) : Type 0 where
  pub go : stage.go ≡ other.go
  pub answer_of : (end : E) → stage.answer_of end ≡ other.answer_of end
  pub meaning : (q : Q) → IsQuestion q → MeanSame IsQuestion (stage.meaning q) (other.meaning q)

pub fed_same : {W Q A E : Type 0} (IsQuestion : Q → Type 0) (stage other : Stage W Q A E) → StagesSame IsQuestion stage other
    → (n : ℕ) (one two : Meaning W Q A E) → MeanSame IsQuestion one two → (answer : Given W A)
    → fed stage n one answer ≡ fed other n two answer
unfolding fed
fed_same IsQuestion stage other same zero one two h answer = refl
fed_same IsQuestion stage other same (suc n) one two h answer =
    on_question-same IsQuestion (one answer []) (two answer [])
    (λ q s. on_end (fed stage n (stage.meaning q) (at stage.go s)) (λ e s'. fed stage n (after one answer) (at (stage.answer_of e) s')))
    (λ q s. on_end (fed other n (other.meaning q) (at other.go s)) (λ e s'. fed other n (after two answer) (at (other.answer_of e) s')))
    (h answer []).0 (h answer []).1
    (λ q s is. on_end-same (fed stage n (stage.meaning q) (at stage.go s)) (fed other n (other.meaning q) (at other.go s))
    (λ e s'. fed stage n (after one answer) (at (stage.answer_of e) s'))
    (λ e s'. fed other n (after two answer) (at (other.answer_of e) s'))
    (fed_same IsQuestion stage other same n (stage.meaning q) (other.meaning q) (same.meaning q is) (at stage.go s)
    ∙ ap (λ a. fed other n (other.meaning q) (at a s)) same.go)
    (λ e s'.
    fed_same IsQuestion stage other same n (after one answer) (after two answer) (λ g l. h answer (g ∷ l)) (at (stage.answer_of e) s')
    ∙ ap (λ a. fed other n (after two answer) (at a s')) (same.answer_of e)))

-- Such a question comes to the same in both.
pub staged_same : {W Q A E : Type 0} (IsQuestion : Q → Type 0) (stage other : Stage W Q A E) → StagesSame IsQuestion stage other
    → (n : ℕ) (q : Q) → IsQuestion q → (s : State W) → staged stage n q s ≡ staged other n q s
staged_same IsQuestion stage other same n q is s =
    fed_same IsQuestion stage other same n (stage.meaning q) (other.meaning q) (same.meaning q is) (at stage.go s)
    ∙ ap (λ a. fed other n (other.meaning q) (at a s)) same.go
