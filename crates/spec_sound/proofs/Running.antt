-- Where each step of a plan goes to a sound world that follows, so does its run, whatever is answered.
use Rattle.std.proofs.Common.{◌≡◌, ℕ, zero, suc, ◌-◌, ◌≤◌, Bool, true, false, List, [], ◌∷◌, ◌++◌, append_assoc, append-nil, refl, sym, ap}
use Rattle.std.proofs.Common.{◌∙◌, subst, arith}
use Rattle.std.specs.Prelude.{if◌then◌else◌, nat_le}
use Rattle.tl_base.specs.Layer.{State, state}
use Rattle.tl_base.specs.Plan.{Give, Do, AskFor, Read, Write, Pay, Run, Gives, Stops, Halt, Lacks, Waits, Course, then_do, paid, run}
use Rattle.tl_base.specs.Plan.{run_within, run_job, shown, units, units_of, IsUnchangedByMore}
use Rattle.tl_base.proofs.Plans.{run_within-is, plan_run-by_more}
use Rattle.tl_tree.specs.Code.{Items}
use Rattle.terra_term.specs.WellTyped.{is_placed}
use Rattle.exotype.specs.World.{StageState}
use Rattle.check_sound.specs.Sound.{IsSound, AreStatements}
use Rattle.spec_model.specs.declared.end.End.{End}
use Rattle.spec_model.specs.declared.end.End.TheVariants.{Found, Joined}
use Rattle.spec_model.specs.declared.job.Job.{Job}
use Rattle.spec_model.specs.declared.job.SpecJob.{SpecJob}
use Rattle.spec_model.specs.declared.question.SpecQuestion.{SpecQuestion}
use Rattle.spec_model.specs.declared.question.SpecAnswer.{SpecAnswer}
use Rattle.spec_model.specs.Plans.{SpecPlan}
use Rattle.spec_model.specs.Meaning.{SpecGiven, job_plan, first_plan, close, spec}
use Rattle.check_sound.specs.Layers.{IsBackFor, StaysSound, LayerKeepsSound}
use Rattle.spec_sound.proofs.Following.{Next, next-itself, next-twice}

-- ---- plans

-- what is found has a place of a text, and what a statement became is statements
abbrev pub EndIsSound : End → StageState → Type 0
EndIsSound (Found v place) w = is_placed place ≡ true
EndIsSound (Joined ts) w = AreStatements w ts
EndIsSound _ w = Unit {0}

-- each step goes to a sound world that follows, whatever jobs leave and whatever is answered
abbrev pub Fine : SpecPlan → StageState → Type 0
Fine (Give r) w = EndIsSound r w
Fine (Do job go) w = (r : End) (v : StageState) → Next w v → EndIsSound r v → Fine (go r) v
Fine (AskFor q go) w = (a : SpecAnswer) (v : StageState) → Next w v → Fine (go a) v
Fine (Read go) w = Fine (go w) w
Fine (Write v p) w = Next w v × Fine p v
Fine (Pay n p) w = Fine p w

-- ---- runs

abbrev SpecRun : Type 0
SpecRun = Run StageState SpecQuestion SpecAnswer End

abbrev SpecCourse : Type 0
SpecCourse = List SpecGiven → SpecRun

abbrev AnswersRun : SpecRun → SpecGiven → Type 0
AnswersRun (Stops (Waits q s)) next = Next s.world next.state.world
AnswersRun (Stops (Lacks s)) next = Unit {0}
AnswersRun (Gives r s over) next = Unit {0}

abbrev AllAnswer : SpecCourse → List SpecGiven → Type 0
AllAnswer k l = (before after : List SpecGiven) (next : SpecGiven) → l ≡ before ++ next ∷ after →
    AnswersRun (k before) next

-- a run waits in a sound world
abbrev HaltIsSound : Halt StageState SpecQuestion → Type 0
HaltIsSound (Lacks s) = Unit {0}
HaltIsSound (Waits q s) = IsSound s.world

-- how a run ends: with the answers that it used, in a world that follows the first, and the same whatever answers come
-- behind
record Ends (k : SpecCourse) (l : List SpecGiven) (w : StageState) (r : End) (s : State StageState)
    (over : List SpecGiven) : Type 0 where
  holds : EndIsSound r s.world
  used : List SpecGiven
  split : l ≡ used ++ over
  follows : Next w s.world
  same : (more : List SpecGiven) → k (used ++ more) ≡ Gives r s more

abbrev Goes : SpecCourse → List SpecGiven → StageState → SpecRun → Type 0
Goes k l w (Gives r s over) = Ends k l w r s over
Goes k l w (Stops at) = HaltIsSound at

-- a run after a write
written : (k : SpecCourse) (l : List SpecGiven) (w v : StageState) (o : SpecRun) → Next w v → Goes k l v o →
    Goes k l w o
written k l w v (Gives r s over) f g = record {
  holds = g.holds;
  used = g.used;
  split = g.split;
  follows = next-twice w v s.world f g.follows;
  same = g.same;
}
written k l w v (Stops at) f g = g

-- a run after an answer
answered : (k h : SpecCourse) (a : SpecGiven) (l : List SpecGiven) (w : StageState) (o : SpecRun) →
    ((m : List SpecGiven) → h (a ∷ m) ≡ k m) → Next w a.state.world → Goes k l a.state.world o → Goes h (a ∷ l) w o
answered k h a l w (Gives r s over) e f g = record {
  holds = g.holds;
  used = a ∷ g.used;
  split = ap (λ z. a ∷ z) g.split;
  follows = next-twice w a.state.world s.world f g.follows;
  same = λ more. e (g.used ++ more) ∙ g.same more;
}
answered k h a l w (Stops at) e f g = g

-- a run after one that ended
behind : (k h : SpecCourse) (used m l : List SpecGiven) (w v : StageState) (o : SpecRun) →
    l ≡ used ++ m → Next w v → ((more : List SpecGiven) → h (used ++ more) ≡ k more) →
    Goes k m v o → Goes h l w o
behind k h used m l w v (Gives r s over) split f e g = record {
  holds = g.holds;
  used = used ++ g.used;
  split = split ∙ (ap (λ z. used ++ z) g.split ∙ sym (append_assoc used g.used over));
  follows = next-twice w v s.world f g.follows;
  same = λ more. ap h (append_assoc used g.used more) ∙ (e (g.used ++ more) ∙ g.same more);
}
behind k h used m l w v (Stops at) split f e g = g

-- a run by the same steps
same-course : (k h : SpecCourse) (l : List SpecGiven) (w : StageState) (o : SpecRun) →
    ((m : List SpecGiven) → h m ≡ k m) → Goes k l w o → Goes h l w o
same-course k h l w (Gives r s over) e g = record {
  holds = g.holds;
  used = g.used;
  split = g.split;
  follows = g.follows;
  same = λ more. e (g.used ++ more) ∙ g.same more;
}
same-course k h l w (Stops at) e g = g

answers-front : (o : SpecRun) (k : End → Course StageState SpecQuestion SpecAnswer End) (next : SpecGiven) →
    AnswersRun (then_do o k) next → AnswersRun o next
answers-front (Gives r s over) k next h = tt
answers-front (Stops (Lacks s)) k next h = tt
answers-front (Stops (Waits q s)) k next h = h

-- a payment before a run
paid-goes : (n : ℕ) (s : State StageState) (k : State StageState → SpecCourse) (l : List SpecGiven) →
    (AllAnswer (k (state s.world (s.left - n))) l →
    Goes (k (state s.world (s.left - n))) l s.world (k (state s.world (s.left - n)) l)) →
    AllAnswer (λ m. paid n s (λ t. k t m)) l → Goes (λ m. paid n s (λ t. k t m)) l s.world (paid n s (λ t. k t l))
paid-goes n s k l next all = by (nat_le n s.left) refl
  where
    pays : (b : Bool) → nat_le n s.left ≡ b → (m : List SpecGiven) →
        paid n s (λ t. k t m) ≡ (if b then k (state s.world (s.left - n)) m else Stops (Lacks s))
    pays b e m = ap (λ (c : Bool). if c then k (state s.world (s.left - n)) m else Stops (Lacks s)) e

    by : (b : Bool) → nat_le n s.left ≡ b → Goes (λ m. paid n s (λ t. k t m)) l s.world (paid n s (λ t. k t l))
    by false e = subst (λ o. Goes (λ m. paid n s (λ t. k t m)) l s.world o) (sym (pays false e l)) tt
    by true e =
        subst (λ o. Goes (λ m. paid n s (λ t. k t m)) l s.world o) (sym (pays true e l))
        (same-course (k (state s.world (s.left - n))) (λ m. paid n s (λ t. k t m)) l s.world
        (k (state s.world (s.left - n)) l) (pays true e)
        (next (λ before after a split. subst (λ o. AnswersRun o a) (pays true e before) (all before after a split))))

abbrev EachGoes : (Job → State StageState → SpecCourse) → Type 0
EachGoes f =
    (job : Job) (s : State StageState) (l : List SpecGiven) → IsSound s.world → AllAnswer (f job s) l →
    Goes (f job s) l s.world (f job s l)

done-goes : (f : Job → Course StageState SpecQuestion SpecAnswer End) (job : Job) (go : End → SpecPlan)
    (s : State StageState) (l : List SpecGiven) → Goes (f job s) l s.world (f job s l) →
    ((r : End) (x : State StageState) (m : List SpecGiven) → EndIsSound r x.world → Next s.world x.world →
    AllAnswer (run f (go r) x) m → Goes (run f (go r) x) m x.world (run f (go r) x m)) →
    AllAnswer (run f (Do job go) s) l → Goes (run f (Do job go) s) l s.world (run f (Do job go) s l)
done-goes f job go s l first next all = by (f job s l) first
  where
    by : (o : SpecRun) → Goes (f job s) l s.world o →
        Goes (run f (Do job go) s) l s.world (then_do o (λ q. run f (go q)))
    by (Stops at) one = one
    by (Gives r x m) one =
        let whole : (more : List SpecGiven) → run f (Do job go) s (one.used ++ more) ≡ run f (go r) x more =
        λ more. ap (λ o. then_do o (λ q. run f (go q))) (one.same more) in
        behind (run f (go r) x) (run f (Do job go) s) one.used m l s.world x.world (run f (go r) x m) one.split
        one.follows whole
        (next r x m one.holds one.follows
        (λ before after a split. subst (λ o. AnswersRun o a) (whole before)
        (all (one.used ++ before) after a (one.split ∙
        (ap (λ z. one.used ++ z) split ∙ sym (append_assoc one.used before (a ∷ after)))))))

plan-goes : (f : Job → Course StageState SpecQuestion SpecAnswer End) → EachGoes f → (p : SpecPlan)
    (s : State StageState) (l : List SpecGiven) → IsSound s.world → Fine p s.world → AllAnswer (run f p s) l →
    Goes (run f p s) l s.world (run f p s l)
plan-goes f each (Give r) s l sound h all = record {
  holds = h;
  used = [];
  split = refl;
  follows = next-itself s.world sound;
  same = λ more. refl;
}
plan-goes f each (Do job go) s l sound h all =
    done-goes f job go s l
    (each job s l sound (λ before after next split. answers-front (f job s before) (λ r. run f (go r)) next
    (all before after next split)))
    (λ r x m leaves follows inner. plan-goes f each (go r) x m follows.sound (h r x.world follows leaves) inner) all
plan-goes f each (AskFor q go) s [] sound h all = sound
plan-goes f each (AskFor q go) s (a ∷ l) sound h all =
    let follows = all [] l a refl in
    answered (run f (go a.answer) a.state) (run f (AskFor q go) s) a l s.world (run f (go a.answer) a.state l)
    (λ m. refl)
    follows (plan-goes f each (go a.answer) a.state l follows.sound (h a.answer a.state.world follows)
    (λ before after next split. all (a ∷ before) after next (ap (λ z. a ∷ z) split)))
plan-goes f each (Read go) s l sound h all = plan-goes f each (go s.world) s l sound h all
plan-goes f each (Write w p) s l sound h all =
    written (run f (Write w p) s) l s.world w (run f p (state w s.left) l) h.0
    (plan-goes f each p (state w s.left) l h.0.sound h.1 all)
plan-goes f each (Pay n p) s l sound h all =
    paid-goes n s (λ t m. run f p t m) l
    (λ inner. plan-goes f each p (state s.world (s.left - n)) l sound h inner) all

-- ---- jobs

-- the plan of each job is fine in a sound world
abbrev pub EachFine : Items → Type 0
EachFine items = (job : Job) (w : StageState) → IsSound w → Fine (job_plan items job) w

module _ (items : Items) (each : EachFine items) where
  abbrev plan : Job → SpecPlan
  plan = job_plan items

  within-goes : (n : ℕ) → EachGoes (run_within plan n)
  unfolding run_within
  within-goes zero job s l sound all = tt
  within-goes (suc n) job s l sound all =
      paid-goes 1 s (λ t m. run (run_within plan n) (plan job) t m) l
      (λ inner. plan-goes (run_within plan n) (within-goes n) (plan job) (state s.world (s.left - 1)) l sound
      (each job s.world sound) inner) all

  -- the units of answers in front
  units-front : (before over : List SpecGiven) → units_of before ≤ units_of (before ++ over)
  units-front [] over = omega arith
  units-front (a ∷ before) over = omega (arith, units-front before over)

  then-give : (o : SpecRun) → then_do o (λ r s l. Gives r s l) ≡ o
  then-give (Gives r s l) = refl
  then-give (Stops at) = refl

  -- a run that used all its answers is the same with more behind them
  more-behind : (job : Job) (s : State StageState) (used more : List SpecGiven) (r : End) (t : State StageState) →
      run_job plan job s used ≡ Gives r t [] → run_job plan job s (used ++ more) ≡ Gives r t more
  more-behind job s used more r t e =
      sym (then-give (run_job plan job s (used ++ more))) ∙
      subst (λ (o : SpecRun). IsUnchangedByMore more (then_do o (λ q x l. Gives q x l))
      (run (run_job plan) (Do job Give) s (used ++ more)))
      e (plan_run-by_more plan (Do job Give) s used more)

  -- as far as so many units suffice
  enough : (job : Job) (s : State StageState) (l front over : List SpecGiven) → l ≡ front ++ over →
      run_within plan (units s l) job s front ≡ run_job plan job s front
  enough job s l front over split =
      run_within-is plan job s front (units s l) (omega (arith, ap units_of split, units-front front over))

  job-goes : EachGoes (run_job plan)
  job-goes job s l sound all = by (run_job plan job s l)
      (subst (λ o. Goes (run_within plan (units s l) job s) l s.world o) (enough job s l l [] (sym (append-nil l)))
      (within-goes (units s l) job s l sound
      (λ before after next split. subst (λ o. AnswersRun o next) (sym (enough job s l before (next ∷ after) split))
      (all before after next split))))
    where
      by : (o : SpecRun) → Goes (run_within plan (units s l) job s) l s.world o → Goes (run_job plan job s) l s.world o
      by (Stops at) g = g
      by (Gives r x over) g =
          let whole : run_job plan job s g.used ≡ Gives r x [] =
          sym (enough job s l g.used over g.split) ∙
          (ap (run_within plan (units s l) job s) (sym (append-nil g.used)) ∙ g.same []) in
          record {
            holds = g.holds;
            used = g.used;
            split = g.split;
            follows = g.follows;
            same = λ more. more-behind job s g.used more r x whole;
          }

-- ---- what shows

answers-shown : (o : SpecRun) (next : SpecGiven) → IsBackFor (shown close o) next → AnswersRun o next
answers-shown (Gives r s over) next h = tt
answers-shown (Stops (Lacks s)) next h = tt
answers-shown (Stops (Waits q s)) next h = record { sound = h.0; leads = h.1 }

shows : (k : SpecCourse) (first : SpecGiven) (l : List SpecGiven) (o : SpecRun) → Goes k l first.state.world o →
    StaysSound first (shown close o)
shows k first l (Gives r s over) g = (g.follows.sound, g.follows.leads)
shows k first l (Stops (Lacks s)) g = tt
shows k first l (Stops (Waits q s)) g = g

-- where plans are fine, the layer keeps worlds sound
pub keeps-sound : (items : Items) (task : SpecJob) → EachFine items →
    ((w : StageState) → IsSound w → Fine (first_plan items task) w) → LayerKeepsSound (spec items task)
keeps-sound items task each fine first later sound back =
    let course = run (run_job (job_plan items)) (first_plan items task) first.state in
    shows course first later (course later)
    (plan-goes (run_job (job_plan items)) (job-goes items each) (first_plan items task) first.state later sound
    (fine first.state.world sound)
    (λ before after next split. answers-shown (course before) next (back before after next split)))
