-- Where each job of a table leaves what it should, so does each plan whose parts do, whatever the answers give.
use Rattle.std.proofs.Common.{◌≡◌, ℕ, zero, suc, ◌-◌, ◌≤◌, Bool, true, false, List, [], ◌∷◌, ◌++◌, append_assoc, append-nil, refl, sym, ap}
use Rattle.std.proofs.Common.{◌∙◌, subst, arith}
use Rattle.std.specs.Prelude.{if◌then◌else◌, nat_le}
use Rattle.tl_base.specs.Layer.{State, Given, state}
use Rattle.tl_base.specs.Plan.{Plan, Give, Do, AskFor, Read, Write, Pay, Run, Gives, Stops, Halt, Lacks, Waits, Course, then_do, paid, run}
use Rattle.tl_base.specs.Plan.{run_within, run_job, units, units_of, IsUnchangedByMore}
use Rattle.tl_base.proofs.Plans.{run_within-is, plan_run-by_more}

-- the units of answers in front
units-front : {W A : Type 0} (before over : List (Given W A)) → units_of before ≤ units_of (before ++ over)
units-front [] over = omega arith
units-front (a ∷ before) over = omega (arith, units-front before over)

then-give : {W Q A R : Type 0} (o : Run W Q A R) → then_do o (λ r s l. Gives r s l) ≡ o
then-give (Gives r s l) = refl
then-give (Stops at) = refl

-- Plans of jobs: which worlds are good, what a job needs and leaves, what holds where a question is asked, and what follows from an
-- answer that fits it.
module _ {J W Q A R : Type 0} (plan : J → Plan J W Q A R) (Good : W → Type 0) (Ready : J → W → Type 0)
    (Leaves : J → W → R → W → Type 0) (Asked : Q → W → Type 0)
    (Fits : Q → W → A → W → Type 0) (Follows : Q → State W → Given W A → Type 0) (Fine : Given W A → Type 0)
    (fits : (q : Q) (s : State W) (a : Given W A) → Follows q s a → Fine a → Fits q s.world a.answer a.state.world)
  where
    -- each end of a plan meets a goal
    abbrev pub Meets : (R → W → Type 0) → Plan J W Q A R → W → Type 0
    Meets G (Give r) w = G r w
    Meets G (Do job go) w = Good w × (Ready job w × ((r : R) (v : W) → Leaves job w r v → Meets G (go r) v))
    Meets G (AskFor q go) w = Asked q w × ((a : A) (v : W) → Fits q w a v → Meets G (go a) v)
    Meets G (Read go) w = Meets G (go w) w
    Meets G (Write v p) w = Meets G p v
    Meets G (Pay n p) w = Meets G p w

    abbrev pub FollowsRun : Run W Q A R → Given W A → Type 0
    FollowsRun (Stops (Waits q s)) next = Follows q s next
    FollowsRun (Stops (Lacks s)) next = Unit {0}
    FollowsRun (Gives r s over) next = Unit {0}

    -- each answer follows the question at which a run stands with the answers before it
    abbrev pub FollowAll : (List (Given W A) → Run W Q A R) → List (Given W A) → Type 0
    FollowAll k l = (before after : List (Given W A)) (next : Given W A) → l ≡ before ++ next ∷ after →
        FollowsRun (k before) next

    abbrev pub AllFine : List (Given W A) → Type 0
    AllFine [] = Unit {0}
    AllFine (a ∷ l) = Fine a × AllFine l

    -- how a run ends: with the answers that it used, and the same whatever answers come behind
    pub record Ends (k : List (Given W A) → Run W Q A R) (l : List (Given W A)) (G : R → W → Type 0) (r : R)
        (s : State W) (over : List (Given W A)) : Type 0 where
      pub holds : G r s.world
      pub used : List (Given W A)
      pub split : l ≡ used ++ over
      pub same : (more : List (Given W A)) → k (used ++ more) ≡ Gives r s more

    abbrev pub EndsWell : (List (Given W A) → Run W Q A R) → List (Given W A) → (R → W → Type 0) → Type 0
    EndsWell k l G = (r : R) (s : State W) (over : List (Given W A)) → k l ≡ Gives r s over → Ends k l G r s over

    never : (at : Halt W Q) (r : R) (s : State W) (over : List (Given W A)) → ◌≡◌ {A = Run W Q A R} (Stops at)
        (Gives r s over) → ⊥
    never at r s over e = cc e

    ended : (G : R → W → Type 0) (r q : R) (s t : State W) (l over : List (Given W A)) → G r s.world →
        ◌≡◌ {A = Run W Q A R} (Gives r s l) (Gives q t over) → Ends (λ m. Gives r s m) l G q t over
    ended G r q s t l over h e =
        let er : r ≡ q = cc e in
        let es : s ≡ t = cc e in
        let el : l ≡ over = cc e in
        record {
          holds = subst (λ x. G x t.world) er (subst (λ x. G r x.world) es h);
          used = [];
          split = el;
          same = λ more. ap (λ x. Gives x s more) er ∙ ap (λ x. Gives q x more) es;
        }

    follow-front : (o : Run W Q A R) (k : R → Course W Q A R) (next : Given W A) → FollowsRun (then_do o k) next →
        FollowsRun o next
    follow-front (Gives r s over) k next h = tt
    follow-front (Stops (Lacks s)) k next h = tt
    follow-front (Stops (Waits q s)) k next h = h

    fine-behind : (used over : List (Given W A)) → AllFine (used ++ over) → AllFine over
    fine-behind [] over h = h
    fine-behind (a ∷ used) over h = fine-behind used over h.1

    -- a payment before a run
    paid-ends : (n : ℕ) (s : State W) (k : State W → List (Given W A) → Run W Q A R) (l : List (Given W A))
        (G : R → W → Type 0) →
        (FollowAll (k (state s.world (s.left - n))) l → EndsWell (k (state s.world (s.left - n))) l G) →
        FollowAll (λ m. paid n s (λ t. k t m)) l → EndsWell (λ m. paid n s (λ t. k t m)) l G
    paid-ends n s k l G behind = by (nat_le n s.left) refl
      where
        pays : (b : Bool) → nat_le n s.left ≡ b → (m : List (Given W A)) →
            paid n s (λ t. k t m) ≡ (if b then k (state s.world (s.left - n)) m else Stops (Lacks s))
        pays b e m = ap (λ (c : Bool). if c then k (state s.world (s.left - n)) m else Stops (Lacks s)) e

        by : (b : Bool) → nat_le n s.left ≡ b → FollowAll (λ m. paid n s (λ t. k t m)) l →
            EndsWell (λ m. paid n s (λ t. k t m)) l G
        by false e all r t over is = absurd (never (Lacks s) r t over (sym (pays false e l) ∙ is))
        by true e all r t over is =
            let inner = behind (λ before after next split. subst (λ o. FollowsRun o next) (pays true e before)
            (all before after next split))
            r t over (sym (pays true e l) ∙ is) in
            record {
              holds = inner.holds;
              used = inner.used;
              split = inner.split;
              same = λ more. pays true e (inner.used ++ more) ∙ inner.same more;
            }

    -- where each job leaves what it should
    abbrev pub EachEnds : (J → Course W Q A R) → Type 0
    EachEnds f =
        (job : J) (s : State W) (l : List (Given W A)) → Good s.world → Ready job s.world → FollowAll (f job s) l →
        AllFine l →
        EndsWell (f job s) l (Leaves job s.world)

    done-ends : (f : J → Course W Q A R) (job : J) (go : R → Plan J W Q A R) (s : State W) (l : List (Given W A))
        (G : R → W → Type 0) →
        EndsWell (f job s) l (Leaves job s.world) →
        ((r : R) (t : State W) (m : List (Given W A)) → Leaves job s.world r t.world → FollowAll (run f (go r) t) m →
        AllFine m →
        EndsWell (run f (go r) t) m G) →
        FollowAll (run f (Do job go) s) l → AllFine l → EndsWell (run f (Do job go) s) l G
    done-ends f job go s l G first next all fine r t over is = by (f job s l) refl is
      where
        by : (o : Run W Q A R) → f job s l ≡ o → then_do o (λ q. run f (go q)) ≡ Gives r t over →
            Ends (run f (Do job go) s) l G r t over
        by (Stops at) e is = absurd (never at r t over is)
        by (Gives q x m) e is =
            let one = first q x m e in
            let whole : (more : List (Given W A)) → run f (Do job go) s (one.used ++ more) ≡ run f (go q) x more =
            λ more. ap (λ o. then_do o (λ z. run f (go z))) (one.same more) in
            let two = next q x m one.holds
            (λ before after a split. subst (λ o. FollowsRun o a) (whole before)
            (all (one.used ++ before) after a (one.split ∙
            (ap (λ z. one.used ++ z) split ∙ sym (append_assoc one.used before (a ∷ after))))))
            (fine-behind one.used m (subst AllFine one.split fine)) r t over is in
            record {
              holds = two.holds;
              used = one.used ++ two.used;
              split = one.split ∙ (ap (λ z. one.used ++ z) two.split ∙ sym (append_assoc one.used two.used over));
              same = λ more. ap (λ z. run f (Do job go) s z) (append_assoc one.used two.used more) ∙
                  (whole (two.used ++ more) ∙ two.same more);
            }

    plan-ends : (f : J → Course W Q A R) → EachEnds f → (G : R → W → Type 0) (p : Plan J W Q A R) (s : State W)
        (l : List (Given W A)) → Meets G p s.world →
        FollowAll (run f p s) l → AllFine l → EndsWell (run f p s) l G
    plan-ends f each G (Give r) s l h all fine = λ q t over is. ended G r q s t l over h is
    plan-ends f each G (Do job go) s l h all fine =
        done-ends f job go s l G
        (each job s l h.0 h.1.0 (λ before after next split. follow-front (f job s before) (λ r. run f (go r)) next
        (all before after next split)) fine)
        (λ r t m out. plan-ends f each G (go r) t m (h.1.1 r t.world out)) all fine
    plan-ends f each G (AskFor q go) s [] h all fine = λ r t over is. absurd (never (Waits q s) r t over is)
    plan-ends f each G (AskFor q go) s (a ∷ l) h all fine = λ r t over is.
        let rest = plan-ends f each G (go a.answer) a.state l
        (h.1 a.answer a.state.world (fits q s a (all [] l a refl) fine.0))
        (λ before after next split. all (a ∷ before) after next (ap (λ z. a ∷ z) split)) fine.1 r t over is in
        record {
          holds = rest.holds;
          used = a ∷ rest.used;
          split = ap (λ z. a ∷ z) rest.split;
          same = rest.same;
        }
    plan-ends f each G (Read go) s l h all fine = plan-ends f each G (go s.world) s l h all fine
    plan-ends f each G (Write w p) s l h all fine = plan-ends f each G p (state w s.left) l h all fine
    plan-ends f each G (Pay n p) s l h all fine =
        paid-ends n s (λ t m. run f p t m) l G (λ inner. plan-ends f each G p (state s.world (s.left - n)) l h inner
        fine) all

    -- ---- jobs

    abbrev pub EachMeets : Type 0
    EachMeets = (job : J) (w : W) → Good w → Ready job w → Meets (Leaves job w) (plan job) w

    within-ends : EachMeets → (n : ℕ) → EachEnds (run_within plan n)
    unfolding run_within
    within-ends each zero job s l good ready all fine = λ r t over is. absurd (never (Lacks s) r t over is)
    within-ends each (suc n) job s l good ready all fine =
        paid-ends 1 s (λ t m. run (run_within plan n) (plan job) t m) l (Leaves job s.world)
        (λ inner. plan-ends (run_within plan n) (within-ends each n) (Leaves job s.world) (plan job)
        (state s.world (s.left - 1)) l
        (each job s.world good ready) inner fine) all

    -- a run that used all its answers is the same with more behind them
    more-behind : (job : J) (s : State W) (used more : List (Given W A)) (r : R) (t : State W) →
        run_job plan job s used ≡ Gives r t [] → run_job plan job s (used ++ more) ≡ Gives r t more
    more-behind job s used more r t e =
        sym (then-give (run_job plan job s (used ++ more))) ∙
        subst (λ (o : Run W Q A R). IsUnchangedByMore more (then_do o (λ q x l. Gives q x l))
        (run (run_job plan) (Do job Give) s (used ++ more)))
        e (plan_run-by_more plan (Do job Give) s used more)

    job-ends : EachMeets → EachEnds (run_job plan)
    job-ends each job s l good ready all fine r t over is =
        let n = units s l in
        let inner = within-ends each n job s l good ready
        (λ before after next split. subst (λ o. FollowsRun o next)
        (sym (run_within-is plan job s before n (omega
        (arith, ap units_of split, units-front before (next ∷ after)))))
        (all before after next split)) fine r t over (run_within-is plan job s l n (omega arith) ∙ is) in
        let whole : run_job plan job s inner.used ≡ Gives r t [] =
        sym (run_within-is plan job s inner.used n (omega
        (arith, ap units_of inner.split, units-front inner.used over))) ∙
        (ap (run_within plan n job s) (sym (append-nil inner.used)) ∙ inner.same []) in
        record {
          holds = inner.holds;
          used = inner.used;
          split = inner.split;
          same = λ more. more-behind job s inner.used more r t whole;
        }

    -- where a run ends, its goal is met
    pub meets : EachMeets → (G : R → W → Type 0) (p : Plan J W Q A R) (s : State W) (l : List (Given W A)) →
        Meets G p s.world →
        FollowAll (run (run_job plan) p s) l → AllFine l → (r : R) (t : State W) (over : List (Given W A)) →
        run (run_job plan) p s l ≡ Gives r t over → G r t.world
    meets each G p s l h all fine r t over is = (plan-ends (run_job plan) (job-ends each) G p s l h all fine r t over
        is).holds

    -- ---- where a run asks

    abbrev pub AsksWell : (List (Given W A) → Run W Q A R) → List (Given W A) → Type 0
    AsksWell k l = (q : Q) (t : State W) → k l ≡ Stops (Waits q t) → Asked q t.world

    gives-none : (r : R) (s : State W) (over : List (Given W A)) (q : Q) (t : State W) → ◌≡◌ {A = Run W Q A R} (Gives r s over)
        (Stops (Waits q t)) → ⊥
    gives-none r s over q t e = cc e

    lacks-none : (s : State W) (q : Q) (t : State W) → ◌≡◌ {A = Run W Q A R} (Stops (Lacks s)) (Stops (Waits q t)) → ⊥
    lacks-none s q t e = cc e

    waits-same : (p q : Q) (s t : State W) → Asked p s.world → ◌≡◌ {A = Run W Q A R} (Stops (Waits p s)) (Stops (Waits q t)) →
        Asked q t.world
    waits-same p q s t h e =
        let eq : p ≡ q = cc e in
        let es : s ≡ t = cc e in
        subst (λ x. Asked x t.world) eq (subst (λ x. Asked p x.world) es h)

    paid-asks : (n : ℕ) (s : State W) (k : State W → List (Given W A) → Run W Q A R) (l : List (Given W A)) →
        (FollowAll (k (state s.world (s.left - n))) l → AsksWell (k (state s.world (s.left - n))) l) →
        FollowAll (λ m. paid n s (λ t. k t m)) l → AsksWell (λ m. paid n s (λ t. k t m)) l
    paid-asks n s k l behind = by (nat_le n s.left) refl
      where
        pays : (b : Bool) → nat_le n s.left ≡ b → (m : List (Given W A)) →
            paid n s (λ t. k t m) ≡ (if b then k (state s.world (s.left - n)) m else Stops (Lacks s))
        pays b e m = ap (λ (c : Bool). if c then k (state s.world (s.left - n)) m else Stops (Lacks s)) e

        by : (b : Bool) → nat_le n s.left ≡ b → FollowAll (λ m. paid n s (λ t. k t m)) l →
            AsksWell (λ m. paid n s (λ t. k t m)) l
        by false e all q t is = absurd (lacks-none s q t (sym (pays false e l) ∙ is))
        by true e all q t is =
            behind (λ before after next split. subst (λ o. FollowsRun o next) (pays true e before)
            (all before after next split)) q t (sym (pays true e l) ∙ is)

    abbrev pub EachAsks : (J → Course W Q A R) → Type 0
    EachAsks f =
        (job : J) (s : State W) (l : List (Given W A)) → Good s.world → Ready job s.world → FollowAll (f job s) l →
        AllFine l → AsksWell (f job s) l

    done-asks : (f : J → Course W Q A R) (job : J) (go : R → Plan J W Q A R) (s : State W) (l : List (Given W A)) →
        EndsWell (f job s) l (Leaves job s.world) → AsksWell (f job s) l →
        ((r : R) (t : State W) (m : List (Given W A)) → Leaves job s.world r t.world → FollowAll (run f (go r) t) m →
        AllFine m → AsksWell (run f (go r) t) m) →
        FollowAll (run f (Do job go) s) l → AllFine l → AsksWell (run f (Do job go) s) l
    done-asks f job go s l first waits next all fine q t is = by (f job s l) refl is
      where
        by : (o : Run W Q A R) → f job s l ≡ o → then_do o (λ z. run f (go z)) ≡ Stops (Waits q t) → Asked q t.world
        by (Stops at) e is = waits q t (e ∙ is)
        by (Gives z x m) e is =
            let one = first z x m e in
            let whole : (more : List (Given W A)) → run f (Do job go) s (one.used ++ more) ≡ run f (go z) x more =
            λ more. ap (λ o. then_do o (λ y. run f (go y))) (one.same more) in
            next z x m one.holds
            (λ before after a split. subst (λ o. FollowsRun o a) (whole before)
            (all (one.used ++ before) after a (one.split ∙
            (ap (λ y. one.used ++ y) split ∙ sym (append_assoc one.used before (a ∷ after))))))
            (fine-behind one.used m (subst AllFine one.split fine)) q t is

    plan-asks : (f : J → Course W Q A R) → EachEnds f → EachAsks f → (G : R → W → Type 0) (p : Plan J W Q A R) (s : State W)
        (l : List (Given W A)) → Meets G p s.world →
        FollowAll (run f p s) l → AllFine l → AsksWell (run f p s) l
    plan-asks f each asks G (Give r) s l h all fine = λ q t is. absurd (gives-none r s l q t is)
    plan-asks f each asks G (Do job go) s l h all fine =
        let front : FollowAll (f job s) l = λ before after next split. follow-front (f job s before) (λ r. run f (go r)) next
        (all before after next split) in
        done-asks f job go s l (each job s l h.0 h.1.0 front fine) (asks job s l h.0 h.1.0 front fine)
        (λ r t m out. plan-asks f each asks G (go r) t m (h.1.1 r t.world out)) all fine
    plan-asks f each asks G (AskFor p go) s [] h all fine = λ q t is. waits-same p q s t h.0 is
    plan-asks f each asks G (AskFor p go) s (a ∷ l) h all fine =
        plan-asks f each asks G (go a.answer) a.state l
        (h.1 a.answer a.state.world (fits p s a (all [] l a refl) fine.0))
        (λ before after next split. all (a ∷ before) after next (ap (λ z. a ∷ z) split)) fine.1
    plan-asks f each asks G (Read go) s l h all fine = plan-asks f each asks G (go s.world) s l h all fine
    plan-asks f each asks G (Write w p) s l h all fine = plan-asks f each asks G p (state w s.left) l h all fine
    plan-asks f each asks G (Pay n p) s l h all fine =
        paid-asks n s (λ t m. run f p t m) l (λ inner. plan-asks f each asks G p (state s.world (s.left - n)) l h inner
        fine) all

    within-asks : EachMeets → (n : ℕ) → EachAsks (run_within plan n)
    unfolding run_within
    within-asks each zero job s l good ready all fine = λ q t is. absurd (lacks-none s q t is)
    within-asks each (suc n) job s l good ready all fine =
        paid-asks 1 s (λ t m. run (run_within plan n) (plan job) t m) l
        (λ inner. plan-asks (run_within plan n) (within-ends each n) (within-asks each n) (Leaves job s.world) (plan job)
        (state s.world (s.left - 1)) l
        (each job s.world good ready) inner fine) all

    job-asks : EachMeets → EachAsks (run_job plan)
    job-asks each job s l good ready all fine q t is =
        let n = units s l in
        within-asks each n job s l good ready
        (λ before after next split. subst (λ o. FollowsRun o next)
        (sym (run_within-is plan job s before n (omega
        (arith, ap units_of split, units-front before (next ∷ after)))))
        (all before after next split)) fine q t (run_within-is plan job s l n (omega arith) ∙ is)

    -- where a run asks, what holds of its question is so
    pub asks : EachMeets → (G : R → W → Type 0) (p : Plan J W Q A R) (s : State W) (l : List (Given W A)) →
        Meets G p s.world →
        FollowAll (run (run_job plan) p s) l → AllFine l → (q : Q) (t : State W) →
        run (run_job plan) p s l ≡ Stops (Waits q t) → Asked q t.world
    asks each G p s l h all fine = plan-asks (run_job plan) (job-ends each) (job-asks each) G p s l h all fine
