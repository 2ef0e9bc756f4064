-- Checks of all functions: what comes of one function, and of more steps.
use Rattle.std.proofs.Common.{◌≡◌, ℕ, zero, suc, ◌+◌, ◌≤◌, Bool, true, false, if◌then◌else◌, refl, ap, ◌∙◌, arith}
use Rattle.std.proofs.Common.{List, [], ◌∷◌, ◌++◌, length, Option, Some, None}
use Rattle.std.specs.Prelude.{nat_lt}
use Rattle.tl_base.specs.Layer.{State, at}
use Rattle.stage_form.specs.Stage.{Final, Finished, Exhausted}
use Rattle.stage_form.proofs.Reaching.{fed-more}
use Rattle.tl_tree.specs.Code.{Items}
use Rattle.spec_model.specs.Making.{is_undefined}
use Rattle.stage_check.specs.declared.jobs.Job.{Job}
use Rattle.stage_check.specs.declared.jobs.Job.TheVariants as jobs
use Rattle.stage_check.specs.declared.jobs.JobEnd.{JobEnd}
use Rattle.stage_check.specs.declared.jobs.JobEnd.TheVariants as ends
use Rattle.stage_model.specs.declared.staging.CheckLine.{CheckLine}
use Rattle.stage_check.specs.declared.jobs.Asked.TheVariants as asked
use Rattle.stage_model.specs.Stage.{StagingState, stage, job_staged}
use Rattle.stage_model.specs.Staging.{Checked, checked_with, after_check, checks, line_of}

-- ---- at a larger n

-- what a job comes to, it comes to at each larger n
pub staged-more : (items : Items) (n m : ℕ) (job : Job) (s : State StagingState) (out : Final StagingState JobEnd)
    → job_staged items n job s ≡ Some out → n ≤ m → job_staged items m job s ≡ Some out
staged-more items n m job s out is more =
    let st = stage items in fed-more st n m (st.meaning (asked.Job job)) (at st.go s) out is more

choose-more : {A : Type 0} (b : Bool) (x x' y y' : Option A) (out : A) → (x ≡ Some out → x' ≡ Some out)
    → (y ≡ Some out → y' ≡ Some out) → (if b then x else y) ≡ Some out → (if b then x' else y') ≡ Some out
choose-more true x x' y y' out f g is = f is
choose-more false x x' y y' out f g is = g is

pub after-more : {A B : Type 0} (o o' : Option (Final StagingState A)) (go go' : A → State StagingState → Option (Final StagingState B))
    → ((out : Final StagingState A) → o ≡ Some out → o' ≡ Some out)
    → ((e : A) (s : State StagingState) (out : Final StagingState B) → go e s ≡ Some out → go' e s ≡ Some out)
    → (out : Final StagingState B) → after_check o go ≡ Some out → after_check o' go' ≡ Some out
after-more None o' go go' f g out is = cc
after-more (Some (Finished e s)) o' go go' f g out is = rw (f (Finished e s) refl) (g e s out is)
after-more (Some (Exhausted s)) o' go go' f g out is = rw (f (Exhausted s) refl) is

-- what follows a check
abbrev pub following : Items → ℕ → ℕ → List CheckLine → JobEnd → State StagingState → Option (Final StagingState Checked)
following items n i lines end next = checks items n (i + 1) (lines ++ line_of (record { 0 = i }) end ∷ []) next

-- one function is checked, and the next ones follow
abbrev pub checked : Items → ℕ → ℕ → List CheckLine → State StagingState → Option (Final StagingState Checked)
checked items n i lines s = after_check (job_staged items n (jobs.Check (record { 0 = i })) s) (following items n i lines)

-- the same unless it isn't defined
abbrev one : Items → ℕ → ℕ → List CheckLine → State StagingState → Option (Final StagingState Checked)
one items n i lines s =
    if is_undefined s.world.typing.stage (record { 0 = i }) then checks items n (i + 1) lines s else checked items n i lines s

abbrev pub done : List CheckLine → State StagingState → Option (Final StagingState Checked)
done lines s = Some (Finished (checked_with (ends.Values []) lines) s)

-- what the checks come to from a number on, they come to at each larger n
pub checks-more : (items : Items) (n m i : ℕ) (lines : List CheckLine) (s : State StagingState) (out : Final StagingState Checked)
    → checks items n i lines s ≡ Some out → n ≤ m → checks items m i lines s ≡ Some out
unfolding checks
checks-more items zero m i lines s out is more = cc
checks-more items (suc n) zero i lines s out is more = absurd (omega arith)
checks-more items (suc n) (suc m) i lines s out is more =
    let job = jobs.Check (record { 0 = i }) in
    let left : n ≤ m = omega arith in
    choose-more (nat_lt i (length s.world.typing.stage.store.functions)) (one items n i lines s) (one items m i lines s)
    (done lines s) (done lines s) out
    (choose-more (is_undefined s.world.typing.stage (record { 0 = i })) (checks items n (i + 1) lines s) (checks items m (i + 1) lines s)
    (checked items n i lines s) (checked items m i lines s) out
    (λ k. checks-more items n m (i + 1) lines s out k left)
    (after-more (job_staged items n job s) (job_staged items m job s) (following items n i lines)
    (following items m i lines) (λ o k. staged-more items n m job s o k left)
    (λ e next o k. checks-more items n m (i + 1) (lines ++ line_of (record { 0 = i }) e ∷ []) next o k left) out))
    (λ k. k) is

-- ---- one function

if_true : {A : Type 0} (b : Bool) (x y : A) → b ≡ true → (if b then x else y) ≡ x
if_true true x y h = refl
if_true false x y h = cc

if_false : {A : Type 0} (b : Bool) (x y : A) → b ≡ false → (if b then x else y) ≡ y
if_false true x y h = cc
if_false false x y h = refl

-- what the checks from a number on come to at some n
pub record ChecksTo (items : Items) (i : ℕ) (lines : List CheckLine) (s : State StagingState)
    (out : Final StagingState Checked) : Type 0 where
  pub n : ℕ
  pub at_n : checks items n i lines s ≡ Some out

-- behind the last function they are done
pub checks_done : (items : Items) (i : ℕ) (lines : List CheckLine) (s : State StagingState)
    → nat_lt i (length s.world.typing.stage.store.functions) ≡ false
    → ChecksTo items i lines s (Finished (checked_with (ends.Values []) lines) s)
unfolding checks
checks_done items i lines s past = record {
  n = 1;
  at_n = if_false (nat_lt i (length s.world.typing.stage.store.functions)) (one items 0 i lines s) (done lines s) past;
}

-- a function that isn't defined is passed over
pub checks_passed : (items : Items) (i : ℕ) (lines : List CheckLine) (s : State StagingState) (out : Final StagingState Checked)
    → nat_lt i (length s.world.typing.stage.store.functions) ≡ true → is_undefined s.world.typing.stage (record { 0 = i }) ≡ true
    → ChecksTo items (i + 1) lines s out → ChecksTo items i lines s out
unfolding checks
checks_passed items i lines s out within undefined rest = record {
  n = suc rest.n;
  at_n =
      if_true (nat_lt i (length s.world.typing.stage.store.functions)) (one items rest.n i lines s) (done lines s) within
      ∙ if_true (is_undefined s.world.typing.stage (record { 0 = i })) (checks items rest.n (i + 1) lines s)
      (checked items rest.n i lines s) undefined
      ∙ rest.at_n;
}

-- one that is defined is checked, and the next ones follow
pub checks_checked : (items : Items) (i k : ℕ) (lines : List CheckLine) (s next : State StagingState) (end : JobEnd)
    (out : Final StagingState Checked)
    → nat_lt i (length s.world.typing.stage.store.functions) ≡ true → is_undefined s.world.typing.stage (record { 0 = i }) ≡ false
    → job_staged items k (jobs.Check (record { 0 = i })) s ≡ Some (Finished end next)
    → ChecksTo items (i + 1) (lines ++ line_of (record { 0 = i }) end ∷ []) next out → ChecksTo items i lines s out
unfolding checks
checks_checked items i k lines s next end out within defined check rest =
    let n = k + rest.n in
    let job = jobs.Check (record { 0 = i }) in
    record {
      n = suc n;
      at_n =
          if_true (nat_lt i (length s.world.typing.stage.store.functions)) (one items n i lines s) (done lines s) within
          ∙ if_false (is_undefined s.world.typing.stage (record { 0 = i })) (checks items n (i + 1) lines s) (checked items n i lines s) defined
          ∙ ap (λ (o : Option (Final StagingState JobEnd)). after_check o (following items n i lines))
          (staged-more items k n job s (Finished end next) check (omega arith))
          ∙ checks-more items rest.n n (i + 1) (lines ++ line_of (record { 0 = i }) end ∷ []) next out rest.at_n (omega arith);
    }

-- or units lack
pub checks_spent : (items : Items) (i k : ℕ) (lines : List CheckLine) (s next : State StagingState)
    → nat_lt i (length s.world.typing.stage.store.functions) ≡ true → is_undefined s.world.typing.stage (record { 0 = i }) ≡ false
    → job_staged items k (jobs.Check (record { 0 = i })) s ≡ Some (Exhausted next)
    → ChecksTo items i lines s (Exhausted next)
unfolding checks
checks_spent items i k lines s next within defined check = record {
  n = suc k;
  at_n =
      if_true (nat_lt i (length s.world.typing.stage.store.functions)) (one items k i lines s) (done lines s) within
      ∙ if_false (is_undefined s.world.typing.stage (record { 0 = i })) (checks items k (i + 1) lines s) (checked items k i lines s) defined
      ∙ ap (λ (o : Option (Final StagingState JobEnd)). after_check o (following items k i lines)) check;
}
