-- Each check adds one line, behind those of functions with smaller numbers.
use Rattle.std.proofs.Common.{◌≡◌, ℕ, zero, suc, ◌+◌, ◌≤◌, Bool, true, false, List, [], ◌∷◌, ◌++◌, length, Option, Some, None, refl, sym, ap}
use Rattle.std.proofs.Common.{◌∙◌, subst, arith, append-nil, append_assoc}
use Rattle.std.specs.Prelude.{nat_lt, if◌then◌else◌}
use Rattle.std.proofs.lemmas.Option.{same_Some}
use Rattle.tl_base.specs.declared.ids.FnId.{FnId}
use Rattle.tl_base.specs.declared.place.Place.{Place}
use Rattle.tl_base.specs.Layer.{State, state}
use Rattle.stage_form.specs.Stage.{Final, Finished, Exhausted}
use Rattle.tl_tree.specs.Code.{Items}
use Rattle.lua_model.specs.declared.job.LuaJob.TheVariants.{Chunk}
use Rattle.spec_model.specs.Making.{is_undefined}
use Rattle.stage_library.specs.declared.tasks.Task.TheVariants.{Evaluate}
use Rattle.stage_check.specs.declared.jobs.Job.TheVariants as jobs
use Rattle.stage_check.specs.declared.jobs.JobEnd.{JobEnd}
use Rattle.stage_check.specs.declared.jobs.JobEnd.TheVariants as ends
use Rattle.stage_model.specs.declared.staging.CheckLine.{CheckLine}
use Rattle.stage_model.specs.declared.staging.Mode.{Mode}
use Rattle.stage_model.specs.declared.staging.Mode.TheVariants.{Exports, CheckAll}
use Rattle.stage_model.specs.Stage.{StagingState, job_staged}
use Rattle.stage_model.specs.Staging.{Checked, checked_with, after_check, exported, by_mode, checks, line_of, begun}
use Rattle.stage_model.specs.Staging.{Ending, ending_of, ending_if_any}
use Rattle.stage_model.specs.Ordered.{AreRising, ChecksAreInOrder}
use Rattle.stage_model.proofs.Checking.{following, checked, done}

-- what checks come to from a number on: lines behind these, of functions from this number on
abbrev Rises : ℕ → List CheckLine → Final StagingState Checked → Type 0
Rises i lines (Finished c s) = (more : List CheckLine) × ((c.lines ≡ lines ++ more) × AreRising i more)
Rises i lines (Exhausted s) = Unit {0}

lower : (a b : ℕ) (lines : List CheckLine) → a ≤ b → AreRising b lines → AreRising a lines
lower a b [] less rising = tt
lower a b (l ∷ ls) less rising = let h = rising.0 in (omega (arith, less, h), rising.1)

from-next : (i : ℕ) (lines : List CheckLine) (out : Final StagingState Checked) → Rises (i + 1) lines out → Rises i lines out
from-next i lines (Finished c s) r = (r.0, (r.1.0, lower i (i + 1) r.0 (omega arith) r.1.1))
from-next i lines (Exhausted s) r = tt

of-function : (f : FnId) (e : JobEnd) → (line_of f e).function ≡ f
of-function f (ends.Values vs) = refl
of-function f (ends.Raised v at) = refl
of-function f (ends.Result t) = refl
of-function f (ends.Refused why) = refl
of-function f ends.Done = refl
of-function f (ends.NoLayout kind) = refl

with-line : (i : ℕ) (lines : List CheckLine) (l : CheckLine) (out : Final StagingState Checked) → l.function.0 ≡ i →
    Rises (i + 1) (lines ++ l ∷ []) out → Rises i lines out
with-line i lines l (Finished c s) own r =
    (l ∷ r.0, (r.1.0 ∙ append_assoc lines (l ∷ []) r.0, (omega (arith, own), lower (suc l.function.0) (i + 1) r.0 (omega (arith, own)) r.1.1)))
with-line i lines l (Exhausted s) own r = tt

ended : (i : ℕ) (lines : List CheckLine) (e : JobEnd) (s : State StagingState) (out : Final StagingState Checked) →
    Some (Finished (checked_with e lines) s) ≡ Some out → Rises i lines out
ended i lines e s out is =
    subst (λ (o : Final StagingState Checked). Rises i lines o) (same_Some (Finished (checked_with e lines) s) out is)
    ([], (sym (append-nil lines), tt))

exhausted : (i : ℕ) (lines : List CheckLine) (s : State StagingState) (out : Final StagingState Checked) →
    Some (Exhausted s) ≡ Some out → Rises i lines out
exhausted i lines s out is = subst (λ (o : Final StagingState Checked). Rises i lines o) (same_Some (Exhausted s) out is) tt

either : (b : Bool) (x y : Option (Final StagingState Checked)) (out : Final StagingState Checked) (i : ℕ) (lines : List CheckLine) →
    (x ≡ Some out → Rises i lines out) → (y ≡ Some out → Rises i lines out) → (if b then x else y) ≡ Some out → Rises i lines out
either true x y out i lines f g is = f is
either false x y out i lines f g is = g is

behind-check : (items : Items) (n i : ℕ) (lines : List CheckLine) (o : Option (Final StagingState JobEnd))
    (out : Final StagingState Checked) →
    ((e : JobEnd) (next : State StagingState) → following items n i lines e next ≡ Some out →
    Rises (i + 1) (lines ++ line_of (record { 0 = i }) e ∷ []) out) → after_check o (following items n i lines) ≡ Some out → Rises i lines out
behind-check items n i lines None out more is = absurd (cc is)
behind-check items n i lines (Some (Finished e next)) out more is =
    with-line i lines (line_of (record { 0 = i }) e) out (ap (λ (f : FnId). f.0) (of-function (record { 0 = i }) e)) (more e next is)
behind-check items n i lines (Some (Exhausted s)) out more is = exhausted i lines s out is

checks-rise : (items : Items) (n i : ℕ) (lines : List CheckLine) (s : State StagingState) (out : Final StagingState Checked) →
    checks items n i lines s ≡ Some out → Rises i lines out
unfolding checks
checks-rise items zero i lines s out is = absurd (cc is)
checks-rise items (suc n) i lines s out is =
    either (nat_lt i (length s.world.typing.stage.store.functions))
    (if is_undefined s.world.typing.stage (record { 0 = i }) then checks items n (i + 1) lines s else checked items n i lines s)
    (done lines s) out i lines
    (either (is_undefined s.world.typing.stage (record { 0 = i })) (checks items n (i + 1) lines s) (checked items n i lines s) out i lines
    (λ k. from-next i lines out (checks-rise items n (i + 1) lines s out k))
    (behind-check items n i lines (job_staged items n (jobs.Check (record { 0 = i })) s) out
    (λ e next k. checks-rise items n (i + 1) (lines ++ line_of (record { 0 = i }) e ∷ []) next out k)))
    (ended i lines (ends.Values []) s out) is

-- ---- behind a chunk

with-exports : (o : Option (Final StagingState JobEnd)) (out : Final StagingState Checked) →
    after_check o (λ e last. Some (Finished (checked_with e []) last)) ≡ Some out → Rises 0 [] out
with-exports None out is = absurd (cc is)
with-exports (Some (Finished e last)) out is = ended 0 [] e last out is
with-exports (Some (Exhausted s)) out is = exhausted 0 [] s out is

behind-chunk : (mode : Mode) (items : Items) (n : ℕ) (place : Place) (e : JobEnd) (s : State StagingState)
    (out : Final StagingState Checked) → by_mode mode items n place e s ≡ Some out → Rises 0 [] out
behind-chunk Exports items n place e s out is = with-exports (exported items n place e s) out is
behind-chunk CheckAll items n place (ends.Values vs) s out is = checks-rise items n 0 [] s out is
behind-chunk CheckAll items n place (ends.Raised v at) s out is = ended 0 [] (ends.Raised v at) s out is
behind-chunk CheckAll items n place (ends.Result t) s out is = ended 0 [] (ends.Result t) s out is
behind-chunk CheckAll items n place (ends.Refused why) s out is = ended 0 [] (ends.Refused why) s out is
behind-chunk CheckAll items n place ends.Done s out is = ended 0 [] ends.Done s out is
behind-chunk CheckAll items n place (ends.NoLayout kind) s out is = ended 0 [] (ends.NoLayout kind) s out is

after-chunk : (mode : Mode) (items : Items) (n : ℕ) (place : Place) (o : Option (Final StagingState JobEnd))
    (out : Final StagingState Checked) → after_check o (by_mode mode items n place) ≡ Some out → Rises 0 [] out
after-chunk mode items n place None out is = absurd (cc is)
after-chunk mode items n place (Some (Finished e s)) out is = behind-chunk mode items n place e s out is
after-chunk mode items n place (Some (Exhausted s)) out is = exhausted 0 [] s out is

lines-rise : (final : Final StagingState Checked) → Rises 0 [] final → AreRising 0 (ending_of final).lines
lines-rise (Finished c s) r = subst (λ (ls : List CheckLine). AreRising 0 ls) (sym r.1.0) r.1.1
lines-rise (Exhausted s) r = tt

of-ending : (o : Option (Final StagingState Checked)) (out : Ending) →
    ((final : Final StagingState Checked) → o ≡ Some final → Rises 0 [] final) → ending_if_any o ≡ Some out → AreRising 0 out.lines
of-ending None out rise is = absurd (cc is)
of-ending (Some final) out rise is =
    subst (λ (e : Ending). AreRising 0 e.lines) (same_Some (ending_of final) out is) (lines-rise final (rise final refl))

pub checks_are_in_order : ChecksAreInOrder
checks_are_in_order items place mode n units memory out is =
    let chunk = job_staged items n (jobs.Stage (Evaluate Chunk)) (state (begun memory) units) in
    of-ending (after_check chunk (by_mode mode items n place)) out (λ final k. after-chunk mode items n place chunk final k) is
