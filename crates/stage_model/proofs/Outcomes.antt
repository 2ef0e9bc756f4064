-- Outcomes of stagings with checks.
use Rattle.std.proofs.Common.{◌≡◌, ℕ, ◌+◌, ◌≤◌, true, false, List, [], Option, Some, None, refl, ap, ◌∙◌, arith}
use Rattle.tl_base.specs.declared.place.Place.{Place}
use Rattle.tl_base.specs.Layer.{State, state}
use Rattle.stage_form.specs.declared.staging.Outcome.{Outcome as Staging}
use Rattle.stage_form.specs.declared.staging.Outcome.TheVariants as stagings
use Rattle.stage_form.specs.Stage.{Final, Finished, final_of}
use Rattle.tl_tree.specs.Code.{Items}
use Rattle.stage_check.specs.declared.jobs.Job.{Job}
use Rattle.stage_check.specs.declared.jobs.Job.TheVariants as jobs
use Rattle.stage_check.specs.declared.jobs.JobEnd.{JobEnd}
use Rattle.stage_check.specs.declared.jobs.JobEnd.TheVariants as ends
use Rattle.stage_model.specs.declared.staging.CheckLine.{CheckLine}
use Rattle.stage_model.specs.declared.staging.Mode.{Mode}
use Rattle.stage_model.specs.declared.staging.Mode.TheVariants.{Exports, CheckAll}
use Rattle.stage_model.specs.Stage.{StagingState, job_staged}
use Rattle.stage_model.specs.Staging.{Checked, checked_with, checked_final, after_check, exported, by_mode, checks}
use Rattle.stage_model.specs.Staging.{Ending, ending, ending_of, ending_if_any, end_in, gave_values, lines_in}
use Rattle.stage_model.proofs.Checking.{staged-more, after-more, checks-more}

-- ---- at a larger n

exported-more : (items : Items) (n m : ℕ) (place : Place) (end : JobEnd) (s : State StagingState) (out : Final StagingState JobEnd)
    → exported items n place end s ≡ Some out → n ≤ m → exported items m place end s ≡ Some out
exported-more items n m place (ends.Values vs) s out is more = staged-more items n m (jobs.Export place) s out is more
exported-more items n m place (ends.Raised v at) s out is more = is
exported-more items n m place (ends.Result t) s out is more = is
exported-more items n m place (ends.Refused why) s out is more = is
exported-more items n m place ends.Done s out is more = is
exported-more items n m place (ends.NoLayout kind) s out is more = is

pub by_mode-more : (mode : Mode) (items : Items) (n m : ℕ) (place : Place) (end : JobEnd) (s : State StagingState)
    (out : Final StagingState Checked)
    → by_mode mode items n place end s ≡ Some out → n ≤ m → by_mode mode items m place end s ≡ Some out
by_mode-more Exports items n m place end s out is more =
    let go : JobEnd → State StagingState → Option (Final StagingState Checked) = λ e last. Some (Finished (checked_with e []) last) in
    after-more (exported items n place end s) (exported items m place end s) go go
    (λ o k. exported-more items n m place end s o k more) (λ e last o k. k) out is
by_mode-more CheckAll items n m place (ends.Values vs) s out is more = checks-more items n m 0 [] s out is more
by_mode-more CheckAll items n m place (ends.Raised v at) s out is more = is
by_mode-more CheckAll items n m place (ends.Result t) s out is more = is
by_mode-more CheckAll items n m place (ends.Refused why) s out is more = is
by_mode-more CheckAll items n m place ends.Done s out is more = is
by_mode-more CheckAll items n m place (ends.NoLayout kind) s out is more = is

-- an outcome is what another staging comes to, where that comes to all that the first one does
pub carried : (here there : Option (Final StagingState Checked)) (out : Ending)
    → ((final : Final StagingState Checked) → here ≡ Some final → there ≡ Some final)
    → ending_if_any here ≡ Some out → ending_if_any there ≡ Some out
carried (Some final) there out more is = ap ending_if_any (more final refl) ∙ is
carried None there out more is = cc

-- ---- by its parts

pub ending_by : (ended : Staging JobEnd) (lines : List CheckLine) (w : StagingState) (left : ℕ)
    → ending (end_in w.typing.stage.heap ended) (lines_in ended lines) (state w left)
    ≡ ending_of (checked_final lines (final_of ended (state w left)))
ending_by (stagings.Ends e) lines w left = refl
ending_by stagings.Spent lines w left = refl

-- ---- the chunk, and what goes on behind it

pub joined : (items : Items) (place : Place) (mode : Mode) (n m : ℕ) (job : Job) (s : State StagingState)
    (chunk : Final StagingState JobEnd) (final : Final StagingState Checked)
    → job_staged items n job s ≡ Some chunk → after_check (Some chunk) (by_mode mode items m place) ≡ Some final
    → ending_if_any (after_check (job_staged items (n + m) job s) (by_mode mode items (n + m) place)) ≡ Some (ending_of final)
joined items place mode n m job s chunk final ran ended =
    ap (λ (o : Option (Final StagingState JobEnd)). ending_if_any (after_check o (by_mode mode items (n + m) place)))
    (staged-more items n (n + m) job s chunk ran (omega arith))
    ∙ ap ending_if_any (after-more (Some chunk) (Some chunk) (by_mode mode items m place) (by_mode mode items (n + m) place)
    (λ o k. k) (λ e next o k. by_mode-more mode items m (n + m) place e next o k (omega arith)) final ended)

-- a chunk that ended otherwise is all that there is
pub stays : (mode : Mode) (items : Items) (place : Place) (chunk : Staging JobEnd) (s : State StagingState) → gave_values chunk ≡ false
    → after_check (Some (final_of chunk s)) (by_mode mode items 0 place) ≡ Some (checked_final [] (final_of chunk s))
stays Exports items place (stagings.Ends (ends.Values vs)) s other = cc
stays CheckAll items place (stagings.Ends (ends.Values vs)) s other = cc
stays Exports items place (stagings.Ends (ends.Raised v at)) s other = refl
stays Exports items place (stagings.Ends (ends.Result t)) s other = refl
stays Exports items place (stagings.Ends (ends.Refused why)) s other = refl
stays Exports items place (stagings.Ends ends.Done) s other = refl
stays Exports items place (stagings.Ends (ends.NoLayout kind)) s other = refl
stays CheckAll items place (stagings.Ends (ends.Raised v at)) s other = refl
stays CheckAll items place (stagings.Ends (ends.Result t)) s other = refl
stays CheckAll items place (stagings.Ends (ends.Refused why)) s other = refl
stays CheckAll items place (stagings.Ends ends.Done) s other = refl
stays CheckAll items place (stagings.Ends (ends.NoLayout kind)) s other = refl
stays mode items place stagings.Spent s other = refl

-- exports are all that is said of them
exports_final : (it : Staging JobEnd) (s : State StagingState)
    → after_check (Some (final_of it s)) (λ e last. Some (Finished (checked_with e []) last)) ≡ Some (checked_final [] (final_of it s))
exports_final (stagings.Ends e) s = refl
exports_final stagings.Spent s = refl

-- behind another one come its exports
pub exports_behind : (items : Items) (n : ℕ) (place : Place) (chunk : Staging JobEnd) (s : State StagingState) (it : Staging JobEnd)
    (next : State StagingState) → gave_values chunk ≡ true → job_staged items n (jobs.Export place) s ≡ Some (final_of it next)
    → after_check (Some (final_of chunk s)) (by_mode Exports items n place) ≡ Some (checked_final [] (final_of it next))
exports_behind items n place (stagings.Ends (ends.Values vs)) s it next gave ran =
    let go : JobEnd → State StagingState → Option (Final StagingState Checked) = λ e last. Some (Finished (checked_with e []) last) in
    ap (λ (o : Option (Final StagingState JobEnd)). after_check o go) ran ∙ exports_final it next
exports_behind items n place (stagings.Ends (ends.Raised v at)) s it next gave ran = cc
exports_behind items n place (stagings.Ends (ends.Result t)) s it next gave ran = cc
exports_behind items n place (stagings.Ends (ends.Refused why)) s it next gave ran = cc
exports_behind items n place (stagings.Ends ends.Done) s it next gave ran = cc
exports_behind items n place (stagings.Ends (ends.NoLayout kind)) s it next gave ran = cc
exports_behind items n place stagings.Spent s it next gave ran = cc

-- or the checks
pub checks_behind : (items : Items) (n : ℕ) (place : Place) (chunk : Staging JobEnd) (s : State StagingState)
    (out : Final StagingState Checked) → gave_values chunk ≡ true → checks items n 0 [] s ≡ Some out
    → after_check (Some (final_of chunk s)) (by_mode CheckAll items n place) ≡ Some out
checks_behind items n place (stagings.Ends (ends.Values vs)) s out gave is = is
checks_behind items n place (stagings.Ends (ends.Raised v at)) s out gave is = cc
checks_behind items n place (stagings.Ends (ends.Result t)) s out gave is = cc
checks_behind items n place (stagings.Ends (ends.Refused why)) s out gave is = cc
checks_behind items n place (stagings.Ends ends.Done) s out gave is = cc
checks_behind items n place (stagings.Ends (ends.NoLayout kind)) s out gave is = cc
checks_behind items n place stagings.Spent s out gave is = cc
