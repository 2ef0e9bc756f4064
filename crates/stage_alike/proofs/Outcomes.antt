-- What stagings of alike trees come to.
use Rattle.std.proofs.Common.{◌≡◌, ◌∙◌, ℕ, zero, suc, ◌+◌, List, [], ◌∷◌, ◌++◌, refl, ap, Option, Some, None, Bool, true, false, length, nat_lt}
use Rattle.std.proofs.Common.{if◌then◌else◌}
use Rattle.tl_base.specs.declared.place.Place.{Place}
use Rattle.tl_base.specs.Layer.{State, state}
use Rattle.stage_form.specs.Stage.{Final, Finished, Exhausted}
use Rattle.tl_tree.specs.Nodes.{lay}
use Rattle.tl_tree.specs.Tokens.{finish_of}
use Rattle.tl_tree.specs.Code.{Items}
use Rattle.tl_tree.specs.Binding.{Bound}
use Rattle.tl_alike.specs.Alike.{AreAlike}
use Rattle.tl_alike.proofs.Plans.{staged_same}
use Rattle.tl_alike.proofs.AlikeTrees.{alike_trees}
use Rattle.lua_model.specs.declared.job.LuaJob.TheVariants.{Chunk}
use Rattle.spec_model.specs.Making.{is_undefined}
use Rattle.stage_library.specs.declared.tasks.Task.TheVariants.{Evaluate}
use Rattle.stage_check.specs.declared.jobs.Job.{Job}
use Rattle.stage_check.specs.declared.jobs.Job.TheVariants as jobs
use Rattle.stage_check.specs.declared.jobs.Asked.TheVariants as asked
use Rattle.stage_check.specs.declared.jobs.JobEnd.{JobEnd}
use Rattle.stage_check.specs.declared.jobs.JobEnd.TheVariants as ends
use Rattle.stage_model.specs.declared.staging.CheckLine.{CheckLine}
use Rattle.stage_model.specs.declared.staging.Mode.{Mode}
use Rattle.stage_model.specs.declared.staging.Mode.TheVariants.{Exports, CheckAll}
use Rattle.stage_model.specs.Stage.{StagingState, stage, job_staged}
use Rattle.stage_model.specs.Staging.{after_check, exported, by_mode, checks, line_of, Checked, checked_with, outcome, ending_if_any, begun}
use Rattle.stage_alike.specs.Same.{TreesStageAlike, TextsStageAlike}
use Rattle.stage_alike.proofs.Jobs.{IsJob, IsJobAsked, stage-same}

after_check-same : {A B : Type 0} (one : Option (Final StagingState A)) (go goes : A → State StagingState → Option (Final StagingState B))
    → ((a : A) (s : State StagingState) → go a s ≡ goes a s) → after_check one go ≡ after_check one goes
after_check-same None go goes h = refl
after_check-same (Some (Finished e s)) go goes h = h e s
after_check-same (Some (Exhausted s)) go goes h = refl

-- what each job that isn't of Lua code comes to, or the whole chunk
at-stage : (items other : Items) → AreAlike items other → (n : ℕ) (job : Job) → IsJob items other job → (s : State StagingState)
    → job_staged items n job s ≡ job_staged other n job s
at-stage items other alike n job proper s =
    staged_same (IsJobAsked items other) (stage items) (stage other) (stage-same items other alike) n (asked.Job job) proper s

exported-same : (items other : Items) → AreAlike items other → (n : ℕ) (place : Place) (end : JobEnd) (s : State StagingState)
    → exported items n place end s ≡ exported other n place end s
exported-same items other alike n place (ends.Values vs) s = at-stage items other alike n (jobs.Export place) tt s
exported-same items other alike n place (ends.Raised v at) s = refl
exported-same items other alike n place (ends.Result t) s = refl
exported-same items other alike n place (ends.Refused why) s = refl
exported-same items other alike n place ends.Done s = refl
exported-same items other alike n place (ends.NoLayout kind) s = refl

-- the check of a function, and of those behind it
abbrev checked-here : Items → (n i : ℕ) → List CheckLine → State StagingState → Option (Final StagingState Checked)
checked-here items n i lines s =
    after_check (job_staged items n (jobs.Check (record { 0 = i })) s) (λ end next.
    checks items n (i + 1) (lines ++ line_of (record { 0 = i }) end ∷ []) next)

one-more : (items other : Items) (n i : ℕ) (lines : List CheckLine) (s : State StagingState)
    → checked-here items n i lines s ≡ checked-here other n i lines s → checks items n (i + 1) lines s ≡ checks other n (i + 1) lines s
    → (there undefined : Bool)
    → (if there then (if undefined then checks items n (i + 1) lines s else checked-here items n i lines s)
    else Some (Finished (checked_with (ends.Values []) lines) s))
    ≡ (if there then (if undefined then checks other n (i + 1) lines s else checked-here other n i lines s)
    else Some (Finished (checked_with (ends.Values []) lines) s))
one-more items other n i lines s here next true true = next
one-more items other n i lines s here next true false = here
one-more items other n i lines s here next false undefined = refl

checks-same : (items other : Items) → AreAlike items other → (n i : ℕ) (lines : List CheckLine) (s : State StagingState)
    → checks items n i lines s ≡ checks other n i lines s
unfolding checks
checks-same items other alike zero i lines s = refl
checks-same items other alike (suc n) i lines s =
    one-more items other n i lines s
    (after_check-same (job_staged items n (jobs.Check (record { 0 = i })) s)
    (λ end next. checks items n (i + 1) (lines ++ line_of (record { 0 = i }) end ∷ []) next)
    (λ end next. checks other n (i + 1) (lines ++ line_of (record { 0 = i }) end ∷ []) next)
    (λ end next. checks-same items other alike n (i + 1) (lines ++ line_of (record { 0 = i }) end ∷ []) next)
    ∙ ap (λ (o : Option (Final StagingState JobEnd)). after_check o (λ end next.
    checks other n (i + 1) (lines ++ line_of (record { 0 = i }) end ∷ []) next))
    (at-stage items other alike n (jobs.Check (record { 0 = i })) tt s))
    (checks-same items other alike n (i + 1) lines s)
    (nat_lt i (length s.world.typing.stage.store.functions)) (is_undefined s.world.typing.stage (record { 0 = i }))

by_mode-same : (items other : Items) → AreAlike items other → (mode : Mode) (n : ℕ) (place : Place) (end : JobEnd) (s : State StagingState)
    → by_mode mode items n place end s ≡ by_mode mode other n place end s
by_mode-same items other alike Exports n place end s =
    ap (λ (o : Option (Final StagingState JobEnd)). after_check o (λ e last. Some (Finished (checked_with e []) last)))
    (exported-same items other alike n place end s)
by_mode-same items other alike CheckAll n place (ends.Values vs) s = checks-same items other alike n 0 [] s
by_mode-same items other alike CheckAll n place (ends.Raised v at) s = refl
by_mode-same items other alike CheckAll n place (ends.Result t) s = refl
by_mode-same items other alike CheckAll n place (ends.Refused why) s = refl
by_mode-same items other alike CheckAll n place ends.Done s = refl
by_mode-same items other alike CheckAll n place (ends.NoLayout kind) s = refl

pub trees_stage_alike : TreesStageAlike
trees_stage_alike items other alike place mode n units memory =
    ap ending_if_any
    (after_check-same (job_staged items n (jobs.Stage (Evaluate Chunk)) s) (by_mode mode items n place) (by_mode mode other n place)
    (by_mode-same items other alike mode n place)
    ∙ ap (λ (o : Option (Final StagingState JobEnd)). after_check o (by_mode mode other n place))
    (at-stage items other alike n (jobs.Stage (Evaluate Chunk)) tt s))
  where
    s : State StagingState
    s = state (begun memory) units

pub texts_stage_alike : TextsStageAlike
texts_stage_alike a b alike mode n units memory =
    trees_stage_alike (lay alike.tree []) (lay alike.other [])
    (alike_trees a b alike.tree alike.other alike.reads alike.other_reads alike.is_bound_alike) (finish_of a) mode n units memory
    ∙ ap (λ place. outcome (lay alike.other []) place mode n units memory) (ap (λ (x : Bound). x.finish) alike.is_bound_alike)
