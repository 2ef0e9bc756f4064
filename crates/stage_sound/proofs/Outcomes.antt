-- A source's staging ends in a sound world, with exports that are fine.
use Rattle.std.proofs.Common.{◌≡◌, ℕ, zero, suc, ◌+◌, ◌≤◌, Bool, true, false, if◌then◌else◌, List, [], ◌∷◌, ◌++◌, length, Option, Some}
use Rattle.std.proofs.Common.{None, refl, sym, ap, ◌∙◌, subst, arith, slice_get}
use Rattle.std.specs.Prelude.{nat_lt}
use Rattle.tl_base.specs.declared.place.Place.{Place}
use Rattle.tl_base.specs.declared.ids.FnId.{FnId}
use Rattle.tl_base.specs.Layer.{State, state}
use Rattle.stage_form.specs.Stage.{Final, Finished, Exhausted}
use Rattle.tl_tree.specs.Code.{Items}
use Rattle.lua_model.specs.declared.job.LuaJob.TheVariants.{Chunk}
use Rattle.terra_term.specs.declared.store.Export.{Export}
use Rattle.terra_term.specs.Stores.{contents_of}
use Rattle.exotype.specs.World.{StageState}
use Rattle.spec_model.specs.Making.{is_undefined}
use Rattle.check_sound.specs.Sound.{IsSound}
use Rattle.check_sound.specs.Growing.{AreFine, Leads}
use Rattle.check_sound.specs.Layers.{ReachesReady, ReadyStays}
use Rattle.check_sound.proofs.Tests.{none-some}
use Rattle.check_sound.proofs.Grows.{grows-itself}
use Rattle.check_sound.proofs.Leading.{leads-itself, leads-twice}
use Rattle.stage_library.specs.declared.tasks.Task.TheVariants.{Evaluate}
use Rattle.stage_check.specs.declared.jobs.Job.{Job}
use Rattle.stage_check.specs.declared.jobs.Job.TheVariants as jobs
use Rattle.stage_check.specs.declared.jobs.Asked.TheVariants as asked
use Rattle.stage_check.specs.declared.jobs.JobEnd.{JobEnd}
use Rattle.stage_check.specs.declared.jobs.JobEnd.TheVariants as ends
use Rattle.stage_model.specs.declared.staging.CheckLine.{CheckLine}
use Rattle.stage_model.specs.declared.staging.Mode.{Mode}
use Rattle.stage_model.specs.declared.staging.Mode.TheVariants.{Exports, CheckAll}
use Rattle.stage_model.specs.Stage.{StagingState, job_staged}
use Rattle.stage_model.specs.Staging.{Checked, checked_with, after_check, exported, line_of, checks, by_mode, Ending, ending_of}
use Rattle.stage_model.specs.Staging.{ending_if_any, begun, outcome}
use Rattle.stage_sound.specs.Jobs.{IsMeant}
use Rattle.stage_sound.specs.Parts.{HasPart}
use Rattle.stage_sound.specs.Promises.{IsWhole, EndsSound}
use Rattle.stage_sound.proofs.Layers.{LayersKeep}
use Rattle.stage_sound.proofs.Whole.{question-leaves}

-- where exports are ready, there is a store of what they reach
abbrev pub HaveParts : Type 0
HaveParts =
    (w : StageState) (exports : List Export) → IsSound w →
    ((i : ℕ) (e : Export) → slice_get exports i ≡ Some e → ReachesReady w e.function) → HasPart (contents_of w.store) exports

module _ (items : Items) (k : LayersKeep items) (w0 : StageState) where
  -- a world that a staging led to
  abbrev Reached : StagingState → Type 0
  Reached w = IsSound w.typing.stage × Leads w0 w.typing.stage

  -- where it ended, it is such a one
  abbrev Fine : {A : Type 0} → Option (Final StagingState A) → Type 0
  Fine None = Unit {0}
  Fine (Some (Exhausted s)) = Unit {0}
  Fine (Some (Finished e s)) = Reached s.world

  reached-job : (n : ℕ) (job : Job) (s : State StagingState) → Reached s.world → IsMeant (asked.Job job) s.world.typing.stage →
      (end : JobEnd) (t : State StagingState) → job_staged items n job s ≡ Some (Finished end t) → Reached t.world
  reached-job n job s r meant end t is =
      let l = question-leaves items k n (asked.Job job) s end t (r.0, meant) is in
      (l.sound, leads-twice w0 s.world.typing.stage t.world.typing.stage r.1 l.leads)

  fine-job : (n : ℕ) (job : Job) (s : State StagingState) → Reached s.world → IsMeant (asked.Job job) s.world.typing.stage →
      Fine (job_staged items n job s)
  fine-job n job s r meant = by (job_staged items n job s) refl
    where
      by : (o : Option (Final StagingState JobEnd)) → job_staged items n job s ≡ o → Fine o
      by None is = tt
      by (Some (Exhausted t)) is = tt
      by (Some (Finished end t)) is = reached-job n job s r meant end t is

  fine-after : {A B : Type 0} (o : Option (Final StagingState A)) (go : A → State StagingState → Option (Final StagingState B)) →
      Fine o → ((e : A) (s : State StagingState) → Reached s.world → Fine (go e s)) → Fine (after_check o go)
  fine-after None go h f = tt
  fine-after (Some (Exhausted s)) go h f = tt
  fine-after (Some (Finished e s)) go h f = f e s h

  fine-choice : {A : Type 0} (b : Bool) (x y : Option (Final StagingState A)) → Fine x → Fine y → Fine (if b then x else y)
  fine-choice true x y f g = f
  fine-choice false x y f g = g

  -- ---- behind the chunk

  fine-exported : (n : ℕ) (place : Place) (end : JobEnd) (s : State StagingState) → Reached s.world →
      Fine (exported items n place end s)
  fine-exported n place (ends.Values vs) s r = fine-job n (jobs.Export place) s r tt
  fine-exported n place (ends.Raised x at) s r = r
  fine-exported n place (ends.Result t) s r = r
  fine-exported n place (ends.Refused why) s r = r
  fine-exported n place ends.Done s r = r
  fine-exported n place (ends.NoLayout kind) s r = r

  fine-checks : (n i : ℕ) (lines : List CheckLine) (s : State StagingState) → Reached s.world → Fine (checks items n i lines s)
  unfolding checks
  fine-checks zero i lines s r = tt
  fine-checks (suc n) i lines s r =
      let f : FnId = record { 0 = i } in
      fine-choice (nat_lt i (length s.world.typing.stage.store.functions))
      (if is_undefined s.world.typing.stage f then checks items n (i + 1) lines s
      else after_check (job_staged items n (jobs.Check f) s) (λ end next.
      checks items n (i + 1) (lines ++ line_of f end ∷ []) next))
      (Some (Finished (checked_with (ends.Values []) lines) s))
      (fine-choice (is_undefined s.world.typing.stage f) (checks items n (i + 1) lines s)
      (after_check (job_staged items n (jobs.Check f) s) (λ end next.
      checks items n (i + 1) (lines ++ line_of f end ∷ []) next))
      (fine-checks n (i + 1) lines s r)
      (fine-after (job_staged items n (jobs.Check f) s)
      (λ end next. checks items n (i + 1) (lines ++ line_of f end ∷ []) next) (fine-job n (jobs.Check f) s r tt)
      (λ end next x. fine-checks n (i + 1) (lines ++ line_of f end ∷ []) next x))) r

  fine-mode : (mode : Mode) (n : ℕ) (place : Place) (end : JobEnd) (s : State StagingState) → Reached s.world →
      Fine (by_mode mode items n place end s)
  fine-mode Exports n place end s r =
      fine-after (exported items n place end s) (λ e last. Some (Finished (checked_with e []) last))
      (fine-exported n place end s r) (λ e last x. x)
  fine-mode CheckAll n place (ends.Values vs) s r = fine-checks n 0 [] s r
  fine-mode CheckAll n place (ends.Raised x at) s r = r
  fine-mode CheckAll n place (ends.Result t) s r = r
  fine-mode CheckAll n place (ends.Refused why) s r = r
  fine-mode CheckAll n place ends.Done s r = r
  fine-mode CheckAll n place (ends.NoLayout kind) s r = r

  -- ---- the outcome

  -- nothing is exported at the begin
  none-fine : IsSound w0 → w0.exports.list ≡ [] → AreFine w0
  none-fine sound none = record {
    names = λ i e at. absurd (nothing i e at);
    differ = λ i j d e at there same. absurd (nothing i d at);
    ready = λ i e at. absurd (nothing i e at);
    outward = λ i e at. absurd (nothing i e at);
    many = subst (λ (l : List Export). length l ≤ 4000000) (sym none) (omega arith);
    functions = [];
    nodes = 0;
    counted = record {
      then = w0;
      sound = sound;
      grows = grows-itself w0;
      counted = record {
        exported = λ i e at. absurd (nothing i e at);
        once = λ i j f at there. absurd (none-some f at);
        closed = λ k f at. absurd (none-some f at);
        sum = refl;
        most = omega arith;
      };
    };
  }
    where
      nothing : (i : ℕ) (e : Export) → slice_get w0.exports.list i ≡ Some e → ⊥
      nothing i e at = none-some e (ap (λ (l : List Export). slice_get l i) (sym none) ∙ at)

  ends-sound : ReadyStays → (w : StagingState) → Reached w → AreFine w.typing.stage → (i : ℕ) (e : Export) →
      slice_get w.typing.stage.exports.list i ≡ Some e → ReachesReady w.typing.stage e.function
  ends-sound stays w r fine i e at = stays w.typing.stage e.function r.0 (fine.ready i e at)

  same-ending : (a b : Ending) → ◌≡◌ {A = Option Ending} (Some a) (Some b) → a ≡ b
  same-ending a b e = cc e

  final-sound : ReadyStays → HaveParts → AreFine w0 → (o : Option (Final StagingState Checked)) → Fine o → (out : Ending) →
      ending_if_any o ≡ Some out → IsWhole out.end → EndsSound w0.memory out
  final-sound stays parts none None h out is whole = absurd (apart out is)
    where
      apart : (out : Ending) → ◌≡◌ {A = Option Ending} None (Some out) → ⊥
      apart out e = cc e
  final-sound stays parts none (Some (Finished c s)) h out is whole =
      let fine = h.1.fine none in
      subst (EndsSound w0.memory) (same-ending (ending_of (Finished c s)) out is)
      (record {
        sound = h.0;
        memory = h.1.memory;
        fine = fine;
        exports = ends-sound stays s.world h fine;
        part = parts s.world.typing.stage s.world.typing.stage.exports.list h.0 (ends-sound stays s.world h fine);
      })
  final-sound stays parts none (Some (Exhausted s)) h out is whole =
      absurd (subst (λ (x : Ending). IsWhole x.end) (sym (same-ending (ending_of (Exhausted s)) out is)) whole)

  pub outcome-sound : ReadyStays → HaveParts → w0.exports.list ≡ [] → (place : Place) (mode : Mode) (n units memory : ℕ)
      (out : Ending) →
      IsSound w0 → (begun memory).typing.stage ≡ w0 → outcome items place mode n units memory ≡ Some out → IsWhole out.end →
      EndsSound w0.memory out
  outcome-sound stays parts none place mode n units memory out sound same is whole =
      let s = state (begun memory) units in
      let r : Reached s.world = subst (λ w. IsSound w × Leads w0 w) (sym same) (sound, leads-itself w0) in
      final-sound stays parts (none-fine sound none)
      (after_check (job_staged items n (jobs.Stage (Evaluate Chunk)) s) (by_mode mode items n place))
      (fine-after (job_staged items n (jobs.Stage (Evaluate Chunk)) s) (by_mode mode items n place)
      (fine-job n (jobs.Stage (Evaluate Chunk)) s r tt) (λ e t x. fine-mode mode n place e t x)) out is whole
