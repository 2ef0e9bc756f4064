-- Lua code, specialisation and calls of the library as layers of the stage.
use Rattle.std.proofs.Common.{◌≡◌, Bool, true, false, refl, ◌∙◌}
use Rattle.std.specs.Prelude.{if◌then◌else◌}
use Rattle.tl_base.specs.declared.place.Place.{Place}
use Rattle.tl_base.specs.declared.ids.TypeId.{TypeId}
use Rattle.tl_base.specs.Layer.{State, Given, Seen, Ended, SpentAt, Asks, Meaning}
use Rattle.stage_form.specs.Within.{given_part, within}
use Rattle.tl_tree.specs.Code.{Items}
use Rattle.lua_table.specs.LuaState.{LuaState}
use Rattle.lua_table.specs.declared.call.LibCall.{LibCall}
use Rattle.lua_model.specs.declared.end.LuaEnd.{LuaEnd}
use Rattle.lua_model.specs.declared.end.LuaEnd.TheVariants as lua_ends
use Rattle.lua_model.specs.declared.job.LuaJob.{LuaJob}
use Rattle.lua_model.specs.declared.question.LuaQuestion.{LuaQuestion}
use Rattle.lua_model.specs.declared.question.LuaAnswer.{LuaAnswer}
use Rattle.lua_model.specs.Meaning.{lua}
use Rattle.exotype.specs.World.{StageState, with_heap}
use Rattle.spec_model.specs.declared.job.SpecJob.{SpecJob}
use Rattle.spec_model.specs.Meaning.{spec}
use Rattle.check_model.specs.declared.question.CheckAnswer.{CheckAnswer}
use Rattle.check_model.specs.Typing.{TypingState}
use Rattle.check_sound.specs.Sound.{IsSound}
use Rattle.check_library.specs.Calls.{asks}
use Rattle.check_sound.specs.Growing.{Leads}
use Rattle.check_sound.specs.Layers.{IsBack, StaysSound, LayerKeepsSound}
use Rattle.check_sound.specs.Layers as laws
use Rattle.check_sound.proofs.Leading.{leads-itself, leads-twice}
use Rattle.stage_library.specs.declared.tasks.Task.{Task}
use Rattle.stage_library.specs.declared.tasks.Task.TheVariants as tasks
use Rattle.stage_library.specs.Library.{library}
use Rattle.stage_library.specs.Types.{type_asked}
use Rattle.stage_code.specs.declared.asked.Asked.{Asked}
use Rattle.stage_code.specs.declared.asked.Asked.TheVariants as of_tasks
use Rattle.stage_code.specs.Layers.{lua_fitting, spec_fitting, library_fitting, task_meaning}
use Rattle.stage_check.specs.declared.jobs.Job.TheVariants as jobs
use Rattle.stage_check.specs.declared.jobs.Asked.TheVariants as asked
use Rattle.stage_check.specs.Layers.{with_stage, stage_fitting, stage_asks, job_of, lua_end}
use Rattle.stage_form.specs.Holding.{IsBackFor, Shows, Holds}
use Rattle.stage_sound.specs.Jobs.{Begins, IsMeant, Leaves, Came}
use Rattle.stage_sound.proofs.Layers.{LayersKeep}
use Rattle.stage_sound.proofs.OfChecks.{JobHolds}
use Rattle.stage_sound.proofs.Parts.{within-holds}

-- ---- among what needs no check and no layout by itself

abbrev pub TaskAsked : Asked → StageState → Type 0
TaskAsked question w = IsSound w

abbrev pub TaskBack : Asked → State StageState → Given StageState LuaAnswer → Type 0
TaskBack question s next = IsBack s next

-- a sound world, to which one has led
abbrev pub Led : StageState → StageState → Type 0
Led w v = IsSound v × Leads w v

abbrev pub TaskHolds : Meaning StageState Asked LuaAnswer LuaEnd → Given StageState LuaAnswer → Type 0
TaskHolds layer first = Holds TaskAsked TaskBack (λ end v. Led first.state.world v) layer first

-- a layer that needs nothing of its answers
module _ {Q A E : Type 0} (layer : Meaning StageState Q A E) (first : Given StageState A) where
  stays-shows : (o : Seen StageState Q E) → StaysSound first o → Shows (λ q w. IsSound w) (λ end v. Led first.state.world v) o
  stays-shows (Ended end s) h = h
  stays-shows (Asks question s) h = h
  stays-shows (SpentAt s) h = tt

  back-for : (o : Seen StageState Q E) (next : Given StageState A) →
      IsBackFor (λ q s next. IsBack s next) o next → laws.IsBackFor o next
  back-for (Ended end s) next h = tt
  back-for (Asks question s) next h = h
  back-for (SpentAt s) next h = tt

  sound-holds : LayerKeepsSound layer → IsSound first.state.world →
      Holds (λ q w. IsSound w) (λ q s next. IsBack s next) (λ end v. Led first.state.world v) layer first
  sound-holds keeps sound later all =
      stays-shows (layer first later)
      (keeps first later sound (λ before behind next split. back-for (layer first before) next (all before behind next split)))

module _ (items : Items) (k : LayersKeep items) where
  -- ---- Lua code

  -- of whose own world nothing is said
  abbrev LuaAsked : LuaQuestion → LuaState → Type 0
  LuaAsked q p = Unit {0}

  abbrev LuaBack : LuaQuestion → State LuaState → Given LuaState LuaAnswer → Type 0
  LuaBack q s next = Unit {0}

  abbrev LuaLeft : LuaEnd → LuaState → Type 0
  LuaLeft end p = Unit {0}

  shows-any : (o : Seen LuaState LuaQuestion LuaEnd) → Shows LuaAsked LuaLeft o
  shows-any (Ended end s) = tt
  shows-any (Asks question s) = tt
  shows-any (SpentAt s) = tt

  lua-holds : (job : LuaJob) (first : Given StageState LuaAnswer) → IsSound first.state.world →
      TaskHolds (within lua_fitting (lua items job)) first
  lua-holds job first sound =
      within-holds lua_fitting LuaAsked LuaBack LuaLeft TaskAsked TaskBack (λ end v. Led first.state.world v)
      (λ w. IsSound w × Leads first.state.world w)
      (λ w q p b h. (k.heaps w b.0 p).0)
      (λ w end p b h.
      let x = k.heaps w b.0 p in
      (x.0, leads-twice first.state.world w (with_heap w p) b.1 x.1))
      (λ w q s next b may h.
      let x = k.heaps w b.0 s.world in (
        tt,
        (
          h.0,
          leads-twice first.state.world w next.state.world b.1
              (leads-twice w (with_heap w s.world) next.state.world x.1 h.1),
        ),
      ))
      (lua items job) first (sound, leads-itself first.state.world)
      (λ later all. shows-any (lua items job (given_part lua_fitting first) later))

  -- ---- specialisation, calls of the library, and texts of types

  spec-holds : (task : SpecJob) (first : Given StageState LuaAnswer) → IsSound first.state.world →
      TaskHolds (within spec_fitting (spec items task)) first
  spec-holds task first sound =
      within-holds spec_fitting (λ q w. IsSound w) (λ q s next. IsBack s next) (λ end v. Led first.state.world v) TaskAsked TaskBack
      (λ end v. Led first.state.world v)
      (λ w. Unit {0}) (λ w q p b h. h) (λ w end p b h. h) (λ w q s next b may h. (h, tt)) (spec items task) first tt
      (sound-holds (spec items task) (given_part spec_fitting first) (k.specialising task) sound)

  -- what asks for tasks alone
  asking-holds : (layer : Meaning StageState Task LuaAnswer LuaEnd) (first : Given StageState LuaAnswer) → LayerKeepsSound layer →
      IsSound first.state.world → TaskHolds (within library_fitting layer) first
  asking-holds layer first keeps sound =
      within-holds library_fitting (λ q w. IsSound w) (λ q s next. IsBack s next) (λ end v. Led first.state.world v) TaskAsked TaskBack
      (λ end v. Led first.state.world v)
      (λ w. Unit {0}) (λ w q p b h. h) (λ w end p b h. h) (λ w q s next b may h. (h, tt)) layer first tt
      (sound-holds layer (given_part library_fitting first) keeps sound)

  library-holds : (call : LibCall) (first : Given StageState LuaAnswer) → asks call.function ≡ false →
      IsSound first.state.world → TaskHolds (within library_fitting (library call)) first
  library-holds call first free sound = asking-holds (library call) first (k.library call free) sound

  type-holds : (t : TypeId) (place : Place) (first : Given StageState LuaAnswer) → IsSound first.state.world →
      TaskHolds (within library_fitting (type_asked t place)) first
  type-holds t place first sound = asking-holds (type_asked t place) first (k.texts t place) sound

  -- ---- each task

  task-holds : (task : Task) (first : Given StageState LuaAnswer) → IsSound first.state.world →
      IsMeant (asked.Job (jobs.Stage task)) first.state.world → TaskHolds (task_meaning items task) first
  task-holds (tasks.Evaluate job) first sound meant = lua-holds job first sound
  task-holds (tasks.Specialise n env) first sound meant = spec-holds (record { node = n; env = env }) first sound
  task-holds (tasks.Library call) first sound meant = library-holds call first meant sound
  task-holds (tasks.TypeText t place) first sound meant = type-holds t place first sound

  -- a task as a job
  task-begins : (w : TypingState) (task : Task) (p : StageState) → IsSound p → Begins (asked.Job (job_of task)) (with_stage w p)
  task-begins w (tasks.Evaluate job) p sound = (sound, tt)
  task-begins w (tasks.Specialise n env) p sound = (sound, tt)
  task-begins w (tasks.TypeText t place) p sound = (sound, tt)
  task-begins w (tasks.Library call) p sound = by (asks call.function) refl
    where
      by : (c : Bool) → asks call.function ≡ c →
          Begins (asked.Job (if c then jobs.Call call else jobs.Stage (tasks.Library call))) (with_stage w p)
      by true e = (sound, tt)
      by false e = (sound, e)

  -- what such a layer asks for
  asked-begins : (w : TypingState) (q : Asked) (p : StageState) → IsSound p → Begins (stage_asks q) (with_stage w p)
  asked-begins w (of_tasks.Task task) p sound = task-begins w task p sound
  asked-begins w (of_tasks.Terra f vs place) p sound = (sound, tt)

  pub stage-holds : (task : Task) (first : Given TypingState CheckAnswer) → Begins (asked.Job (jobs.Stage task)) first.state.world →
      JobHolds items k (jobs.Stage task) first
  stage-holds task first begin =
      within-holds stage_fitting TaskAsked TaskBack (λ end v. Led first.state.world.stage v) Begins
      Came (Leaves (asked.Job (jobs.Stage task)) first.state.world)
      (λ w. w.variables ≡ first.state.world.variables)
      (λ w q p b h. asked-begins w q p h) leaves
      (λ w q s next b may h. ((h.1.1.sound, h.1.1.leads), h.1.1.variables ∙ b))
      (task_meaning items task) first refl (task-holds task (given_part stage_fitting first) begin.0 begin.1)
    where
      leaves : (w : TypingState) (end : LuaEnd) (p : StageState) → w.variables ≡ first.state.world.variables →
          Led first.state.world.stage p → Leaves (asked.Job (jobs.Stage task)) first.state.world (lua_end end) (with_stage w p)
      leaves w (lua_ends.Done vs) p b h = record { sound = h.0; leads = h.1; variables = b; says = tt }
      leaves w (lua_ends.Raised x place) p b h = record { sound = h.0; leads = h.1; variables = b; says = tt }
