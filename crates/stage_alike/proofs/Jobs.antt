-- Each task and each job means the same in alike trees, and asks only for Lua code that is read alike.
use Rattle.std.proofs.Common.{List, [], ◌∷◌, refl, None, Bool, true, false, if◌then◌else◌}
use Rattle.tl_base.specs.declared.place.Place.{Place}
use Rattle.tl_base.specs.Layer.{State, Given, Seen, Ended, SpentAt, Asks, Meaning}
use Rattle.tl_tree.specs.Code.{Items}
use Rattle.tl_alike.specs.Alike.{AreAlike}
use Rattle.tl_alike.specs.Plans.{AsksOnly, MeanSame}
use Rattle.tl_alike.proofs.Plans.{within_means_same, StagesSame}
use Rattle.lua_model.specs.declared.question.LuaQuestion.{LuaQuestion}
use Rattle.lua_model.specs.declared.question.LuaQuestion.TheVariants as lua_questions
use Rattle.lua_model.specs.declared.question.LuaAnswer.{LuaAnswer}
use Rattle.lua_model.specs.Meaning.{lua}
use Rattle.lua_alike.specs.Same.{IsProper}
use Rattle.lua_alike.proofs.MeaningAlike.{lua_same}
use Rattle.spec_alike.specs.Same.{IsAsked}
use Rattle.spec_alike.proofs.Whole.{means-same}
use Rattle.spec_model.specs.Meaning.{spec}
use Rattle.spec_model.specs.declared.question.SpecQuestion.{SpecQuestion}
use Rattle.spec_model.specs.declared.question.SpecQuestion.TheVariants as spec_questions
use Rattle.exotype.specs.World.{StageState}
use Rattle.lua_table.specs.declared.call.LibCall.{LibCall}
use Rattle.lua_table.specs.declared.call.LibTurn.{LibTurn}
use Rattle.lua_table.specs.declared.call.LibTurn.TheVariants as turns
use Rattle.stage_library.specs.declared.tasks.Task.{Task}
use Rattle.stage_library.specs.declared.tasks.Task.TheVariants as tasks
use Rattle.stage_library.specs.Library as of_library
use Rattle.stage_library.specs.Types.{type_asked, type_turned}
use Rattle.stage_code.specs.declared.asked.Asked.{Asked as TaskAsked}
use Rattle.stage_code.specs.declared.asked.Asked.TheVariants as of_tasks
use Rattle.stage_code.specs.Layers.{lua_fitting, spec_fitting, library_fitting, lua_asks, spec_asks, task_meaning}
use Rattle.check_library.specs.declared.ask.AskTurn.{AskTurn}
use Rattle.check_library.specs.declared.ask.AskTurn.TheVariants as asks
use Rattle.check_library.specs.Calls as calls
use Rattle.check_model.specs.declared.question.BodyQuestion.{BodyQuestion}
use Rattle.check_model.specs.declared.question.BodyQuestion.TheVariants as of_bodies
use Rattle.check_model.specs.declared.question.CheckQuestion.{CheckQuestion}
use Rattle.check_model.specs.declared.question.CheckQuestion.TheVariants as of_checks
use Rattle.check_model.specs.declared.question.LayoutQuestion.{LayoutQuestion}
use Rattle.check_model.specs.declared.question.LayoutQuestion.TheVariants as of_layouts
use Rattle.check_model.specs.declared.question.CheckAnswer.{CheckAnswer}
use Rattle.check_model.specs.Bodies.{body}
use Rattle.check_model.specs.Checks.{check}
use Rattle.check_model.specs.Layouts.{layout}
use Rattle.check_library.specs.Calls.{asks as may_ask}
use Rattle.stage_check.specs.declared.jobs.Job.{Job}
use Rattle.stage_check.specs.declared.jobs.Job.TheVariants as jobs
use Rattle.stage_check.specs.declared.jobs.Asked.{Asked}
use Rattle.stage_check.specs.declared.jobs.Asked.TheVariants as asked
use Rattle.stage_check.specs.declared.asking.Asker.{Asker}
use Rattle.stage_check.specs.declared.asking.Asker.TheVariants as begins
use Rattle.stage_check.specs.Asking as of_asking
use Rattle.stage_check.specs.Asking.{called, exporting}
use Rattle.stage_check.specs.Results.{result_meaning}
use Rattle.stage_model.specs.Stage.{checking_fitting, meaning, stage}
use Rattle.stage_check.specs.Layers.{stage_fitting, asking_fitting, body_fitting, result_fitting, check_fitting, layout_fitting}
use Rattle.stage_check.specs.Layers.{stage_asks, body_asks, check_asks, layout_asks, job_of, job_meaning}
use Rattle.stage_alike.proofs.Calls.{called-same}

-- ---- what is asked for

-- a task of Lua code that is read alike; all others are tasks of no tree
abbrev pub IsTask : Items → Items → Task → Type 0
IsTask items other (tasks.Evaluate job) = IsProper items other job
IsTask items other _ = Unit {0}

abbrev pub IsTaskAsked : Items → Items → TaskAsked → Type 0
IsTaskAsked items other (of_tasks.Task task) = IsTask items other task
IsTaskAsked items other _ = Unit {0}

abbrev pub IsJob : Items → Items → Job → Type 0
IsJob items other (jobs.Stage task) = IsTask items other task
IsJob items other _ = Unit {0}

abbrev pub IsJobAsked : Items → Items → Asked → Type 0
IsJobAsked items other (asked.Job job) = IsJob items other job
IsJobAsked items other _ = Unit {0}

-- any question
abbrev Any : {Q : Type 0} → Q → Type 0
Any q = Unit {0}

-- what asks any question asks only such
any-asked : {W Q E : Type 0} (o : Seen W Q E) → AsksOnly Any o
any-asked (Ended e s) = tt
any-asked (SpentAt s) = tt
any-asked (Asks q s) = tt

-- what is made of no tree means the same
itself : {W Q A E : Type 0} (m : Meaning W Q A E) → MeanSame Any m m
itself m first later = (refl, any-asked (m first later))

-- ---- the library of Lua and Terra

turn-only : (items other : Items) (place : Place) (turn : LibTurn) (s : State StageState)
    → AsksOnly (IsTask items other) (of_library.turn_seen place turn s)
turn-only items other place (turns.Values vs) s = tt
turn-only items other place (turns.Raise v at) s = tt
turn-only items other place turns.Spent s = tt
turn-only items other place (turns.CallBack f vs next) s = tt
turn-only items other place (turns.TypeText t next) s = tt

seen-only : (items other : Items) (place : Place) (later : List (Given StageState LuaAnswer)) (turn : LibTurn) (s : State StageState)
    → AsksOnly (IsTask items other) (of_library.library_seen place later turn s)
seen-only items other place [] turn s = turn-only items other place turn s
seen-only items other place (given ∷ later) (turns.Values vs) s = tt
seen-only items other place (given ∷ later) (turns.Raise v at) s = tt
seen-only items other place (given ∷ later) turns.Spent s = tt
seen-only items other place (given ∷ later) (turns.CallBack f vs next) s =
    let left = of_library.library_backed given.state next (of_library.back_of given.answer) in
    seen-only items other place later left.turn left.left
seen-only items other place (given ∷ later) (turns.TypeText t next) s =
    let left = of_library.library_backed given.state next (of_library.back_of given.answer) in
    seen-only items other place later left.turn left.left

library-same : (items other : Items) (call : LibCall) → MeanSame (IsTask items other) (of_library.library call) (of_library.library call)
library-same items other call first later =
    (refl, seen-only items other call.place later (of_library.library_called first.state call).turn (of_library.library_called first.state call).left)

-- ---- tasks

lua-asks : (items other : Items) (q : LuaQuestion) → Any q → IsTaskAsked items other (lua_asks q)
lua-asks items other (lua_questions.Library call) h = tt
lua-asks items other (lua_questions.Specialise n env) h = tt
lua-asks items other (lua_questions.Terra f vs place) h = tt

spec-asks : (items other : Items) (q : SpecQuestion) → IsAsked items other q → IsTask items other (spec_asks q)
spec-asks items other (spec_questions.Eval n env) h = h
spec-asks items other (spec_questions.Emitted n env) h = tt
spec-asks items other (spec_questions.Index v t place) h = tt

pub task-same : (items other : Items) → AreAlike items other → (task : Task) → IsTask items other task
    → MeanSame (IsTaskAsked items other) (task_meaning items task) (task_meaning other task)
task-same items other alike (tasks.Evaluate job) proper =
    within_means_same Any (IsTaskAsked items other) lua_fitting (lua items job) (lua other job) (lua-asks items other)
    (lua_same items other alike job proper)
task-same items other alike (tasks.Specialise n env) proper =
    within_means_same (IsAsked items other) (IsTaskAsked items other) spec_fitting (spec items (record { node = n; env = env }))
    (spec other (record { node = n; env = env })) (spec-asks items other) (means-same items other alike (record { node = n; env = env }))
task-same items other alike (tasks.Library call) proper =
    within_means_same (IsTask items other) (IsTaskAsked items other) library_fitting (of_library.library call) (of_library.library call)
    (λ q h. h) (library-same items other call)
task-same items other alike (tasks.TypeText t place) proper =
    within_means_same (IsTask items other) (IsTaskAsked items other) library_fitting (type_asked t place) (type_asked t place)
    (λ q h. h) (λ first later.
    (refl, turn-only items other place (type_turned first.state t place).turn (type_turned first.state t place).left))

-- ---- what asks for checks and layouts

asking-turn-only : (items other : Items) (place : Place) (turn : AskTurn) (s : State StageState)
    → AsksOnly (IsJob items other) (of_asking.turn_seen place turn s)
asking-turn-only items other place (asks.Turn (turns.Values vs)) s = tt
asking-turn-only items other place (asks.Turn (turns.Raise v at)) s = tt
asking-turn-only items other place (asks.Turn turns.Spent) s = tt
asking-turn-only items other place (asks.Turn (turns.CallBack f vs next)) s = tt
asking-turn-only items other place (asks.Turn (turns.TypeText t next)) s = tt
asking-turn-only items other place (asks.Check f next) s = tt
asking-turn-only items other place (asks.Layout t next) s = tt

asking-only : (items other : Items) (place : Place) (later : List (Given StageState CheckAnswer)) (turn : AskTurn) (s : State StageState)
    → AsksOnly (IsJob items other) (of_asking.asking_seen place later turn s)
asking-only items other place [] turn s = asking-turn-only items other place turn s
asking-only items other place (given ∷ later) (asks.Turn turn) s = asking-turn-only items other place (asks.Turn turn) s
asking-only items other place (given ∷ later) (asks.Check f next) s =
    let left = calls.backed given.state next given.answer place in asking-only items other place later left.turn left.left
asking-only items other place (given ∷ later) (asks.Layout t next) s =
    let left = calls.backed given.state next given.answer place in asking-only items other place later left.turn left.left

asking-same : (items other : Items) (what : Asker) → MeanSame (IsJob items other) (of_asking.asking_going what None) (of_asking.asking_going what None)
asking-same items other what first later =
    (refl, asking-only items other (of_asking.place_of what) later (of_asking.begun what first.state).turn (of_asking.begun what first.state).left)

-- ---- jobs

task-asks : (items other : Items) (q : Task) → IsTask items other q → IsJob items other (job_of q)
task-asks items other (tasks.Evaluate job) h = h
task-asks items other (tasks.Specialise n env) h = tt
task-asks items other (tasks.Library call) h = by-function (may_ask call.function)
  where
    by-function : (b : Bool) → IsJob items other (if b then jobs.Call call else jobs.Stage (tasks.Library call))
    by-function true = tt
    by-function false = tt
task-asks items other (tasks.TypeText t place) h = tt

stage-asks : (items other : Items) (q : TaskAsked) → IsTaskAsked items other q → IsJobAsked items other (stage_asks q)
stage-asks items other (of_tasks.Task task) h = task-asks items other task h
stage-asks items other (of_tasks.Terra f vs place) h = tt

body-asks : (items other : Items) (q : BodyQuestion) → Any q → IsJob items other (body_asks q)
body-asks items other (of_bodies.CallLua v vs at) h = tt
body-asks items other (of_bodies.ResultOf f) h = tt
body-asks items other (of_bodies.LayoutOf t at) h = tt

check-asks : (items other : Items) (q : CheckQuestion) → Any q → IsJob items other (check_asks q)
check-asks items other (of_checks.Body f) h = tt

layout-asks : (items other : Items) (q : LayoutQuestion) → Any q → IsJob items other (layout_asks q)
layout-asks items other (of_layouts.CallLua v vs at) h = tt
layout-asks items other (of_layouts.LayoutOf t at) h = tt

pub job-same : (items other : Items) → AreAlike items other → (job : Job) → IsJob items other job
    → MeanSame (IsJobAsked items other) (job_meaning items job) (job_meaning other job)
job-same items other alike (jobs.Stage task) proper =
    within_means_same (IsTaskAsked items other) (IsJobAsked items other) stage_fitting (task_meaning items task) (task_meaning other task)
    (stage-asks items other) (task-same items other alike task proper)
job-same items other alike (jobs.Call call) proper =
    within_means_same (IsJob items other) (IsJobAsked items other) asking_fitting (called call) (called call) (λ q h. h)
    (asking-same items other (begins.Call call))
job-same items other alike (jobs.Export place) proper =
    within_means_same (IsJob items other) (IsJobAsked items other) asking_fitting (exporting place) (exporting place) (λ q h. h)
    (asking-same items other (begins.Export place))
job-same items other alike (jobs.Check f) proper =
    within_means_same Any (IsJobAsked items other) check_fitting (check f) (check f) (check-asks items other) (itself (check f))
job-same items other alike (jobs.Body f) proper =
    within_means_same Any (IsJobAsked items other) body_fitting (body f) (body f) (body-asks items other) (itself (body f))
job-same items other alike (jobs.Result f) proper =
    within_means_same Any (IsJobAsked items other) result_fitting (result_meaning f) (result_meaning f) (body-asks items other)
    (itself (result_meaning f))
job-same items other alike (jobs.Layout t at) proper =
    within_means_same Any (IsJobAsked items other) layout_fitting (layout (record { of = t; at = at })) (layout (record { of = t; at = at }))
    (layout-asks items other) (itself (layout (record { of = t; at = at })))

pub stage-same : (items other : Items) → AreAlike items other → StagesSame (IsJobAsked items other) (stage items) (stage other)
stage-same items other alike = record { go = refl; answer_of = λ end. refl; meaning = same }
  where
    same : (question : Asked) → IsJobAsked items other question → MeanSame (IsJobAsked items other) (meaning items question) (meaning other question)
    same (asked.Job job) proper =
        within_means_same (IsJobAsked items other) (IsJobAsked items other) checking_fitting (job_meaning items job) (job_meaning other job)
        (λ q h. h) (job-same items other alike job proper)
    same (asked.Terra f vs at) proper = called-same (IsJobAsked items other) f vs at tt
