-- The layers as one: how each stands among them, and what each job means.
use Rattle.std.specs.Prelude.{◌≡◌, false, if◌then◌else◌, [], refl}
use Rattle.tl_base.specs.Layer.{Meaning, Given}
use Rattle.stage_form.specs.Within.{Fitting, given_part, within}
use Rattle.tl_tree.specs.Code.{Items}
use Rattle.lua_model.specs.declared.end.LuaEnd.{LuaEnd}
use Rattle.lua_model.specs.declared.end.LuaEnd.TheVariants as lua_ends
use Rattle.lua_model.specs.declared.job.LuaJob.TheVariants as lua_jobs
use Rattle.lua_model.specs.declared.question.LuaAnswer.{LuaAnswer}
use Rattle.lua_model.specs.declared.question.LuaAnswer.TheVariants as lua_answers
use Rattle.exotype.specs.World.{StageState}
use Rattle.stage_library.specs.declared.tasks.Task.{Task}
use Rattle.stage_library.specs.declared.tasks.Task.TheVariants as tasks
use Rattle.stage_code.specs.declared.asked.Asked.{Asked as TaskAsked}
use Rattle.stage_code.specs.declared.asked.Asked.TheVariants as of_tasks
use Rattle.stage_code.specs.Layers.{task_meaning, staged_rest, StagedFits}
use Rattle.check_model.specs.declared.question.BodyQuestion.{BodyQuestion}
use Rattle.check_model.specs.declared.question.BodyQuestion.TheVariants as of_bodies
use Rattle.check_model.specs.declared.question.CheckQuestion.{CheckQuestion}
use Rattle.check_model.specs.declared.question.CheckQuestion.TheVariants as of_checks
use Rattle.check_model.specs.declared.question.LayoutQuestion.{LayoutQuestion}
use Rattle.check_model.specs.declared.question.LayoutQuestion.TheVariants as of_layouts
use Rattle.check_model.specs.declared.question.CheckAnswer.{CheckAnswer}
use Rattle.check_model.specs.declared.question.CheckAnswer.TheVariants as answers
use Rattle.check_model.specs.declared.end.BodyEnd.{BodyEnd}
use Rattle.check_model.specs.declared.end.BodyEnd.TheVariants as body_ends
use Rattle.check_model.specs.declared.end.CheckEnd.{CheckEnd}
use Rattle.check_model.specs.declared.end.CheckEnd.TheVariants as check_ends
use Rattle.check_model.specs.declared.end.LayoutEnd.{LayoutEnd}
use Rattle.check_model.specs.declared.end.LayoutEnd.TheVariants as layout_ends
use Rattle.check_model.specs.Typing.{TypingState}
use Rattle.check_model.specs.Bodies.{body}
use Rattle.check_model.specs.Checks.{check}
use Rattle.check_model.specs.Layouts.{layout}
use Rattle.check_expr.specs.Frames.{is_go}
use Rattle.check_expr.specs.Rest.{body_rest, BodyFits}
use Rattle.check_flow.specs.Rest.{check_rest, CheckFits, layout_rest, LayoutFits}
use Rattle.check_library.specs.Calls.{asks}
use Rattle.stage_check.specs.declared.jobs.Job.{Job}
use Rattle.stage_check.specs.declared.jobs.Job.TheVariants as jobs
use Rattle.stage_check.specs.declared.jobs.Asked.{Asked}
use Rattle.stage_check.specs.declared.jobs.Asked.TheVariants as asked
use Rattle.stage_check.specs.declared.jobs.JobEnd.{JobEnd}
use Rattle.stage_check.specs.declared.jobs.JobEnd.TheVariants as ends
use Rattle.stage_check.specs.Asking.{called, exporting, asking_rest}
use Rattle.stage_check.specs.Results.{result_meaning, result_rest, ResultFits}
use Rattle.stage_check.specs.declared.staged.Staged.{Staged}
use Rattle.stage_check.specs.declared.staged.Staged.TheVariants as layers
pub use Rattle.check_expr.specs.Steps.{with_stage}

-- ---- what needs no check and no layout by itself

-- a task as a job: a call of a function that asks is one of its own
abbrev pub job_of : Task → Job
job_of (tasks.Library call) = if asks call.function then jobs.Call call else jobs.Stage (tasks.Library call)
job_of task = jobs.Stage task

-- the answers of Lua code; no other comes to it
abbrev pub lua_answer : CheckAnswer → LuaAnswer
lua_answer answers.Go = lua_answers.Go
lua_answer (answers.Values vs) = lua_answers.Values vs
lua_answer (answers.Raise v place) = lua_answers.Raise v place
lua_answer _ = lua_answers.Values []

abbrev pub lua_end : LuaEnd → JobEnd
lua_end (lua_ends.Done vs) = ends.Values vs
lua_end (lua_ends.Raised v place) = ends.Raised v place

-- what it asks for
abbrev pub stage_asks : TaskAsked → Asked
stage_asks (of_tasks.Task task) = asked.Job (job_of task)
stage_asks (of_tasks.Terra f vs place) = asked.Terra f vs place

abbrev pub stage_fitting : Fitting TypingState StageState TaskAsked Asked LuaAnswer CheckAnswer LuaEnd JobEnd
stage_fitting = record { part = λ w. w.stage; with_part = with_stage; question = stage_asks; answer = lua_answer; end = lua_end }

-- ---- what asks in the library

-- it has the world of the staging, and asks for jobs alone; its answers and ends are those of the stage
abbrev pub asking_fitting : Fitting TypingState StageState Job Asked CheckAnswer CheckAnswer JobEnd JobEnd
asking_fitting = record { part = λ w. w.stage; with_part = with_stage; question = asked.Job; answer = λ a. a; end = λ e. e }

-- ---- bodies, checks and layouts

-- what a call of a value of Lua is
abbrev pub body_asks : BodyQuestion → Job
body_asks (of_bodies.CallLua v vs at) = jobs.Stage (tasks.Evaluate (lua_jobs.Call v vs at))
body_asks (of_bodies.ResultOf f) = jobs.Result f
body_asks (of_bodies.LayoutOf t at) = jobs.Layout t at

abbrev pub body_end : BodyEnd → JobEnd
body_end (body_ends.Typed made) = ends.Done
body_end (body_ends.Refused why) = ends.Refused why

abbrev pub body_fitting : Fitting TypingState TypingState BodyQuestion Asked CheckAnswer CheckAnswer BodyEnd JobEnd
body_fitting = record {
  part = λ w. w;
  with_part = λ w p. p;
  question = λ q. asked.Job (body_asks q);
  answer = λ a. a;
  end = body_end;
}

-- the same where the end is the result type
abbrev pub result_fitting : Fitting TypingState TypingState BodyQuestion Asked CheckAnswer CheckAnswer JobEnd JobEnd
result_fitting = record {
  part = λ w. w;
  with_part = λ w p. p;
  question = λ q. asked.Job (body_asks q);
  answer = λ a. a;
  end = λ e. e;
}

abbrev pub check_asks : CheckQuestion → Job
check_asks (of_checks.Body f) = jobs.Body f

abbrev pub check_end : CheckEnd → JobEnd
check_end check_ends.Done = ends.Done
check_end (check_ends.Refused why) = ends.Refused why

abbrev pub check_fitting : Fitting TypingState StageState CheckQuestion Asked CheckAnswer CheckAnswer CheckEnd JobEnd
check_fitting = record {
  part = λ w. w.stage;
  with_part = with_stage;
  question = λ q. asked.Job (check_asks q);
  answer = λ a. a;
  end = check_end;
}

abbrev pub layout_asks : LayoutQuestion → Job
layout_asks (of_layouts.CallLua v vs at) = jobs.Stage (tasks.Evaluate (lua_jobs.Call v vs at))
layout_asks (of_layouts.LayoutOf t at) = jobs.Layout t at

abbrev pub layout_end : LayoutEnd → JobEnd
layout_end layout_ends.Done = ends.Done
layout_end (layout_ends.Refused kind) = ends.NoLayout kind

abbrev pub layout_fitting : Fitting TypingState StageState LayoutQuestion Asked CheckAnswer CheckAnswer LayoutEnd JobEnd
layout_fitting = record {
  part = λ w. w.stage;
  with_part = with_stage;
  question = λ q. asked.Job (layout_asks q);
  answer = λ a. a;
  end = layout_end;
}

-- ---- jobs

-- what each job means, over the nodes of a tree
abbrev pub job_meaning : Items → Job → Meaning TypingState Asked CheckAnswer JobEnd
job_meaning items (jobs.Stage task) = within stage_fitting (task_meaning items task)
job_meaning items (jobs.Call call) = within asking_fitting (called call)
job_meaning items (jobs.Export place) = within asking_fitting (exporting place)
job_meaning items (jobs.Check f) = within check_fitting (check f)
job_meaning items (jobs.Body f) = within body_fitting (body f)
job_meaning items (jobs.Result f) = within result_fitting (result_meaning f)
job_meaning items (jobs.Layout t at) = within layout_fitting (layout (record { of = t; at = at }))

-- an end as the answer to the layer that asked
abbrev pub answer_of : JobEnd → CheckAnswer
answer_of (ends.Values vs) = answers.Values vs
answer_of (ends.Raised v place) = answers.Raise v place
answer_of (ends.Result t) = answers.Result t
answer_of (ends.Refused why) = answers.Refused why
answer_of ends.Done = answers.Done
answer_of (ends.NoLayout kind) = answers.NoLayout kind

-- ---- layers that are suspended

-- what remains to be done by a layer
abbrev pub rest : Staged → Meaning TypingState Asked CheckAnswer JobEnd
rest (layers.Stage staged) = within stage_fitting (staged_rest staged)
rest (layers.Asking asking) = within asking_fitting (asking_rest asking)
rest (layers.Check check) = within check_fitting (check_rest check)
rest (layers.Body body) = within body_fitting (body_rest body)
rest (layers.Result result) = within result_fitting (result_rest result)
rest (layers.Layout layout) = within layout_fitting (layout_rest layout)

abbrev pub JobGiven : Type 0
JobGiven = Given TypingState CheckAnswer

abbrev pub Fits : Staged → JobGiven → Type 0
Fits (layers.Stage staged) next = StagedFits staged (given_part stage_fitting next)
Fits (layers.Asking asking) next = Unit {0}
Fits (layers.Check check) next = CheckFits check (given_part check_fitting next)
Fits (layers.Body body) next = BodyFits body (given_part body_fitting next)
Fits (layers.Result result) next = ResultFits result (given_part result_fitting next)
Fits (layers.Layout layout) next = LayoutFits layout (given_part layout_fitting next)

-- no end begins a layer
pub ends_follow : (end : JobEnd) → is_go (answer_of end) ≡ false
ends_follow (ends.Values vs) = refl
ends_follow (ends.Raised v place) = refl
ends_follow (ends.Result t) = refl
ends_follow (ends.Refused why) = refl
ends_follow ends.Done = refl
ends_follow (ends.NoLayout kind) = refl
