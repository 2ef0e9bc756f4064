-- How Lua code and the specialisation of Terra code stand in a stage, and what each task means.
use Rattle.std.specs.Prelude.{[], ◌∷◌}
use Rattle.tl_base.specs.declared.turn.Turn.{Turn}
use Rattle.tl_base.specs.declared.turn.Turn.TheVariants as turns
use Rattle.tl_base.specs.Layer.{Meaning, Given}
use Rattle.stage_form.specs.Within.{Fitting, given_part, within}
use Rattle.tl_tree.specs.Code.{Items}
use Rattle.lua_table.specs.LuaState.{LuaState}
use Rattle.lua_model.specs.declared.end.LuaEnd.{LuaEnd}
use Rattle.lua_model.specs.declared.end.LuaEnd.TheVariants.{Done, Raised}
use Rattle.lua_model.specs.declared.job.LuaJob.TheVariants as jobs
use Rattle.lua_model.specs.declared.question.LuaQuestion.{LuaQuestion}
use Rattle.lua_model.specs.declared.question.LuaQuestion.TheVariants as questions
use Rattle.lua_model.specs.declared.question.LuaAnswer.{LuaAnswer}
use Rattle.lua_model.specs.declared.question.LuaAnswer.TheVariants as answers
use Rattle.lua_model.specs.Meaning.{lua}
use Rattle.lua_eval.specs.Rest.{lua_rest, LuaFits}
use Rattle.exotype.specs.World.{StageState, with_heap}
use Rattle.spec_model.specs.declared.end.SpecEnd.{SpecEnd}
use Rattle.spec_model.specs.declared.end.SpecEnd.TheVariants as spec_ends
use Rattle.spec_model.specs.declared.question.SpecQuestion.{SpecQuestion}
use Rattle.spec_model.specs.declared.question.SpecQuestion.TheVariants as spec_questions
use Rattle.spec_model.specs.declared.question.SpecAnswer.{SpecAnswer}
use Rattle.spec_model.specs.declared.question.SpecAnswer.TheVariants as spec_answers
use Rattle.spec_model.specs.Meaning.{spec}
use Rattle.spec_machine.specs.Rest.{spec_rest, SpecFits}
use Rattle.stage_library.specs.Library.{library, library_rest}
use Rattle.stage_library.specs.Types.{type_asked}
use Rattle.stage_library.specs.declared.tasks.Task.{Task}
use Rattle.stage_library.specs.declared.tasks.Task.TheVariants.{Evaluate, Specialise, Library, TypeText}
use Rattle.stage_code.specs.declared.asked.Asked.{Asked}
use Rattle.stage_code.specs.declared.asked.Asked.TheVariants as asked
use Rattle.stage_code.specs.declared.staged.Staged.{Staged}
use Rattle.stage_code.specs.declared.staged.Staged.TheVariants as layers

-- ---- Lua code

-- what a question of Lua code is in the stage
abbrev pub lua_asks : LuaQuestion → Asked
lua_asks (questions.Library call) = asked.Task (Library call)
lua_asks (questions.Specialise n env) = asked.Task (Specialise n env)
lua_asks (questions.Terra f vs place) = asked.Terra f vs place

-- Lua code has the heap, and the rest of the world stays while it works
abbrev pub lua_fitting : Fitting StageState LuaState LuaQuestion Asked LuaAnswer LuaAnswer LuaEnd LuaEnd
lua_fitting = record { part = λ w. w.heap; with_part = with_heap; question = lua_asks; answer = λ a. a; end = λ e. e }

-- ---- the specialisation of Terra code

-- the task that a question of it is: it asks for what Lua code gives
abbrev pub spec_asks : SpecQuestion → Task
spec_asks (spec_questions.Eval n env) = Evaluate (jobs.Expr n env)
spec_asks (spec_questions.Emitted n env) = Evaluate (jobs.Emitted n env)
spec_asks (spec_questions.Index v t place) = Evaluate (jobs.Index v t place)

abbrev pub spec_answer : LuaAnswer → SpecAnswer
spec_answer answers.Go = spec_answers.Go
spec_answer (answers.Values vs) = spec_answers.Values vs
spec_answer (answers.Raise v place) = spec_answers.Raise v place

-- it gives one value
abbrev pub spec_end : SpecEnd → LuaEnd
spec_end (spec_ends.Done v) = Done (v ∷ [])
spec_end (spec_ends.Raised v place) = Raised v place

-- it has the whole world
abbrev pub spec_fitting : Fitting StageState StageState SpecQuestion Asked SpecAnswer LuaAnswer SpecEnd LuaEnd
spec_fitting = record {
  part = λ w. w;
  with_part = λ w p. p;
  question = λ q. asked.Task (spec_asks q);
  answer = spec_answer;
  end = spec_end;
}

-- ---- functions of the library, and texts of types

-- they have the whole world, and ask for tasks alone
abbrev pub library_fitting : Fitting StageState StageState Task Asked LuaAnswer LuaAnswer LuaEnd LuaEnd
library_fitting = record { part = λ w. w; with_part = λ w p. p; question = asked.Task; answer = λ a. a; end = λ e. e }

-- ---- turns

-- where a layer stops, as that is in the stage
abbrev pub turn_within : {W P Q R A B E F : Type 0} → Fitting W P Q R A B E F → Turn Q E → Turn R F
turn_within f (turns.End e) = turns.End (f.end e)
turn_within f (turns.Ask q) = turns.Ask (f.question q)
turn_within f turns.Spent = turns.Spent

-- ---- tasks

-- what each task means, over the nodes of a tree
abbrev pub task_meaning : Items → Task → Meaning StageState Asked LuaAnswer LuaEnd
task_meaning items (Evaluate job) = within lua_fitting (lua items job)
task_meaning items (Specialise n env) = within spec_fitting (spec items (record { node = n; env = env }))
task_meaning items (Library call) = within library_fitting (library call)
task_meaning items (TypeText t place) = within library_fitting (type_asked t place)

-- ---- layers that are suspended

-- what remains to be done by a layer of the stage
abbrev pub staged_rest : Staged → Meaning StageState Asked LuaAnswer LuaEnd
staged_rest (layers.Lua lua) = within lua_fitting (lua_rest lua)
staged_rest (layers.Spec spec) = within spec_fitting (spec_rest spec)
staged_rest (layers.Library call) = within library_fitting (library_rest call)
staged_rest (layers.TypeText t place) = within library_fitting (type_asked t place)

abbrev pub StageGiven : Type 0
StageGiven = Given StageState LuaAnswer

abbrev pub StagedFits : Staged → StageGiven → Type 0
StagedFits (layers.Lua lua) next = LuaFits lua (given_part lua_fitting next)
StagedFits (layers.Spec spec) next = SpecFits spec (given_part spec_fitting next)
StagedFits (layers.Library call) next = Unit {0}
StagedFits (layers.TypeText t place) next = Unit {0}
