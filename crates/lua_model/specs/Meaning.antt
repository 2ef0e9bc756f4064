-- What Lua code means: a function of what is asked for and of the answers that are given on the way.
use Rattle.std.specs.Prelude.{List, [], ◌∷◌, Some, None}
use Rattle.tl_base.specs.Layer.{Given, Meaning}
use Rattle.tl_base.specs.Plan.{Give, Read, Write, run, run_job, shown}
use Rattle.tl_tree.specs.Nodes.{item_at, last_of}
use Rattle.tl_tree.specs.Code.{Items, statements_at}
use Rattle.lua_value.specs.declared.value.Value.TheVariants as values
use Rattle.lua_table.specs.LuaState.{LuaState}
use Rattle.lua_table.specs.Heap.{next_env, with_env}
use Rattle.lua_model.specs.declared.job.LuaJob.{LuaJob}
use Rattle.lua_model.specs.declared.job.LuaJob.TheVariants as tasks
use Rattle.lua_model.specs.declared.job.Job.{Job}
use Rattle.lua_model.specs.declared.job.Job.TheVariants as jobs
use Rattle.lua_model.specs.declared.end.End.{End}
use Rattle.lua_model.specs.declared.end.End.TheVariants.{One, Many, Fell, Broke, Returned, Raised}
use Rattle.lua_model.specs.declared.end.LuaEnd.{LuaEnd}
use Rattle.lua_model.specs.declared.end.LuaEnd.TheVariants as ends
use Rattle.lua_model.specs.declared.question.LuaQuestion.{LuaQuestion}
use Rattle.lua_model.specs.declared.question.LuaAnswer.{LuaAnswer}
use Rattle.lua_model.specs.declared.job.Caller.TheVariants.{ByOther}
use Rattle.lua_model.specs.Plans.{LuaPlan, scope_at, give, alone, fell, value_of, statements}
use Rattle.lua_model.specs.Calls.{call, call_closure}
use Rattle.lua_model.specs.Fields.{read, store}
use Rattle.lua_model.specs.Expressions.{node_plan}
use Rattle.lua_model.specs.Assignments.{target_plan}
use Rattle.lua_model.specs.Loops.{turn_plan}
use Rattle.lua_model.specs.Statements.{statement_plan, block_plan}

-- ---- what is done inside, each of which pays one unit first

abbrev pub job_plan : Items → Job → LuaPlan
job_plan items (jobs.Expression n scope) = node_plan items (item_at items n) n scope
job_plan items (jobs.Statement n scope) = statement_plan items (item_at items n) n scope
job_plan items (jobs.Target n scope) = target_plan items (item_at items n) scope
job_plan items (jobs.Turn n scope loop out) = turn_plan items (item_at items n) n scope loop out
job_plan items (jobs.Callback c vs place) = call_closure items c vs place Give
job_plan items (jobs.Read object key place outer) = read object key place outer give
job_plan items (jobs.Store object key v place outer) = store object key v place outer fell

-- ---- what is asked for, which pays nothing by itself

-- the chunk's environment alone has none around it
abbrev pub chunk_plan : Items → LuaPlan
chunk_plan items =
    let root = last_of items in
    Read (λ s. Write (with_env s root None) (statements (statements_at items root) (scope_at (next_env s)) [] Give))

abbrev pub first_plan : Items → LuaJob → LuaPlan
first_plan items tasks.Chunk = chunk_plan items
first_plan items (tasks.Call f vs place) = call items ByOther f vs place (Some place) Give
first_plan items (tasks.Expr n env) = value_of n (scope_at env) alone
first_plan items (tasks.Emitted n env) = block_plan items n (scope_at env) Give
first_plan items (tasks.Index v text place) = read v (values.Text text) place None alone

-- how it ends: statements with what they emitted. Nothing that is asked for ends with `One`
abbrev pub close : End → LuaEnd
close (One v) = ends.Done []
close (Many vs) = ends.Done vs
close (Fell out) = ends.Done out
close (Broke out) = ends.Done out
close (Returned vs out) = ends.Done out
close (Raised v place) = ends.Raised v place

-- ---- the meaning

-- an answer, with the heap and the units with which it is given
abbrev pub LuaGiven : Type 0
LuaGiven = Given LuaState LuaAnswer

-- what is seen of it, given the first answer, which is `Go`, and the answers after it
abbrev pub lua : Items → LuaJob → Meaning LuaState LuaQuestion LuaAnswer LuaEnd
lua items task first later = shown close (run (run_job (job_plan items)) (first_plan items task) first.state later)
