-- Lua code means the same in two trees that are alike.
use Rattle.std.specs.Prelude.{List, [], ◌∷◌, Some, None}
use Rattle.std.proofs.Common.{ap, ◌∙◌}
use Rattle.tl_base.specs.declared.ids.NodeId.{NodeId}
use Rattle.tl_base.specs.Plan.{Give, Read, Write}
use Rattle.tl_tree.specs.Nodes.{last_of}
use Rattle.tl_tree.specs.Code.{statements_at}
use Rattle.tl_alike.proofs.ReadAlike.{statements_same, last_same}
use Rattle.tl_alike.proofs.Plans.{plans_mean_same}
use Rattle.lua_value.specs.declared.value.Value.TheVariants as values
use Rattle.lua_table.specs.Heap.{next_env, with_env}
use Rattle.lua_model.specs.declared.job.LuaJob.{LuaJob}
use Rattle.lua_model.specs.declared.job.LuaJob.TheVariants as tasks
use Rattle.lua_model.specs.declared.job.Job.{Job}
use Rattle.lua_model.specs.declared.job.Job.TheVariants as jobs
use Rattle.lua_model.specs.declared.job.Caller.TheVariants.{ByOther}
use Rattle.lua_model.specs.declared.end.End.TheVariants.{One, Many, Fell}
use Rattle.lua_model.specs.Plans.{LuaPlan, scope_at, statements}
use Rattle.lua_model.specs.Meaning.{job_plan, chunk_plan, first_plan, close}
use Rattle.lua_alike.specs.Same.{IsProper, IsAsked, MeansSame}
use Rattle.lua_alike.proofs.PlansAlike.{Two, IsProperJob, Same, then_same, end_same, reading_same, writing_same, value_same, run_same}
use Rattle.lua_alike.proofs.CallsAlike.{call_closure_same, call_same}
use Rattle.lua_alike.proofs.FieldsAlike.{read_same, store_same}
use Rattle.lua_alike.proofs.ExpressionsAlike.{node_plan_same}
use Rattle.lua_alike.proofs.AssignmentsAlike.{target_plan_same}
use Rattle.lua_alike.proofs.LoopsAlike.{turn_plan_same}
use Rattle.lua_alike.proofs.StatementsAlike.{block_plan_same, statement_plan_same}

job_plan_same : {two : Two} (job : Job) → IsProperJob two job → Same two (job_plan two.items job) (job_plan two.other job)
job_plan_same {two} (jobs.Expression n scope) is =
    node_plan_same (two.alike.nodes n) n scope is (two.alike.uses n) (two.alike.selects n)
job_plan_same {two} (jobs.Statement n scope) is =
    statement_plan_same (two.alike.nodes n) n scope (two.alike.uses n) (two.alike.kinds n)
job_plan_same {two} (jobs.Target n scope) is =
    target_plan_same (two.alike.nodes n) scope (two.alike.uses n) (two.alike.selects n)
job_plan_same {two} (jobs.Turn n scope loop out) is = turn_plan_same (two.alike.nodes n) n scope loop out (two.alike.uses n)
job_plan_same (jobs.Callback c vs place) is = call_closure_same c vs place (λ r. end_same r)
job_plan_same (jobs.Read object key place outer) is = read_same object key place outer (λ v. end_same (One v))
job_plan_same (jobs.Store object key v place outer) is = store_same object key v place outer (end_same (Fell []))

-- the chunk with this root, whose statements are these
abbrev begun : NodeId → List NodeId → LuaPlan
begun root ns = Read (λ s. Write (with_env s root None) (statements ns (scope_at (next_env s)) [] Give))

begun_same : {two : Two} (root : NodeId) (ns : List NodeId) → Same two (begun root ns) (begun root ns)
begun_same root ns = reading_same (λ s. writing_same (run_same ns (scope_at (next_env s)) [] (λ r. end_same r)))

chunk_plan_same : {two : Two} → Same two (chunk_plan two.items) (chunk_plan two.other)
chunk_plan_same {two} =
    then_same (begun_same (last_of two.items) (statements_at two.items (last_of two.items)))
    (ap (λ (root : NodeId). begun root (statements_at two.items root)) (last_same two.items two.other two.alike)
    ∙ ap (λ (ns : List NodeId). begun (last_of two.other) ns) (statements_same two.items two.other two.alike (last_of two.other)))

first_plan_same : {two : Two} (task : LuaJob) → IsProper two.items two.other task
    → Same two (first_plan two.items task) (first_plan two.other task)
first_plan_same tasks.Chunk is = chunk_plan_same
first_plan_same (tasks.Call f vs place) is = call_same ByOther f vs place (Some place) (λ r. end_same r)
first_plan_same (tasks.Expr n env) is = value_same n (scope_at env) is (λ v. end_same (Many (v ∷ [])))
first_plan_same (tasks.Emitted n env) is = block_plan_same n (scope_at env) (λ r. end_same r)
first_plan_same (tasks.Index v text place) is =
    read_same v (values.Text text) place None (λ w. end_same (Many (w ∷ [])))

pub lua_same : MeansSame
lua_same items other alike task is =
    let two : Two = record { items = items; other = other; alike = alike } in
    plans_mean_same (IsProperJob two) IsAsked close (job_plan items) (job_plan other) (first_plan items task) (first_plan other task)
    (λ job proper. (job_plan_same {two = two} job proper).same) (first_plan_same {two = two} task is).same
