-- Turns of a numeric `for` that were done at once, and what is behind them.
use Rattle.std.proofs.Common.{◌≡◌, ℕ, ◌-◌, ◌≤◌, ℤ, List, sym, ap, ◌∙◌, Some}
use Rattle.tl_base.specs.declared.ids.NodeId.{NodeId}
use Rattle.tl_base.specs.declared.ids.EnvId.{EnvId}
use Rattle.tl_base.specs.declared.place.Place.{Place}
use Rattle.tl_base.specs.Layer.{state}
use Rattle.tl_base.specs.Plan.{run, run_job}
use Rattle.tl_base.proofs.Plans.{run_job-is, paid-enough}
use Rattle.tl_base.proofs.Steps.{then_do-give}
use Rattle.tl_tree.specs.declared.node.Statement.{Statement}
use Rattle.tl_tree.specs.Code.{Items, statements_at}
use Rattle.tl_tree.specs.Item.{Item}
use Rattle.tl_tree.specs.Item as kept
use Rattle.tl_tree.specs.Nodes.{item_at}
use Rattle.lua_value.specs.declared.value.Value.{Value}
use Rattle.lua_table.specs.LuaState.{LuaState}
use Rattle.lua_table.specs.Heap.{next_env, with_env}
use Rattle.lua_table.specs.Cells.{declare}
use Rattle.lua_model.specs.declared.job.Job.{Job}
use Rattle.lua_model.specs.declared.job.Job.TheVariants as jobs
use Rattle.lua_model.specs.declared.job.Loop.TheVariants as loops
use Rattle.lua_model.specs.declared.end.End.{End}
use Rattle.lua_model.specs.declared.scope.Scope.{Scope}
use Rattle.lua_model.specs.Loops.{turn, after_turn, turn_block, turn_plan, with_variable}
use Rattle.lua_model.specs.Plans.{LuaPlan, statements, within}
use Rattle.lua_model.specs.Meaning.{job_plan}
use Rattle.lua_eval.specs.AtOnce.{Becomes}
use Rattle.lua_eval.specs.Turns.{counted_plan, IsCounted, IsBlock}
use Rattle.lua_eval.proofs.Below.{jobs_of}

-- a node whose statement is a numeric `for`
pub counted_at : (items : Items) (n block : NodeId) (place : Place) (st : Statement)
    → item_at items n ≡ kept.Statement place st → IsBlock st block → IsCounted items n block
counted_at items n block place st is h = λ scope i limit by out.
    ap (λ (item : Item). turn_plan items item n scope (loops.Counted i limit by) out) is ∙ h items n scope i limit by out

-- a turn that has its unit
pub turn_paid : (items : Items) (n block : NodeId) (scope : Scope) (i limit by : ℤ) (out : List Value) (s : LuaState) (left : ℕ)
    → IsCounted items n block → 1 ≤ left
    → Becomes items (turn n scope (loops.Counted i limit by) out) s left (counted_plan items block n scope i limit by out) s (left - 1)
turn_paid items n block scope i limit by out s left counted enough = λ later.
    let job : Job = jobs.Turn n scope (loops.Counted i limit by) out in
    then_do-give (run_job (job_plan items) job (state s left) later)
    ∙ run_job-is (job_plan items) job (state s left) later
    ∙ paid-enough 1 (state s left) (λ w. run (jobs_of items) (job_plan items job) w later) enough
    ∙ ap (λ (p : LuaPlan). run (jobs_of items) p (state s (left - 1)) later) (counted scope i limit by out)

-- a turn whose variable is declared
pub variable_passes : (items : Items) (n block : NodeId) (scope inner : Scope) (env : EnvId) (v : Value) (ns : List NodeId) (out : List Value)
    (go : List Value → LuaPlan) (q : LuaPlan) (s t u : LuaState) (left mid : ℕ)
    → inner ≡ within scope env → env ≡ next_env s → t ≡ declare env v (with_env s n (Some scope.env)) → ns ≡ statements_at items block
    → Becomes items (statements ns inner out (λ r. after_turn r go)) t left q u mid
    → Becomes items (with_variable n scope v (λ sc. turn_block items block sc out go)) s left q u mid
variable_passes items n block scope inner env v ns out go q s t u left mid inner_is env_is heap_is list_is h = λ later.
    let ls = statements_at items block in
    let k : End → LuaPlan = λ r. after_turn r go in
    ap (λ (e : EnvId). run (jobs_of items) (statements ls (within scope e) out k) (state (declare e v (with_env s n (Some scope.env))) left) later)
    (sym env_is)
    ∙ ap (λ (w : LuaState). run (jobs_of items) (statements ls (within scope env) out k) (state w left) later) (sym heap_is)
    ∙ ap (λ (l : List NodeId). run (jobs_of items) (statements l (within scope env) out k) (state t left) later) (sym list_is)
    ∙ ap (λ (sc : Scope). run (jobs_of items) (statements ns sc out k) (state t left) later) (sym inner_is)
    ∙ h later
