-- Statements that were executed at once, and what is behind them.
use Rattle.std.proofs.Common.{◌≡◌, ℕ, ◌-◌, ◌≤◌, List, [], ◌∷◌, sym, ap, ◌∙◌, Some}
use Rattle.std.proofs.lemmas.List.{append-nil}
use Rattle.tl_base.specs.declared.ids.NodeId.{NodeId}
use Rattle.tl_base.specs.declared.ids.EnvId.{EnvId}
use Rattle.tl_base.specs.declared.place.Place.{Place}
use Rattle.tl_base.specs.Layer.{state}
use Rattle.tl_base.specs.Plan.{Run, Give, Do, then_do, run}
use Rattle.tl_base.proofs.Plans.{run_job-is, paid-enough}
use Rattle.tl_tree.specs.declared.node.Statement.{Statement}
use Rattle.tl_tree.specs.Code.{Items, statements_at}
use Rattle.tl_tree.specs.Item.{Item}
use Rattle.tl_tree.specs.Item as kept
use Rattle.tl_tree.specs.Nodes.{item_at}
use Rattle.lua_value.specs.declared.value.Value.{Value}
use Rattle.lua_table.specs.LuaState.{LuaState}
use Rattle.lua_table.specs.Heap.{next_env, with_env}
use Rattle.lua_model.specs.declared.job.Job.TheVariants as jobs
use Rattle.lua_model.specs.declared.end.End.{End}
use Rattle.lua_model.specs.declared.end.End.TheVariants.{Fell, Returned}
use Rattle.lua_model.specs.declared.question.LuaQuestion.{LuaQuestion}
use Rattle.lua_model.specs.declared.question.LuaAnswer.{LuaAnswer}
use Rattle.lua_model.specs.declared.scope.Scope.{Scope}
use Rattle.lua_model.specs.Plans.{LuaPlan, on_fell, statements, within}
use Rattle.lua_model.specs.Statements.{statement_of, statement_plan, block_plan}
use Rattle.lua_model.specs.Meaning.{job_plan}
use Rattle.lua_model.proofs.Composing.{run_statements}
use Rattle.lua_eval.specs.AtOnce.{EndsAtOnce, Becomes}
use Rattle.lua_eval.specs.Running.{entered_plan}
use Rattle.lua_eval.specs.declared.running.Entered.{Entered}
use Rattle.lua_eval.proofs.Below.{jobs_of}

-- a statement that emitted nothing, with those behind it
pub statement_passes : (items : Items) (n : NodeId) (ns : List NodeId) (scope : Scope) (out : List Value) (go : End → LuaPlan)
    (s t : LuaState) (left mid : ℕ)
    → EndsAtOnce items (jobs.Statement n scope) (Fell []) s left t mid
    → Becomes items (statements (n ∷ ns) scope out go) s left (statements ns scope out go) t mid
statement_passes items n ns scope out go s t left mid h = λ later.
    ap (λ (o : Run LuaState LuaQuestion LuaAnswer End).
    then_do o (λ r. run (jobs_of items) (on_fell r out go (λ all. statements ns scope all go)))) (h later)
    ∙ ap (λ (vs : List Value). run (jobs_of items) (statements ns scope vs go) (state t mid) later) (append-nil out)

-- a statement whose unit is paid, and what is left of it
pub statement_entered : (items : Items) (n : NodeId) (scope : Scope) (place : Place) (st : Statement) (entered : Entered) (go : End → LuaPlan)
    (s t : LuaState) (left mid : ℕ)
    → item_at items n ≡ kept.Statement place st → 1 ≤ left
    → Becomes items (statement_of items st n place scope) s (left - 1) (entered_plan entered scope Give) t mid
    → Becomes items (Do (jobs.Statement n scope) go) s left (entered_plan entered scope go) t mid
statement_entered items n scope place st entered go s t left mid is enough h = λ later.
    ap (λ (o : Run LuaState LuaQuestion LuaAnswer End). then_do o (λ r. run (jobs_of items) (go r)))
    (run_job-is (job_plan items) (jobs.Statement n scope) (state s left) later
    ∙ paid-enough 1 (state s left) (λ w. run (jobs_of items) (statement_plan items (item_at items n) n scope) w later) enough
    ∙ ap (λ (i : Item). run (jobs_of items) (statement_plan items i n scope) (state s (left - 1)) later) is
    ∙ h later)
    ∙ sym (run_statements (jobs_of items) entered.list.now (within scope entered.env) [] go (state t mid) later)

-- what is left of a statement is nothing, and those behind it follow
pub entered_whole : (items : Items) (n : NodeId) (ns : List NodeId) (scope : Scope) (out : List Value) (go : End → LuaPlan)
    (s t : LuaState) (left mid : ℕ) (entered : Entered)
    → entered.list.now ≡ []
    → ((k : End → LuaPlan) → Becomes items (Do (jobs.Statement n scope) k) s left (entered_plan entered scope k) t mid)
    → Becomes items (statements (n ∷ ns) scope out go) s left (statements ns scope out go) t mid
entered_whole items n ns scope out go s t left mid entered none h = λ later.
    let k : End → LuaPlan = λ r. on_fell r out go (λ all. statements ns scope all go) in
    h k later
    ∙ ap (λ (ms : List NodeId). run (jobs_of items) (statements ms (within scope entered.env) [] k) (state t mid) later) none
    ∙ ap (λ (vs : List Value). run (jobs_of items) (statements ns scope vs go) (state t mid) later) (append-nil out)

-- a block that is entered, of whose statements some were executed
pub entering_passes : (items : Items) (n : NodeId) (scope inner : Scope) (env : EnvId) (ns ms : List NodeId) (s t u : LuaState) (left mid : ℕ)
    → inner ≡ within scope env → env ≡ next_env s → t ≡ with_env s n (Some scope.env) → ns ≡ statements_at items n
    → Becomes items (statements ns inner [] Give) t left (statements ms inner [] Give) u mid
    → Becomes items (block_plan items n scope Give) s left (statements ms (within scope env) [] Give) u mid
entering_passes items n scope inner env ns ms s t u left mid inner_is env_is heap_is list_is h = λ later.
    let ls = statements_at items n in
    ap (λ (e : EnvId). run (jobs_of items) (statements ls (within scope e) [] Give) (state (with_env s n (Some scope.env)) left) later)
    (sym env_is)
    ∙ ap (λ (w : LuaState). run (jobs_of items) (statements ls (within scope env) [] Give) (state w left) later) (sym heap_is)
    ∙ ap (λ (l : List NodeId). run (jobs_of items) (statements l (within scope env) [] Give) (state t left) later) (sym list_is)
    ∙ ap (λ (sc : Scope). run (jobs_of items) (statements ns sc [] Give) (state t left) later) (sym inner_is)
    ∙ h later
    ∙ ap (λ (sc : Scope). run (jobs_of items) (statements ms sc [] Give) (state u mid) later) inner_is

-- a statement that returns, with what stands behind it
pub statement_returns : (items : Items) (n : NodeId) (ns : List NodeId) (scope : Scope) (out vs : List Value) (go : End → LuaPlan)
    (s t : LuaState) (left mid : ℕ)
    → EndsAtOnce items (jobs.Statement n scope) (Returned vs []) s left t mid
    → Becomes items (statements (n ∷ ns) scope out go) s left (go (Returned vs out)) t mid
statement_returns items n ns scope out vs go s t left mid h = λ later.
    ap (λ (o : Run LuaState LuaQuestion LuaAnswer End).
    then_do o (λ r. run (jobs_of items) (on_fell r out go (λ all. statements ns scope all go)))) (h later)
    ∙ ap (λ (more : List Value). run (jobs_of items) (go (Returned vs more)) (state t mid) later) (append-nil out)

-- what returns in a block inside returns from the statements around it
pub returned_outwards : (items : Items) (ns : List NodeId) (scope : Scope) (out vs : List Value) (go : End → LuaPlan) (s : LuaState) (left : ℕ)
    → Becomes items (on_fell (Returned vs []) out go (λ all. statements ns scope all go)) s left (go (Returned vs out)) s left
returned_outwards items ns scope out vs go s left = λ later.
    ap (λ (more : List Value). run (jobs_of items) (go (Returned vs more)) (state s left) later) (append-nil out)
