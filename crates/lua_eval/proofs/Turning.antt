-- Ends, turns and heaps of statements and loops that are known by equations.
use Rattle.std.proofs.Common.{◌≡◌, ℕ, Bool, true, false, List, [], ◌∷◌, length, refl, sym, ap, ◌∙◌, subst, Option, Some, None, arith}
use Rattle.std.specs.Prelude.{ℤ, if◌then◌else◌}
use Rattle.tl_base.specs.declared.ids.NodeId.{NodeId}
use Rattle.tl_base.specs.declared.ids.EnvId.{EnvId}
use Rattle.tl_base.specs.declared.ids.ClosureId.{ClosureId}
use Rattle.tl_base.specs.declared.machine.Step.TheVariants.{Enter, Return}
use Rattle.tl_base.specs.Layer.{state}
use Rattle.tl_base.specs.Plan.{Give, Do, Read, Write, Gives}
use Rattle.tl_base.specs.Machine.{plug}
use Rattle.tl_tree.specs.Code.{Items}
use Rattle.lua_value.specs.declared.value.Value.{Value}
use Rattle.lua_value.specs.declared.value.Value.TheVariants.{Closure}
use Rattle.lua_value.specs.Values.{is_nil}
use Rattle.lua_table.specs.LuaState.{LuaState}
use Rattle.lua_table.specs.Heap.{next_env, with_env, next_closure, with_closure}
use Rattle.lua_table.specs.Cells.{first_value, declare, declare_all}
use Rattle.lua_table.specs.Keeping.{KeepsHeap}
use Rattle.lua_table.proofs.Keeping.{keeps_env, keeps_then}
use Rattle.lua_model.specs.declared.end.End.{End}
use Rattle.lua_model.specs.declared.end.End.TheVariants.{Fell}
use Rattle.lua_model.specs.declared.job.Job.{Job}
use Rattle.lua_model.specs.declared.job.Loop.{Loop}
use Rattle.lua_model.specs.declared.job.Loop.TheVariants as loops
use Rattle.lua_model.specs.declared.job.Job.TheVariants as jobs
use Rattle.lua_model.specs.declared.scope.Scope.{Scope}
use Rattle.lua_model.specs.Plans.{LuaPlan, fell, within}
use Rattle.lua_model.specs.Statements.{local_function_plan}
use Rattle.lua_model.specs.Loops.{over, turn, listed, count, runs}
use Rattle.lua_eval.specs.declared.frame.LuaFrame.{LuaFrame}
use Rattle.lua_eval.specs.Frames.{lua_rules}
use Rattle.lua_eval.specs.Steps.{LuaStep, Goes}
use Rattle.lua_eval.proofs.Below.{moved, chosen}
use Rattle.lua_eval.proofs.Doing.{returns, enters_alone}

-- ---- ends

-- an end that is known by an equation
pub gives : (items : Items) (fs : List LuaFrame) (r r2 : End) (s : LuaState) (left : ℕ)
    → r2 ≡ r → Goes items fs (Give r) s left fs (Return r2) s left
gives items fs r r2 s left e = λ later.
    ap (λ (x : End). plug (lua_rules items) fs (Gives x (state s left) later)) (sym e)

-- a plan that ends with nothing emitted
pub falls_as : (items : Items) (fs : List LuaFrame) (p : LuaPlan) (none : List Value) (s : LuaState) (left : ℕ)
    → p ≡ fell → none ≡ [] → Goes items fs p s left fs (Return (Fell none)) s left
falls_as items fs p none s left is e =
    moved items fs fs p fell s s s left left (Return (Fell none)) is refl
    (gives items fs (Fell []) (Fell none) s left (ap (λ (out : List Value). Fell out) e))

-- a plan that is over
pub over_as : (items : Items) (fs : List LuaFrame) (p : LuaPlan) (out : List Value) (s : LuaState) (left : ℕ)
    → p ≡ over out → Goes items fs p s left fs (Return (Fell out)) s left
over_as items fs p out s left is =
    moved items fs fs p (over out) s s s left left (Return (Fell out)) is refl (returns items fs (Fell out) s left)

-- a plan that is a job alone
pub enters_as : (items : Items) (fs : List LuaFrame) (p : LuaPlan) (job : Job) (s : LuaState) (left : ℕ)
    → p ≡ Do job Give → Goes items fs p s left fs (Enter job) s left
enters_as items fs p job s left is =
    moved items fs fs p (Do job Give) s s s left left (Enter job) is refl (enters_alone items fs job s left)

-- ---- tests

pub if_true : (b : Bool) (p q : LuaPlan) → b ≡ true → (if b then p else q) ≡ p
if_true b p q e = ap (λ (c : Bool). if c then p else q) e

pub if_false : (b : Bool) (p q : LuaPlan) → b ≡ false → (if b then p else q) ≡ q
if_false b p q e = ap (λ (c : Bool). if c then p else q) e

-- ---- heaps

pub env_kept : (s t : LuaState) (n : NodeId) (outer : Option EnvId) → t ≡ with_env s n outer → KeepsHeap s t
env_kept s t n outer is = subst (KeepsHeap s) (sym is) (keeps_env s n outer)

pub env_kept_on : (s t u : LuaState) (n : NodeId) (outer : Option EnvId)
    → t ≡ with_env s n outer → KeepsHeap t u → KeepsHeap s u
env_kept_on s t u n outer is later = keeps_then s t u (env_kept s t n outer is) later

-- ---- the turns of a generic `for`

-- the iterator gave nil
pub listed_over : (items : Items) (fs : List LuaFrame) (n : NodeId) (names : List NodeId) (scope : Scope) (f given control : Value)
    (vs out : List Value) (s : LuaState) (left : ℕ)
    → control ≡ first_value vs → is_nil control ≡ true
    → Goes items fs (listed n names scope f given vs out) s left fs (Return (Fell out)) s left
listed_over items fs n names scope f given control vs out s left control_is nil =
    let begun : LuaPlan = Read (λ w.
    Write (declare_all (length names) (next_env w) vs (with_env w n (Some scope.env)))
    (turn n scope (loops.Listed (next_env w) f given (first_value vs)) out)) in
    chosen items fs fs (is_nil (first_value vs)) true (over out) begun s s left left (Return (Fell out)) (ap is_nil (sym control_is) ∙ nil)
    (returns items fs (Fell out) s left)

-- a turn with the iterator's values
pub listed_turn : (items : Items) (fs : List LuaFrame) (n : NodeId) (names : List NodeId) (scope : Scope) (f given control : Value)
    (vs out : List Value) (s t : LuaState) (left : ℕ) (env : EnvId)
    → control ≡ first_value vs → is_nil control ≡ false → env ≡ next_env s
    → t ≡ declare_all (length names) env vs (with_env s n (Some scope.env))
    → Goes items fs (listed n names scope f given vs out) s left fs (Enter (jobs.Turn n scope (loops.Listed env f given control) out)) t left
listed_turn items fs n names scope f given control vs out s t left env control_is full env_is heap_is =
    let job : Job = jobs.Turn n scope (loops.Listed env f given control) out in
    let step : LuaStep = Enter job in
    let begun : LuaPlan = Read (λ w.
    Write (declare_all (length names) (next_env w) vs (with_env w n (Some scope.env)))
    (turn n scope (loops.Listed (next_env w) f given (first_value vs)) out)) in
    chosen items fs fs (is_nil (first_value vs)) false (over out) begun s t left left step (ap is_nil (sym control_is) ∙ full)
    (moved items fs fs (turn n scope (loops.Listed (next_env s) f given (first_value vs)) out) (Do job Give)
    (declare_all (length names) (next_env s) vs (with_env s n (Some scope.env))) t t left left step
    (ap (λ (e : EnvId). turn n scope (loops.Listed e f given (first_value vs)) out) (sym env_is)
    ∙ ap (λ (c : Value). turn n scope (loops.Listed env f given c) out) (sym control_is))
    (sym (heap_is ∙ ap (λ (e : EnvId). declare_all (length names) e vs (with_env s n (Some scope.env))) env_is))
    (enters_alone items fs job t left))

-- ---- `local function`

pub local_function_goes : (items : Items) (fs : List LuaFrame) (body : NodeId) (scope : Scope) (none : List Value) (s t u : LuaState)
    (left : ℕ) (id : ClosureId)
    → none ≡ [] → id ≡ next_closure s → t ≡ with_closure s (record { function = body; env = scope.env })
    → u ≡ declare scope.env (Closure id) t
    → Goes items fs (local_function_plan body scope) s left fs (Return (Fell none)) u left
local_function_goes items fs body scope none s t u left id none_is id_is made_is heap_is =
    let made : LuaState = with_closure s (record { function = body; env = scope.env }) in
    moved items fs fs fell fell (declare scope.env (Closure (next_closure s)) made) u u left left (Return (Fell none)) refl
    (sym (heap_is ∙ ap (λ (i : ClosureId). declare scope.env (Closure i) t) id_is
    ∙ ap (λ (w : LuaState). declare scope.env (Closure (next_closure s)) w) made_is))
    (falls_as items fs fell none u left refl none_is)
