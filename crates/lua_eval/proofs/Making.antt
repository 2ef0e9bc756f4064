-- What a step does that made an environment or a function.
use Rattle.std.proofs.Common.{◌≡◌, ℕ, List, [], ◌∷◌, ◌++◌, sym, ap, ◌∙◌, Some}
use Rattle.tl_base.specs.declared.ids.NodeId.{NodeId}
use Rattle.tl_base.specs.declared.ids.EnvId.{EnvId}
use Rattle.tl_base.specs.declared.ids.ClosureId.{ClosureId}
use Rattle.tl_tree.specs.Code.{Items}
use Rattle.lua_value.specs.declared.value.Value.{Value}
use Rattle.lua_value.specs.declared.value.Value.TheVariants.{Closure}
use Rattle.lua_table.specs.LuaState.{LuaState}
use Rattle.lua_table.specs.Heap.{next_env, with_env, next_closure, with_closure}
use Rattle.lua_table.specs.Cells.{declare}
use Rattle.lua_model.specs.declared.end.End.{End}
use Rattle.lua_model.specs.declared.scope.Scope.{Scope}
use Rattle.lua_model.specs.Plans.{LuaPlan, within, entering, statements}
use Rattle.lua_model.specs.Expressions.{closing}
use Rattle.lua_model.specs.Loops.{with_variable}
use Rattle.lua_eval.specs.declared.frame.LuaFrame.{LuaFrame}
use Rattle.lua_eval.specs.Steps.{LuaStep, Goes}
use Rattle.lua_eval.proofs.Below.{moved}

-- an environment
pub entering_goes : (items : Items) (fs fs2 : List LuaFrame) (n : NodeId) (scope inner : Scope) (go : Scope → LuaPlan) (s t s2 : LuaState)
    (left left2 : ℕ) (step : LuaStep) (env : EnvId)
    → inner ≡ within scope env → env ≡ next_env s → t ≡ with_env s n (Some scope.env)
    → Goes items fs (go inner) t left fs2 step s2 left2 → Goes items fs (entering n scope go) s left fs2 step s2 left2
entering_goes items fs fs2 n scope inner go s t s2 left left2 step env inner_is env_is heap_is g =
    moved items fs fs2 (go (within scope (next_env s))) (go inner) (with_env s n (Some scope.env)) t s2 left left2 step
    (ap go (sym (inner_is ∙ ap (within scope) env_is))) (sym heap_is) g

-- an environment with the variable of a turn
pub variable_goes : (items : Items) (fs fs2 : List LuaFrame) (n : NodeId) (scope inner : Scope) (v : Value) (go : Scope → LuaPlan)
    (s t s2 : LuaState) (left left2 : ℕ) (step : LuaStep) (env : EnvId)
    → inner ≡ within scope env → env ≡ next_env s → t ≡ declare env v (with_env s n (Some scope.env))
    → Goes items fs (go inner) t left fs2 step s2 left2 → Goes items fs (with_variable n scope v go) s left fs2 step s2 left2
variable_goes items fs fs2 n scope inner v go s t s2 left left2 step env inner_is env_is heap_is g =
    moved items fs fs2 (go (within scope (next_env s))) (go inner) (declare (next_env s) v (with_env s n (Some scope.env))) t s2 left left2 step
    (ap go (sym (inner_is ∙ ap (within scope) env_is)))
    (sym (heap_is ∙ ap (λ (e : EnvId). declare e v (with_env s n (Some scope.env))) env_is)) g

-- a function
pub closing_goes : (items : Items) (fs fs2 : List LuaFrame) (function : NodeId) (scope : Scope) (go : Value → LuaPlan)
    (s t s2 : LuaState) (left left2 : ℕ) (step : LuaStep) (id : ClosureId)
    → id ≡ next_closure s → t ≡ with_closure s (record { function = function; env = scope.env })
    → Goes items fs (go (Closure id)) t left fs2 step s2 left2 → Goes items fs (closing function scope go) s left fs2 step s2 left2
closing_goes items fs fs2 function scope go s t s2 left left2 step id id_is heap_is g =
    moved items fs fs2 (go (Closure (next_closure s))) (go (Closure id)) (with_closure s (record { function = function; env = scope.env })) t
    s2 left left2 step (ap (λ (i : ClosureId). go (Closure i)) (sym id_is)) (sym heap_is) g

-- statements that are known by equations
pub statements_are : (ns ns2 : List NodeId) (scope scope2 : Scope) (out out2 : List Value) (go : End → LuaPlan)
    → ns ≡ ns2 → scope ≡ scope2 → out ≡ out2 → statements ns scope out go ≡ statements ns2 scope2 out2 go
statements_are ns ns2 scope scope2 out out2 go e f g =
    ap (λ (l : List NodeId). statements l scope out go) e
    ∙ ap (λ (sc : Scope). statements ns2 sc out go) f ∙ ap (λ (o : List Value). statements ns2 scope2 o go) g
