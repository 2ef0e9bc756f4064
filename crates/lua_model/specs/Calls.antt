-- Calls (Lua 5.1 manual, sections 2.5.8 and 2.5.9).
use Rattle.std.specs.Prelude.{ℕ, ◌+◌, List, [], ◌∷◌, length, drop, codes, nat_lt, Option, Some, if◌then◌else◌}
use Rattle.tl_base.specs.declared.ids.ClosureId.{ClosureId}
use Rattle.tl_base.specs.declared.ids.FnId.{FnId}
use Rattle.tl_base.specs.declared.limits.TheConstants.{MAX_LUA_CALLS}
use Rattle.tl_base.specs.declared.place.Place.{Place}
use Rattle.tl_base.specs.Plan.{Do, AskFor, Read, Write}
use Rattle.tl_tree.specs.Code.{Items, Parts, function_at, statements_at}
use Rattle.lua_value.specs.declared.library.LibFn.{LibFn}
use Rattle.lua_value.specs.declared.value.Value.{Value}
use Rattle.lua_value.specs.declared.value.Value.TheVariants as values
use Rattle.lua_value.specs.Values.{kind_of}
use Rattle.lua_table.specs.declared.env.Closure.{Closure}
use Rattle.lua_table.specs.LuaState.{LuaState}
use Rattle.lua_table.specs.Heap.{next_env, next_cell, with_env, closure_at, deeper, shallower}
use Rattle.lua_table.specs.Metatables.{handler_at}
use Rattle.lua_table.specs.Cells.{declare_all, with_cells}
use Rattle.lua_ops.specs.declared.fault.Fault.TheVariants as faults
use Rattle.lua_model.specs.declared.scope.Scope.{Scope}
use Rattle.lua_model.specs.declared.job.Job.TheVariants as jobs
use Rattle.lua_model.specs.declared.job.Caller.{Caller}
use Rattle.lua_model.specs.declared.job.Caller.TheVariants.{ByNode, ByOther}
use Rattle.lua_model.specs.declared.end.End.{End}
use Rattle.lua_model.specs.declared.end.End.TheVariants.{Many, Fell, Broke, Returned}
use Rattle.lua_model.specs.declared.question.LuaQuestion.TheVariants.{Library, Terra}
use Rattle.lua_model.specs.Plans.{LuaPlan, statements, reply, raise}

-- at most so many calls are in progress
abbrev pub most_calls : ℕ
most_calls = MAX_LUA_CALLS

-- ends a call, however it ended
abbrev pub leave : End → (End → LuaPlan) → LuaPlan
leave r go = Read (λ s. Write (shallower s) (go r))

-- begins a call, where there may be one more
abbrev pub deepen : Place → (LuaState → LuaPlan) → LuaPlan
deepen place go = Read (λ s. if nat_lt s.calls most_calls then go s else raise place faults.StackOverflow)

-- ---- functions of Lua code

-- how many declarations a function has before its block
abbrev pub parameter_count : Parts → ℕ
parameter_count function = if function.method then length function.names + 1 else length function.names

-- the values of `...`
abbrev pub extras : Parts → List Value → List Value
extras function vs = if function.variadic then drop (parameter_count function) vs else []

-- the heap in a call, whose environment has the parameters
abbrev pub declared_state : Parts → Closure → List Value → LuaState → LuaState
declared_state function c vs s =
    declare_all (parameter_count function) (next_env s) vs (with_env (deeper s) c.function (Some c.env))

-- the values of `...` stand in the cells after those
abbrev pub called_state : Parts → Closure → List Value → LuaState → LuaState
called_state function c vs s = with_cells (extras function vs) (declared_state function c vs s)

abbrev pub called_scope : Parts → Closure → List Value → Place → LuaState → Scope
called_scope function c vs place s =
    record {
      env = next_env s;
      extra = next_cell (declared_state function c vs s);
      count = length (extras function vs);
      call = Some place;
    }

-- what a call gives when the function's block has ended
abbrev pub returned : End → End
returned (Returned vs out) = Many vs
returned (Fell out) = Many []
returned (Broke out) = Many []
returned r = r

abbrev pub call_function : Items → Closure → List Value → Place → (End → LuaPlan) → LuaPlan
call_function items c vs place go =
    let function = function_at items c.function in
    deepen place (λ s.
    Write (called_state function c vs s)
    (statements (statements_at items function.block) (called_scope function c vs place s) []
    (λ r. leave (returned r) go)))

abbrev pub call_closure : Items → ClosureId → List Value → Place → (End → LuaPlan) → LuaPlan
call_closure items c vs place go = Read (λ s. call_function items (closure_at s c) vs place go)

-- ---- functions of the library

-- asks for a function of the library. The function that does so was called at `outer`
abbrev pub ask_library : LibFn → List Value → Place → Option Place → (End → LuaPlan) → LuaPlan
ask_library f vs place outer go =
    AskFor (Library (record { function = f; args = vs; place = place; outer = outer })) (λ a. go (reply a))

abbrev pub call_library : LibFn → List Value → Place → Option Place → (End → LuaPlan) → LuaPlan
call_library f vs place outer go =
    deepen place (λ s. Write (deeper s) (ask_library f vs place outer (λ r. leave r go)))

-- ---- Terra functions

-- asks for a call of a Terra function, which is no call in progress
abbrev pub call_terra : FnId → List Value → Place → (End → LuaPlan) → LuaPlan
call_terra f vs place go = AskFor (Terra f vs place) (λ a. go (reply a))

-- ---- any value

-- a call of what is a function by a metatable's event
abbrev pub call_handler : Value → List Value → Place → Option Place → (End → LuaPlan) → LuaPlan → LuaPlan
call_handler (values.Closure c) vs place outer go otherwise = Do (jobs.Callback c vs place) go
call_handler (values.Library f) vs place outer go otherwise = call_library f vs place outer go
call_handler v vs place outer go otherwise = otherwise

-- a call of a function of Lua code: what is no node pays for it
abbrev pub call_lua : Items → Caller → ClosureId → List Value → Place → (End → LuaPlan) → LuaPlan
call_lua items ByNode c vs place go = call_closure items c vs place go
call_lua items ByOther c vs place go = Do (jobs.Callback c vs place) go

-- Calls a value. A table is called by its handler, which must be a function. Lua code can't call Terra's primitives.
abbrev pub call : Items → Caller → Value → List Value → Place → Option Place → (End → LuaPlan) → LuaPlan
call items by (values.Closure c) vs place outer go = call_lua items by c vs place go
call items by (values.Library f) vs place outer go = call_library f vs place outer go
call items by (values.Table t) vs place outer go =
    Read (λ s.
    call_handler (handler_at s t (codes "__call")) (values.Table t ∷ vs) place outer go
    (raise place (faults.Call (kind_of (values.Table t)))))
call items by (values.TerraFunction f) vs place outer go = call_terra f vs place go
call items by (values.Primitive p) vs place outer go = raise place faults.CallsTerra
call items by v vs place outer go = raise place (faults.Call (kind_of v))
