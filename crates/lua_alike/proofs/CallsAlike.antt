-- Calls do the same in two trees that are alike.
use Rattle.std.specs.Prelude.{◌∷◌, List, [], codes, nat_lt, Option}
use Rattle.std.proofs.Common.{ap, ◌∙◌}
use Rattle.tl_base.specs.declared.ids.NodeId.{NodeId}
use Rattle.tl_base.specs.declared.ids.ClosureId.{ClosureId}
use Rattle.tl_base.specs.declared.ids.FnId.{FnId}
use Rattle.tl_base.specs.declared.place.Place.{Place}
use Rattle.tl_base.specs.Plan.{Write}
use Rattle.tl_tree.specs.Code.{Parts, function_at, statements_at}
use Rattle.tl_alike.proofs.ReadAlike.{statements_same, function_same}
use Rattle.lua_value.specs.declared.library.LibFn.{LibFn}
use Rattle.lua_value.specs.declared.value.Value.{Value}
use Rattle.lua_value.specs.declared.value.Value.TheVariants as values
use Rattle.lua_value.specs.Values.{kind_of}
use Rattle.lua_table.specs.declared.env.Closure.{Closure}
use Rattle.lua_table.specs.LuaState.{LuaState}
use Rattle.lua_table.specs.Heap.{closure_at}
use Rattle.lua_table.specs.Metatables.{handler_at}
use Rattle.lua_ops.specs.declared.fault.Fault.TheVariants as faults
use Rattle.lua_model.specs.declared.job.Job.TheVariants as jobs
use Rattle.lua_model.specs.declared.job.Caller.{Caller}
use Rattle.lua_model.specs.declared.job.Caller.TheVariants.{ByNode, ByOther}
use Rattle.lua_model.specs.declared.end.End.{End}
use Rattle.lua_model.specs.declared.question.LuaQuestion.TheVariants.{Library, Terra}
use Rattle.lua_model.specs.Plans.{LuaPlan, statements, reply}
use Rattle.lua_model.specs.Calls.{most_calls, leave, deepen, called_state, called_scope, returned, call_function, call_closure}
use Rattle.lua_model.specs.Calls.{ask_library, call_library, call_terra, call_handler, call_lua, call}
use Rattle.lua_alike.proofs.PlansAlike.{Two, Same, then_same, if_same, do_same, ask_same, reading_same, writing_same, run_same, raise_same}

pub leave_same : {two : Two} (r : End) {go goes : End → LuaPlan} → ((e : End) → Same two (go e) (goes e))
    → Same two (leave r go) (leave r goes)
leave_same r h = reading_same (λ s. writing_same (h r))

pub deepen_same : {two : Two} (place : Place) {go goes : LuaState → LuaPlan} → ((s : LuaState) → Same two (go s) (goes s))
    → Same two (deepen place go) (deepen place goes)
deepen_same place h =
    reading_same (λ s. if_same (nat_lt s.calls most_calls) (h s) (raise_same place faults.StackOverflow))

-- ---- functions of the library

pub ask_library_same : {two : Two} (f : LibFn) (vs : List Value) (place : Place) (outer : Option Place) {go goes : End → LuaPlan}
    → ((r : End) → Same two (go r) (goes r)) → Same two (ask_library f vs place outer go) (ask_library f vs place outer goes)
ask_library_same f vs place outer h =
    ask_same (Library (record { function = f; args = vs; place = place; outer = outer })) (λ a. h (reply a))

pub call_library_same : {two : Two} (f : LibFn) (vs : List Value) (place : Place) (outer : Option Place) {go goes : End → LuaPlan}
    → ((r : End) → Same two (go r) (goes r)) → Same two (call_library f vs place outer go) (call_library f vs place outer goes)
call_library_same f vs place outer h =
    deepen_same place (λ s. writing_same (ask_library_same f vs place outer (λ r. leave_same r h)))

-- ---- functions of Lua code

-- a call of a function with these parts, and these statements in its block
abbrev called : Parts → List NodeId → Closure → List Value → Place → (End → LuaPlan) → LuaPlan
called function ns c vs place go =
    deepen place (λ s.
    Write (called_state function c vs s)
    (statements ns (called_scope function c vs place s) [] (λ r. leave (returned r) go)))

called_same : {two : Two} (function : Parts) (ns : List NodeId) (c : Closure) (vs : List Value) (place : Place) {go goes : End → LuaPlan}
    → ((r : End) → Same two (go r) (goes r)) → Same two (called function ns c vs place go) (called function ns c vs place goes)
called_same function ns c vs place h =
    deepen_same place (λ s. writing_same (run_same ns (called_scope function c vs place s) [] (λ r. leave_same (returned r) h)))

call_function_same : {two : Two} (c : Closure) (vs : List Value) (place : Place) {go goes : End → LuaPlan}
    → ((r : End) → Same two (go r) (goes r)) → Same two (call_function two.items c vs place go) (call_function two.other c vs place goes)
call_function_same {two} c vs place {go} {goes} h =
    let one = function_at two.items c.function in
    let other = function_at two.other c.function in
    then_same (called_same one (statements_at two.items one.block) c vs place h)
    (ap (λ (f : Parts). called f (statements_at two.items f.block) c vs place goes) (function_same two.items two.other two.alike c.function)
    ∙ ap (λ (ns : List NodeId). called other ns c vs place goes) (statements_same two.items two.other two.alike other.block))

pub call_closure_same : {two : Two} (c : ClosureId) (vs : List Value) (place : Place) {go goes : End → LuaPlan}
    → ((r : End) → Same two (go r) (goes r)) → Same two (call_closure two.items c vs place go) (call_closure two.other c vs place goes)
call_closure_same c vs place h = reading_same (λ s. call_function_same (closure_at s c) vs place h)

-- ---- Terra functions

pub call_terra_same : {two : Two} (f : FnId) (vs : List Value) (place : Place) {go goes : End → LuaPlan}
    → ((r : End) → Same two (go r) (goes r)) → Same two (call_terra f vs place go) (call_terra f vs place goes)
call_terra_same f vs place h = ask_same (Terra f vs place) (λ a. h (reply a))

-- ---- any value

pub call_handler_same : {two : Two} (v : Value) (vs : List Value) (place : Place) (outer : Option Place) {go goes : End → LuaPlan}
    {otherwise others : LuaPlan} → ((r : End) → Same two (go r) (goes r)) → Same two otherwise others
    → Same two (call_handler v vs place outer go otherwise) (call_handler v vs place outer goes others)
call_handler_same (values.Closure c) vs place outer h k = do_same (jobs.Callback c vs place) tt h
call_handler_same (values.Library f) vs place outer h k = call_library_same f vs place outer h
call_handler_same _ vs place outer h k = k

pub call_lua_same : {two : Two} (by : Caller) (c : ClosureId) (vs : List Value) (place : Place) {go goes : End → LuaPlan}
    → ((r : End) → Same two (go r) (goes r)) → Same two (call_lua two.items by c vs place go) (call_lua two.other by c vs place goes)
call_lua_same ByNode c vs place h = call_closure_same c vs place h
call_lua_same ByOther c vs place h = do_same (jobs.Callback c vs place) tt h

pub call_same : {two : Two} (by : Caller) (v : Value) (vs : List Value) (place : Place) (outer : Option Place) {go goes : End → LuaPlan}
    → ((r : End) → Same two (go r) (goes r))
    → Same two (call two.items by v vs place outer go) (call two.other by v vs place outer goes)
call_same by (values.Closure c) vs place outer h = call_lua_same by c vs place h
call_same by (values.Library f) vs place outer h = call_library_same f vs place outer h
call_same by (values.Table t) vs place outer h =
    reading_same (λ s.
    call_handler_same (handler_at s t (codes "__call")) (values.Table t ∷ vs) place outer h
    (raise_same place (faults.Call (kind_of (values.Table t)))))
call_same by (values.TerraFunction f) vs place outer h = call_terra_same f vs place h
call_same by (values.Primitive p) vs place outer h = raise_same place faults.CallsTerra
call_same by v vs place outer h = raise_same place (faults.Call (kind_of v))
