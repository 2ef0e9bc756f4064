-- Calls, where one more may be in progress and where not.
use Rattle.std.proofs.Common.{◌≡◌, ℕ, Bool, true, false, List, [], ◌∷◌, ◌++◌, refl, sym, ap, ◌∙◌, Option}
use Rattle.std.specs.Prelude.{nat_lt, if◌then◌else◌}
use Rattle.tl_base.specs.declared.ids.ClosureId.{ClosureId}
use Rattle.tl_base.specs.declared.ids.FnId.{FnId}
use Rattle.tl_base.specs.declared.ids.NodeId.{NodeId}
use Rattle.tl_base.specs.declared.ids.TableId.{TableId}
use Rattle.tl_base.specs.declared.place.Place.{Place}
use Rattle.tl_base.specs.Layer.{state}
use Rattle.tl_base.specs.Plan.{Run, Give, Write, then_do, run}
use Rattle.tl_base.specs.declared.machine.Step.TheVariants.{Stop}
use Rattle.tl_tree.specs.Code.{Items, function_at, statements_at}
use Rattle.lua_value.specs.declared.library.LibFn.{LibFn}
use Rattle.lua_value.specs.declared.value.Value.{Value}
use Rattle.lua_value.specs.declared.value.Value.TheVariants as values
use Rattle.lua_table.specs.declared.env.Closure.{Closure}
use Rattle.lua_table.specs.LuaState.{LuaState}
use Rattle.lua_table.specs.Heap.{closure_at, deeper}
use Rattle.lua_ops.specs.declared.fault.Fault.TheVariants.{StackOverflow}
use Rattle.lua_model.specs.declared.end.End.{End}
use Rattle.lua_model.specs.declared.end.End.TheVariants.{One}
use Rattle.lua_model.specs.declared.question.LuaQuestion.{LuaQuestion}
use Rattle.lua_model.specs.declared.question.LuaQuestion.TheVariants.{Library}
use Rattle.lua_model.specs.declared.question.LuaAnswer.{LuaAnswer}
use Rattle.lua_model.specs.declared.job.Job.TheVariants as jobs
use Rattle.lua_model.specs.declared.job.Caller.{Caller}
use Rattle.lua_model.specs.declared.job.Caller.TheVariants.{ByNode}
use Rattle.lua_model.specs.declared.scope.Scope.{Scope}
use Rattle.lua_model.specs.Expressions.{call_plan}
use Rattle.lua_model.specs.Plans.{LuaPlan, on_one, statements, values_of, raise}
use Rattle.lua_model.specs.Calls.{most_calls, leave, returned, called_state, called_scope, ask_library, call_library, call_closure}
use Rattle.lua_model.specs.Calls.{call_handler, call}
use Rattle.lua_eval.specs.declared.frame.LuaFrame.{LuaFrame}
use Rattle.lua_eval.specs.declared.frame.LuaFrame.TheVariants as frames
use Rattle.lua_eval.specs.Calls.{entered_state, entered_scope, call_fault}
use Rattle.lua_eval.specs.AtOnce.{EndsAtOnce, Becomes}
use Rattle.lua_eval.specs.Steps.{LuaStep, Goes, Does}
use Rattle.lua_eval.proofs.Below.{jobs_of, moved, chosen, statements_below}
use Rattle.lua_eval.proofs.Doing.{asks}

-- a call of the library is refused
pub library_refused : (items : Items) (fs : List LuaFrame) (s s2 : LuaState) (left left2 : ℕ) (step : LuaStep)
    (function : LibFn) (vs : List Value) (place : Place) (outer : Option Place)
    → nat_lt s.calls most_calls ≡ false
    → Does items (raise place StackOverflow) s left step s2 left2
    → Goes items fs (call_library function vs place outer Give) s left fs step s2 left2
library_refused items fs s s2 left left2 step function vs place outer full does =
    chosen items fs fs (nat_lt s.calls most_calls) false
    (Write (deeper s) (ask_library function vs place outer (λ r. leave r Give))) (raise place StackOverflow)
    s s2 left left2 step full (does fs)

-- a call of the library begins: its function is asked for, below a frame that ends the call
pub library_called : (items : Items) (fs pushed : List LuaFrame) (s : LuaState) (left : ℕ)
    (function : LibFn) (vs : List Value) (place : Place) (outer : Option Place)
    → nat_lt s.calls most_calls ≡ true → pushed ≡ fs ++ frames.Library ∷ []
    → Goes items fs (call_library function vs place outer Give) s left pushed
    (Stop (Library (record { function = function; args = vs; place = place; outer = outer }))) (deeper s) left
library_called items fs pushed s left function vs place outer few is =
    let call : LuaQuestion = Library (record { function = function; args = vs; place = place; outer = outer }) in
    chosen items fs pushed (nat_lt s.calls most_calls) true
    (Write (deeper s) (ask_library function vs place outer (λ r. leave r Give))) (raise place StackOverflow)
    s (deeper s) left left (Stop call) few (asks items fs pushed frames.Library call (deeper s) left is)

-- what a call of a function of Lua code does, where it may begin
abbrev begun : Items → Closure → List Value → Place → LuaState → LuaPlan
begun items c vs place s =
    let function = function_at items c.function in
    Write (called_state function c vs s)
    (statements (statements_at items function.block) (called_scope function c vs place s) [] (λ r. leave (returned r) Give))

pub closure_refused : (items : Items) (fs : List LuaFrame) (s s2 : LuaState) (left left2 : ℕ) (step : LuaStep)
    (c : ClosureId) (vs : List Value) (place : Place)
    → nat_lt s.calls most_calls ≡ false
    → Does items (raise place StackOverflow) s left step s2 left2
    → Goes items fs (call_closure items c vs place Give) s left fs step s2 left2
closure_refused items fs s s2 left left2 step c vs place full does =
    chosen items fs fs (nat_lt s.calls most_calls) false (begun items (closure_at s c) vs place s) (raise place StackOverflow)
    s s2 left left2 step full (does fs)

-- the parts of a function, as the code has them one by one
record ArePartsOf (items : Items) (function : NodeId) (method variadic : Bool) (names ns : List NodeId) : Type 0 where
  method_is : method ≡ (function_at items function).method
  names_are : names ≡ (function_at items function).names
  variadic_is : variadic ≡ (function_at items function).variadic
  block_is : ns ≡ statements_at items (function_at items function).block

state_of_parts : (items : Items) (c : Closure) (vs : List Value) (s : LuaState) (method variadic : Bool) (names ns : List NodeId)
    → ArePartsOf items c.function method variadic names ns
    → entered_state method names variadic c vs (deeper s) ≡ called_state (function_at items c.function) c vs s
state_of_parts items c vs s method variadic names ns parts =
    let function = function_at items c.function in
    ap (λ (m : Bool). entered_state m names variadic c vs (deeper s)) parts.method_is
    ∙ ap (λ (l : List NodeId). entered_state function.method l variadic c vs (deeper s)) parts.names_are
    ∙ ap (λ (v : Bool). entered_state function.method function.names v c vs (deeper s)) parts.variadic_is

scope_of_parts : (items : Items) (c : Closure) (vs : List Value) (place : Place) (s : LuaState) (method variadic : Bool) (names ns : List NodeId)
    → ArePartsOf items c.function method variadic names ns
    → entered_scope method names variadic c vs place (deeper s) ≡ called_scope (function_at items c.function) c vs place s
scope_of_parts items c vs place s method variadic names ns parts =
    let function = function_at items c.function in
    ap (λ (m : Bool). entered_scope m names variadic c vs place (deeper s)) parts.method_is
    ∙ ap (λ (l : List NodeId). entered_scope function.method l variadic c vs place (deeper s)) parts.names_are
    ∙ ap (λ (v : Bool). entered_scope function.method function.names v c vs place (deeper s)) parts.variadic_is

-- a call of a function of Lua code begins
pub closure_called : (items : Items) (fs pushed fs2 : List LuaFrame) (s t s2 : LuaState) (left left2 : ℕ) (step : LuaStep)
    (id : ClosureId) (c : Closure) (vs : List Value) (place : Place) (scope : Scope) (method variadic : Bool) (names ns : List NodeId) (out : List Value)
    → nat_lt s.calls most_calls ≡ true → out ≡ [] → c ≡ closure_at s id
    → method ≡ (function_at items c.function).method
    → names ≡ (function_at items c.function).names
    → variadic ≡ (function_at items c.function).variadic
    → ns ≡ statements_at items (function_at items c.function).block
    → scope ≡ entered_scope method names variadic c vs place (deeper s)
    → t ≡ entered_state method names variadic c vs (deeper s)
    → pushed ≡ fs ++ frames.Function ∷ []
    → Goes items pushed (statements ns scope out Give) t left fs2 step s2 left2
    → Goes items fs (call_closure items id vs place Give) s left fs2 step s2 left2
closure_called items fs pushed fs2 s t s2 left left2 step id c vs place scope method variadic names ns out few none is m n v b scope_is heap_is pushed_is g =
    let function = function_at items c.function in
    let parts : ArePartsOf items c.function method variadic names ns =
    record { method_is = m; names_are = n; variadic_is = v; block_is = b } in
    let goes_on : End → LuaPlan = λ r. leave (returned r) Give in
    let inner = statements_below items fs pushed fs2 frames.Function t s2 left left2 step ns scope out pushed_is g in
    let placed : statements (statements_at items function.block) (called_scope function c vs place s) [] goes_on ≡ statements ns scope out goes_on =
    ap (λ (l : List NodeId). statements l (called_scope function c vs place s) [] goes_on) (sym b)
    ∙ ap (λ (sc : Scope). statements ns sc [] goes_on) (sym (scope_is ∙ scope_of_parts items c vs place s method variadic names ns parts))
    ∙ ap (λ (o : List Value). statements ns scope o goes_on) (sym none) in
    let at : Goes items fs (begun items c vs place s) s left fs2 step s2 left2 =
    moved items fs fs2 (statements (statements_at items function.block) (called_scope function c vs place s) [] goes_on)
    (statements ns scope out goes_on) (called_state function c vs s) t s2 left left2 step placed
    (sym (heap_is ∙ state_of_parts items c vs s method variadic names ns parts)) inner in
    chosen items fs fs2 (nat_lt s.calls most_calls) true (begun items (closure_at s id) vs place s) (raise place StackOverflow)
    s s2 left left2 step few
    (moved items fs fs2 (begun items (closure_at s id) vs place s) (begun items c vs place s) s s s2 left left2 step
    (ap (λ (d : Closure). begun items d vs place s) (sym is)) refl at)

-- what a call of a function of Lua code does, where it may begin, with what is behind it
abbrev begun_with : Items → Closure → List Value → Place → (End → LuaPlan) → LuaState → LuaPlan
begun_with items c vs place go s =
    let function = function_at items c.function in
    Write (called_state function c vs s)
    (statements (statements_at items function.block) (called_scope function c vs place s) [] (λ r. leave (returned r) go))

-- a call, some of whose statements were executed
pub call_passes : (items : Items) (q : LuaPlan) (s t u : LuaState) (left left2 : ℕ)
    (id : ClosureId) (c : Closure) (vs : List Value) (place : Place) (scope : Scope) (method variadic : Bool) (names ns : List NodeId)
    (go : End → LuaPlan)
    → nat_lt s.calls most_calls ≡ true → c ≡ closure_at s id
    → method ≡ (function_at items c.function).method
    → names ≡ (function_at items c.function).names
    → variadic ≡ (function_at items c.function).variadic
    → ns ≡ statements_at items (function_at items c.function).block
    → scope ≡ entered_scope method names variadic c vs place (deeper s)
    → t ≡ entered_state method names variadic c vs (deeper s)
    → Becomes items (statements ns scope [] (λ r. leave (returned r) go)) t left q u left2
    → Becomes items (call_closure items id vs place go) s left q u left2
call_passes items q s t u left left2 id c vs place scope method variadic names ns go few is m n v b scope_is heap_is inner = λ later.
    let function = function_at items c.function in
    let parts : ArePartsOf items c.function method variadic names ns =
    record { method_is = m; names_are = n; variadic_is = v; block_is = b } in
    let goes_on : End → LuaPlan = λ r. leave (returned r) go in
    let called = called_state function c vs s in
    ap (λ (yes : Bool). run (jobs_of items) (if yes then begun_with items (closure_at s id) vs place go s else raise place StackOverflow)
    (state s left) later) few
    ∙ ap (λ (d : Closure). run (jobs_of items) (begun_with items d vs place go s) (state s left) later) (sym is)
    ∙ ap (λ (l : List NodeId). run (jobs_of items) (statements l (called_scope function c vs place s) [] goes_on) (state called left) later) (sym b)
    ∙ ap (λ (sc : Scope). run (jobs_of items) (statements ns sc [] goes_on) (state called left) later)
    (sym (scope_is ∙ scope_of_parts items c vs place s method variadic names ns parts))
    ∙ ap (λ (w : LuaState). run (jobs_of items) (statements ns scope [] goes_on) (state w left) later)
    (sym (heap_is ∙ state_of_parts items c vs s method variadic names ns parts))
    ∙ inner later

-- a call whose function and arguments are evaluated
pub call_prepared : (items : Items) (function : NodeId) (arguments : List NodeId) (place : Place) (scope : Scope) (f : Value) (c : ClosureId)
    (vs : List Value) (s : LuaState) (left mid left2 : ℕ)
    → EndsAtOnce items (jobs.Expression function scope) (One f) s left s mid → f ≡ values.Closure c
    → ((go : List Value → LuaPlan) → Becomes items (values_of arguments scope [] go) s mid (go vs) s left2)
    → Becomes items (call_plan items function arguments place scope) s left (call_closure items c vs place Give) s left2
call_prepared items function arguments place scope f c vs s left mid left2 found is args = λ later.
    let plan : Value → LuaPlan = λ v. values_of arguments scope [] (λ us. call items ByNode v us place scope.call Give) in
    ap (λ (o : Run LuaState LuaQuestion LuaAnswer End). then_do o (λ r. run (jobs_of items) (on_one r plan))) (found later)
    ∙ ap (λ (v : Value). run (jobs_of items) (plan v) (state s mid) later) is
    ∙ args (λ us. call items ByNode (values.Closure c) us place scope.call Give) later

-- what no function is called by: the value itself, and a table's handler
pub not_called : (items : Items) (by : Caller) (v : Value) (vs : List Value) (place : Place) (outer : Option Place) (go : End → LuaPlan)
    → ((c : ClosureId) → v ≡ values.Closure c → ⊥) → ((f : LibFn) → v ≡ values.Library f → ⊥) → ((t : TableId) → v ≡ values.Table t → ⊥)
    → ((f : FnId) → v ≡ values.TerraFunction f → ⊥) → call items by v vs place outer go ≡ raise place (call_fault v)
not_called items by (values.Closure c) vs place outer go not_closure not_library not_table not_terra = absurd (not_closure c refl)
not_called items by (values.Library f) vs place outer go not_closure not_library not_table not_terra = absurd (not_library f refl)
not_called items by (values.Table t) vs place outer go not_closure not_library not_table not_terra = absurd (not_table t refl)
not_called items by (values.TerraFunction f) vs place outer go not_closure not_library not_table not_terra = absurd (not_terra f refl)
not_called items by v vs place outer go not_closure not_library not_table not_terra = refl

pub not_handled : (v : Value) (vs : List Value) (place : Place) (outer : Option Place) (go : End → LuaPlan) (otherwise : LuaPlan)
    → ((c : ClosureId) → v ≡ values.Closure c → ⊥) → ((f : LibFn) → v ≡ values.Library f → ⊥)
    → call_handler v vs place outer go otherwise ≡ otherwise
not_handled (values.Closure c) vs place outer go otherwise not_closure not_library = absurd (not_closure c refl)
not_handled (values.Library f) vs place outer go otherwise not_closure not_library = absurd (not_library f refl)
not_handled v vs place outer go otherwise not_closure not_library = refl
