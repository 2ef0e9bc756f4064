-- What a plan has behind it may be a frame: it gives the same as the plan that goes on with what is behind.
use Rattle.std.proofs.Common.{◌≡◌, ℕ, Bool, true, false, List, [], ◌∷◌, ◌++◌, length, refl, sym, ap, ◌∙◌, Option}
use Rattle.std.specs.Prelude.{if◌then◌else◌, ◌-◌, nat_le, nat_lt, codes}
use Rattle.tl_base.specs.declared.ids.NodeId.{NodeId}
use Rattle.tl_base.specs.declared.ids.ClosureId.{ClosureId}
use Rattle.tl_base.specs.declared.ids.TableId.{TableId}
use Rattle.tl_base.specs.declared.place.Place.{Place}
use Rattle.tl_base.specs.Layer.{State, state}
use Rattle.tl_base.specs.Plan.{Give, Do, AskFor, Read, Write, Run, Gives, Stops, Lacks, Course, then_do, paid, run}
use Rattle.lua_value.specs.declared.library.LibFn.{LibFn}
use Rattle.lua_value.specs.declared.library.LibFn.TheVariants as library
use Rattle.lua_value.specs.declared.value.Value.{Value}
use Rattle.lua_value.specs.declared.value.Value.TheVariants as values
use Rattle.lua_value.specs.Values.{kind_of, is_nil}
use Rattle.lua_table.specs.declared.env.Closure.{Closure}
use Rattle.lua_table.specs.Pairs.{value_in}
use Rattle.lua_table.specs.Heap.{table_at, closure_at, interned_id, with_text, deeper, with_stored}
use Rattle.lua_table.specs.Metatables.{handler_at}
use Rattle.lua_ops.specs.declared.fault.Fault.{Fault}
use Rattle.lua_ops.specs.declared.fault.Fault.TheVariants as faults
use Rattle.lua_table.specs.LuaState.{LuaState}
use Rattle.lua_model.specs.declared.scope.Scope.{Scope}
use Rattle.lua_model.specs.declared.job.Job.{Job}
use Rattle.lua_model.specs.declared.job.Job.TheVariants as jobs
use Rattle.lua_model.specs.declared.job.Caller.{Caller}
use Rattle.lua_model.specs.declared.job.Caller.TheVariants.{ByNode, ByOther}
use Rattle.lua_model.specs.declared.end.End.{End}
use Rattle.lua_model.specs.declared.end.End.TheVariants.{One, Many, Fell, Broke, Returned, Raised}
use Rattle.lua_model.specs.declared.question.LuaQuestion.{LuaQuestion}
use Rattle.lua_model.specs.declared.question.LuaQuestion.TheVariants as questions
use Rattle.lua_model.specs.declared.question.LuaAnswer.{LuaAnswer}
use Rattle.tl_tree.specs.Code.{Items, function_at, statements_at}
use Rattle.lua_model.specs.Fields.{text_functions, type_function, read_by, read_table, read_terra, read, store_raw, store_by, store_table}
use Rattle.lua_model.specs.Fields.{store}
use Rattle.lua_model.specs.Plans.{LuaPlan, give, fell, on_one, on_all, on_fell, reply, statements, with_text_of, text_units, error_text}
use Rattle.lua_model.specs.Plans.{raise}
use Rattle.lua_model.specs.Calls.{most_calls, leave, deepen, returned, called_state, called_scope, call_function, ask_library, call_library}
use Rattle.lua_model.specs.Calls.{call_handler, call_lua, call}
use Rattle.lua_model.specs.Meaning.{LuaGiven}

abbrev pub LuaCourse : Type 0
LuaCourse = Course LuaState LuaQuestion LuaAnswer End

abbrev pub LuaRun : Type 0
LuaRun = Run LuaState LuaQuestion LuaAnswer End

-- a run goes on as through two frames, where each of its ends does
pub then_twice : (o : LuaRun) (k k2 go : End → LuaCourse) → ((r : End) (s : State LuaState) (l : List LuaGiven)
    → k r s l ≡ then_do (k2 r s l) go) → then_do o k ≡ then_do (then_do o k2) go
then_twice (Gives r s l) k k2 go each = each r s l
then_twice (Stops at) k k2 go each = refl

-- one value, and all values
pub on_one_then : (f : Job → LuaCourse) (r : End) (go : Value → LuaPlan) (s : State LuaState) (l : List LuaGiven)
    → run f (on_one r go) s l ≡ then_do (run f (on_one r give) s l) (λ r. run f (on_one r go))
on_one_then f (One v) go s l = refl
on_one_then f (Many vs) go s l = refl
on_one_then f (Fell out) go s l = refl
on_one_then f (Broke out) go s l = refl
on_one_then f (Returned vs out) go s l = refl
on_one_then f (Raised v place) go s l = refl

pub on_all_then : (f : Job → LuaCourse) (r : End) (go : List Value
    → LuaPlan) (s : State LuaState) (l : List LuaGiven) → run f (on_all r go) s l
    ≡ then_do (run f (on_all r (λ vs. Give (Many vs))) s l) (λ r. run f (on_all r go))
on_all_then f (One v) go s l = refl
on_all_then f (Many vs) go s l = refl
on_all_then f (Fell out) go s l = refl
on_all_then f (Broke out) go s l = refl
on_all_then f (Returned vs out) go s l = refl
on_all_then f (Raised v place) go s l = refl

-- a statement among others
pub on_fell_then :
    (f : Job → LuaCourse) (r : End) (out : List Value) (go : End → LuaPlan) (next next2 : List Value → LuaPlan)
    → ((all : List Value) (s : State LuaState) (l : List LuaGiven)
    → run f (next all) s l ≡ then_do (run f (next2 all) s l) (λ r. run f (go r)))
    → (s : State LuaState) (l : List LuaGiven)
    → run f (on_fell r out go next) s l ≡ then_do (run f (on_fell r out Give next2) s l) (λ r. run f (go r))
on_fell_then f (One v) out go next next2 each s l = each out s l
on_fell_then f (Many vs) out go next next2 each s l = each out s l
on_fell_then f (Fell more) out go next next2 each s l = each (out ++ more) s l
on_fell_then f (Broke more) out go next next2 each s l = refl
on_fell_then f (Returned vs more) out go next next2 each s l = refl
on_fell_then f (Raised v place) out go next next2 each s l = refl

-- statements and what is behind them
pub run_statements :
    (f : Job → LuaCourse) (ns : List NodeId) (scope : Scope) (out : List Value) (go : End
    → LuaPlan) (s : State LuaState) (l : List LuaGiven)
    → run f (statements ns scope out go) s l ≡ then_do (run f (statements ns scope out Give) s l) (λ r. run f (go r))
run_statements f [] scope out go s l = refl
run_statements f (n ∷ ns) scope out go s l =
    then_twice (f (jobs.Statement n scope) s l) (λ r. run f (on_fell r out go (λ all. statements ns scope all go)))
    (λ r. run f (on_fell r out Give (λ all. statements ns scope all Give))) (λ r. run f (go r))
    (λ r s2 l2. on_fell_then f r out go (λ all. statements ns scope all go) (λ all. statements ns scope all Give)
    (λ all s3 l3. run_statements f ns scope all go s3 l3) s2 l2)

-- ---- what raises

-- what is behind a plan is passed by where something is raised
abbrev pub PassesRaised : (Job → LuaCourse) → (End → LuaPlan) → Type 0
PassesRaised f go = (v : Value) (place : Place) (s : State LuaState) (l : List LuaGiven)
    → run f (go (Raised v place)) s l ≡ Gives (Raised v place) s l

pub one_passes : (f : Job → LuaCourse) (go : Value → LuaPlan) → PassesRaised f (λ r. on_one r go)
one_passes f go v place s l = refl

pub all_passes : (f : Job → LuaCourse) (go : List Value → LuaPlan) → PassesRaised f (λ r. on_all r go)
all_passes f go v place s l = refl

pub give_passes : (f : Job → LuaCourse) → PassesRaised f Give
give_passes f v place s l = refl

pub either_then : (c : Bool) (x y x2 y2 : LuaRun) (k : End → LuaCourse) → x ≡ then_do x2 k → y ≡ then_do y2 k
    → (if c then x else y) ≡ then_do (if c then x2 else y2) k
either_then true x y x2 y2 k p q = p
either_then false x y x2 y2 k p q = q

pub if_then : (f : Job → LuaCourse) (c : Bool) (a b a2 b2 : LuaPlan) (k : End
    → LuaCourse) (s : State LuaState) (l : List LuaGiven) → run f a s l ≡ then_do (run f a2 s l) k
    → run f b s l ≡ then_do (run f b2 s l) k → run f (if c then a else b) s l
    ≡ then_do (run f (if c then a2 else b2) s l) k
if_then f true a b a2 b2 k s l p q = p
if_then f false a b a2 b2 k s l p q = q

pub paid_then : (n : ℕ) (s : State LuaState) (x x2 : State LuaState → LuaRun) (k : End → LuaCourse)
    → ((t : State LuaState) → x t ≡ then_do (x2 t) k) → paid n s x ≡ then_do (paid n s x2) k
paid_then n s x x2 k each =
    either_then (nat_le n s.left) (x (state s.world (s.left - n))) (Stops (Lacks s)) (x2 (state s.world
    (s.left - n))) (Stops (Lacks s)) k
    (each (state s.world (s.left - n))) refl

pub with_text_then :
    (f : Job → LuaCourse) (bytes : List ℕ) (g g2 : Value → LuaPlan) (k : End → LuaCourse)
    → ((v : Value) (s : State LuaState) (l : List LuaGiven) → run f (g v) s l ≡ then_do (run f (g2 v) s l) k)
    → (s : State LuaState) (l : List LuaGiven) → run f (with_text_of bytes g) s l
    ≡ then_do (run f (with_text_of bytes g2) s l) k
with_text_then f bytes g g2 k each s l =
    if_then f (nat_le (length bytes) 65535) (Read (λ t. Write (with_text t bytes) (g (values.Text
    (interned_id t bytes))))) (g values.Nil)
    (Read (λ t. Write (with_text t bytes) (g2 (values.Text (interned_id t bytes))))) (g2 values.Nil) k s l
    (each (values.Text (interned_id s.world bytes)) (state (with_text s.world bytes) s.left) l) (each values.Nil s l)

pub run_raise :
    (f : Job → LuaCourse) (place : Place) (fault : Fault) (go : End → LuaPlan) → PassesRaised f go
    → (s : State LuaState) (l : List LuaGiven)
    → run f (raise place fault) s l ≡ then_do (run f (raise place fault) s l) (λ r. run f (go r))
run_raise f place fault go passes s l =
    let text : State LuaState → LuaRun =
    λ t. run f (with_text_of (error_text place fault) (λ v. Give (Raised v place))) t l in
    paid_then (text_units (length (error_text place fault))) s text text (λ r. run f (go r))
    (λ t. with_text_then f (error_text place fault) (λ v. Give (Raised v place)) (λ v. Give (Raised v place))
    (λ r. run f (go r))
    (λ v s2 l2. sym (passes v place s2 l2)) t l)

-- ---- calls

pub deepen_then :
    (f : Job → LuaCourse) (place : Place) (g g2 : LuaState → LuaPlan) (go : End → LuaPlan) → PassesRaised f go
    → (s : State LuaState) (l : List LuaGiven)
    → run f (g s.world) s l ≡ then_do (run f (g2 s.world) s l) (λ r. run f (go r))
    → run f (deepen place g) s l ≡ then_do (run f (deepen place g2) s l) (λ r. run f (go r))
deepen_then f place g g2 go passes s l each =
    if_then f (nat_lt s.world.calls most_calls) (g s.world) (raise place faults.StackOverflow) (g2 s.world)
    (raise place faults.StackOverflow)
    (λ r. run f (go r)) s l each (run_raise f place faults.StackOverflow go passes s l)

-- a question, and a question of a call in progress
pub run_ask : (f : Job → LuaCourse) (q : LuaQuestion) (go : End
    → LuaPlan) (s : State LuaState) (l : List LuaGiven) → run f (AskFor q (λ a. go (reply a))) s l
    ≡ then_do (run f (AskFor q (λ a. Give (reply a))) s l) (λ r. run f (go r))
run_ask f q go s [] = refl
run_ask f q go s (a ∷ l) = refl

pub run_ask_call : (f : Job → LuaCourse) (q : LuaQuestion) (go : End
    → LuaPlan) (s : State LuaState) (l : List LuaGiven) → run f (AskFor q (λ a. leave (reply a) go)) s l
    ≡ then_do (run f (AskFor q (λ a. leave (reply a) Give)) s l) (λ r. run f (go r))
run_ask_call f q go s [] = refl
run_ask_call f q go s (a ∷ l) = refl

pub run_library :
    (f : Job → LuaCourse) (function : LibFn) (vs : List Value) (place : Place) (outer : Option Place) (go : End
    → LuaPlan) → PassesRaised f go
    → (s : State LuaState) (l : List LuaGiven)
    → run f (call_library function vs place outer go) s l
    ≡ then_do (run f (call_library function vs place outer Give) s l) (λ r. run f (go r))
run_library f function vs place outer go passes s l =
    deepen_then f place (λ t. Write (deeper t) (ask_library function vs place outer (λ r. leave r go)))
    (λ t. Write (deeper t) (ask_library function vs place outer (λ r. leave r Give))) go passes s l
    (run_ask_call f (questions.Library (record {
      function = function;
      args = vs;
      place = place;
      outer =
          outer;
    })) go (state (deeper s.world) s.left) l)

-- a job and what is behind it
pub run_job_then : (f : Job → LuaCourse) (job : Job) (go : End → LuaPlan) (s : State LuaState) (l : List LuaGiven)
    → run f (Do job go) s l ≡ then_do (run f (Do job Give) s l) (λ r. run f (go r))
run_job_then f job go s l = then_twice (f job s l) (λ r. run f (go r)) (λ r. run f (Give r)) (λ r. run f (go r))
    (λ r s2 l2. refl)

pub run_function :
    (f : Job → LuaCourse) (items : Items) (c : Closure) (vs : List Value) (place : Place) (go : End → LuaPlan)
    → PassesRaised f go
    → (s : State LuaState) (l : List LuaGiven)
    → run f (call_function items c vs place go) s l
    ≡ then_do (run f (call_function items c vs place Give) s l) (λ r. run f (go r))
run_function f items c vs place go passes s l =
    let function = function_at items c.function in
    let block = statements_at items function.block in
    let scope = called_scope function c vs place s.world in
    let t : State LuaState = state (called_state function c vs s.world) s.left in
    let k : End → LuaCourse = λ r. run f (go r) in
    deepen_then f place (λ w. Write (called_state function c vs w) (statements block
    (called_scope function c vs place w) [] (λ r. leave (returned r) go)))
    (λ w. Write (called_state function c vs w) (statements block (called_scope function c vs place w) [] (λ r. leave
    (returned r) Give))) go passes s l
    (run_statements f block scope [] (λ r. leave (returned r) go) t l
    ∙ then_twice (run f (statements block scope [] Give) t l) (λ r. run f (leave (returned r) go)) (λ r. run f
    (leave (returned r) Give)) k (λ r s2 l2. refl)
    ∙ sym (ap (λ o. then_do o k) (run_statements f block scope [] (λ r. leave (returned r) Give) t l)))

pub run_lua :
    (f : Job → LuaCourse) (items : Items) (by : Caller) (c : ClosureId) (vs : List Value) (place : Place)
    (go : End → LuaPlan) → PassesRaised f go
    → (s : State LuaState) (l : List LuaGiven)
    → run f (call_lua items by c vs place go) s l
    ≡ then_do (run f (call_lua items by c vs place Give) s l) (λ r. run f (go r))
run_lua f items ByNode c vs place go passes s l = run_function f items (closure_at s.world c) vs place go passes s l
run_lua f items ByOther c vs place go passes s l = run_job_then f (jobs.Callback c vs place) go s l

pub run_handler :
    (f : Job → LuaCourse) (handler : Value) (vs : List Value) (place : Place) (outer : Option Place)
    (fault : Fault) (go : End → LuaPlan) → PassesRaised f go
    → (s : State LuaState) (l : List LuaGiven)
    → run f (call_handler handler vs place outer go (raise place fault)) s l
    ≡ then_do (run f (call_handler handler vs place outer Give (raise place fault)) s l) (λ r. run f (go r))
run_handler f (values.Closure c) vs place outer fault go passes s l = run_job_then f (jobs.Callback c vs place) go s l
run_handler f (values.Library g) vs place outer fault go passes s l = run_library f g vs place outer go passes s l
run_handler f _ vs place outer fault go passes s l = run_raise f place fault go passes s l

-- a call and what is behind it
pub run_call :
    (f : Job → LuaCourse) (items : Items) (by : Caller) (v : Value) (vs : List Value) (place : Place)
    (outer : Option Place) (go : End → LuaPlan)
    → PassesRaised f go → (s : State LuaState) (l : List LuaGiven)
    → run f (call items by v vs place outer go) s l
    ≡ then_do (run f (call items by v vs place outer Give) s l) (λ r. run f (go r))
run_call f items by (values.Closure c) vs place outer go passes s l = run_lua f items by c vs place go passes s l
run_call f items by (values.Library g) vs place outer go passes s l = run_library f g vs place outer go passes s l
run_call f items by (values.Table t) vs place outer go passes s l =
    run_handler f (handler_at s.world t (codes "__call")) (values.Table t ∷ vs) place outer (faults.Call (kind_of
    (values.Table t))) go passes s l
run_call f items by (values.TerraFunction x) vs place outer go passes s l =
    run_ask f (questions.Terra x vs place) go s l
run_call f items by (values.Primitive x) vs place outer go passes s l =
    run_raise f place faults.CallsTerra go passes s l
run_call f items by v vs place outer go passes s l = run_raise f place (faults.Call (kind_of v)) go passes s l

-- ---- reads and stores

-- a job that gives a value, and what is behind it
pub run_one_job :
    (f : Job → LuaCourse) (job : Job) (go : Value → LuaPlan) (s : State LuaState) (l : List LuaGiven)
    → run f (Do job (λ r. on_one r go)) s l
    ≡ then_do (run f (Do job (λ r. on_one r give)) s l) (λ r. run f (on_one r go))
run_one_job f job go s l =
    then_twice (f job s l) (λ r. run f (on_one r go)) (λ r. run f (on_one r give)) (λ r. run f (on_one r go))
    (λ r s2 l2. on_one_then f r go s2 l2)

pub run_one_ask :
    (f : Job → LuaCourse) (q : LuaQuestion) (go : Value → LuaPlan) (s : State LuaState) (l : List LuaGiven)
    → run f (AskFor q (λ a. on_one (reply a) go)) s l
    ≡ then_do (run f (AskFor q (λ a. on_one (reply a) give)) s l) (λ r. run f (on_one r go))
run_one_ask f q go s [] = refl
run_one_ask f q go s (a ∷ l) = on_one_then f (reply a.answer) go a.state l

pub run_one_library :
    (f : Job → LuaCourse) (function : LibFn) (vs : List Value) (place : Place) (outer : Option Place) (go : Value
    → LuaPlan)
    (s : State LuaState) (l : List LuaGiven)
    → run f (call_library function vs place outer (λ r. on_one r go)) s l
    ≡ then_do (run f (call_library function vs place outer (λ r. on_one r give)) s l) (λ r. run f (on_one r go))
run_one_library f function vs place outer go s l =
    let o : LuaRun = run f (call_library function vs place outer Give) s l in
    let k : End → LuaCourse = λ r. run f (on_one r go) in
    run_library f function vs place outer (λ r. on_one r go) (one_passes f go) s l
    ∙ then_twice o k (λ r. run f (on_one r give)) k (λ r s2 l2. on_one_then f r go s2 l2)
    ∙ sym (ap (λ x. then_do x k) (run_library f function vs place outer (λ r. on_one r give) (one_passes f give) s l))

pub run_read_by :
    (f : Job → LuaCourse) (handler : Value) (table : TableId) (key : Value) (place : Place) (outer : Option Place)
    (go : Value → LuaPlan)
    (s : State LuaState) (l : List LuaGiven)
    → run f (read_by handler table key place outer go) s l
    ≡ then_do (run f (read_by handler table key place outer give) s l) (λ r. run f (on_one r go))
run_read_by f values.Nil table key place outer go s l = refl
run_read_by f (values.Closure c) table key place outer go s l =
    run_one_job f (jobs.Callback c (values.Table table ∷ key ∷ []) place) go s l
run_read_by f (values.Library g) table key place outer go s l =
    run_one_library f g (values.Table table ∷ key ∷ []) place outer go s l
run_read_by f object table key place outer go s l = run_one_job f (jobs.Read object key place outer) go s l

pub run_read_table :
    (f : Job → LuaCourse) (table : TableId) (key : Value) (place : Place) (outer : Option Place) (go : Value → LuaPlan)
    (s : State LuaState) (l : List LuaGiven)
    → run f (read_table table key place outer go) s l
    ≡ then_do (run f (read_table table key place outer give) s l) (λ r. run f (on_one r go))
run_read_table f table key place outer go s l =
    let v = value_in (table_at s.world table) key in
    let handler = handler_at s.world table (codes "__index") in
    if_then f (is_nil v) (read_by handler table key place outer go) (go v)
    (read_by handler table key place outer give) (give v)
    (λ r. run f (on_one r go)) s l (run_read_by f handler table key place outer go s l) refl

pub run_read_terra :
    (f : Job → LuaCourse) (function : LibFn) (object key : Value) (place : Place) (outer : Option Place)
    (go : Value → LuaPlan)
    (s : State LuaState) (l : List LuaGiven)
    → run f (read_terra function object key place outer go) s l
    ≡ then_do (run f (read_terra function object key place outer give) s l) (λ r. run f (on_one r go))
run_read_terra f function object key place outer go s l =
    run_one_ask f (questions.Library (record {
      function = function;
      args = object ∷ key ∷ [];
      place = place;
      outer =
          outer;
    })) go s l

-- a read and what is behind it
pub run_read :
    (f : Job → LuaCourse) (object key : Value) (place : Place) (outer : Option Place) (go : Value
    → LuaPlan) (s : State LuaState) (l : List LuaGiven)
    → run f (read object key place outer go) s l
    ≡ then_do (run f (read object key place outer give) s l) (λ r. run f (on_one r go))
run_read f (values.Table t) key place outer go s l = run_read_table f t key place outer go s l
run_read f (values.Text t) key place outer go s l = run_read_table f text_functions key place outer go s l
run_read f (values.TerraFunction x) key place outer go s l =
    run_read_terra f library.Field (values.TerraFunction x) key place outer go s l
run_read f (values.Primitive x) key place outer go s l =
    run_read_terra f library.Field (values.Primitive x) key place outer go s l
run_read f (values.TerraType t) key place outer go s l =
    run_read_terra f (type_function key) (values.TerraType t) key place outer go s l
run_read f (values.Quote q) key place outer go s l =
    run_read_terra f library.Field (values.Quote q) key place outer go s l
run_read f (values.Symbol x) key place outer go s l =
    run_read_terra f library.Field (values.Symbol x) key place outer go s l
run_read f (values.Macro m) key place outer go s l =
    run_read_terra f library.Field (values.Macro m) key place outer go s l
run_read f (values.Global g) key place outer go s l =
    run_read_terra f library.Field (values.Global g) key place outer go s l
run_read f (values.Constant c) key place outer go s l =
    run_read_terra f library.Field (values.Constant c) key place outer go s l
run_read f values.Nil key place outer go s l =
    run_raise f place (faults.Index (kind_of values.Nil)) (λ r. on_one r go) (one_passes f go) s l
run_read f (values.Boolean b) key place outer go s l =
    run_raise f place (faults.Index (kind_of (values.Boolean b))) (λ r. on_one r go) (one_passes f go) s l
run_read f (values.Number z) key place outer go s l =
    run_raise f place (faults.Index (kind_of (values.Number z))) (λ r. on_one r go) (one_passes f go) s l
run_read f (values.Closure c) key place outer go s l =
    run_raise f place (faults.Index (kind_of (values.Closure c))) (λ r. on_one r go) (one_passes f go) s l
run_read f (values.Library g) key place outer go s l =
    run_raise f place (faults.Index (kind_of (values.Library g))) (λ r. on_one r go) (one_passes f go) s l

-- a store and what is behind it
pub run_store_raw :
    (f : Job → LuaCourse) (table : TableId) (key v : Value) (place : Place) (rest : LuaPlan) (s : State LuaState)
    (l : List LuaGiven)
    → run f (store_raw table key v place rest) s l
    ≡ then_do (run f (store_raw table key v place fell) s l) (λ r. run f (on_all r (λ vs. rest)))
run_store_raw f table key v place rest s l =
    if_then f (is_nil key) (raise place faults.NilKey) (Read (λ w. Write (with_stored w table key v) rest))
    (raise place faults.NilKey)
    (Read (λ w. Write (with_stored w table key v) fell)) (λ r. run f (on_all r (λ vs. rest))) s l
    (run_raise f place faults.NilKey (λ r. on_all r (λ vs. rest)) (all_passes f (λ vs. rest)) s l) refl

pub on_all_fell : (f : Job → LuaCourse) (r : End) (rest : LuaPlan) (s : State LuaState) (l : List LuaGiven)
    → run f (on_all r (λ vs. rest)) s l
    ≡ then_do (run f (on_all r (λ vs. fell)) s l) (λ r. run f (on_all r (λ vs. rest)))
on_all_fell f (One v) rest s l = refl
on_all_fell f (Many vs) rest s l = refl
on_all_fell f (Fell out) rest s l = refl
on_all_fell f (Broke out) rest s l = refl
on_all_fell f (Returned vs out) rest s l = refl
on_all_fell f (Raised v place) rest s l = refl

pub run_done_job :
    (f : Job → LuaCourse) (job : Job) (rest : LuaPlan) (s : State LuaState) (l : List LuaGiven)
    → run f (Do job (λ r. on_all r (λ vs. rest))) s l
    ≡ then_do (run f (Do job (λ r. on_all r (λ vs. fell))) s l) (λ r. run f (on_all r (λ vs. rest)))
run_done_job f job rest s l =
    then_twice (f job s l) (λ r. run f (on_all r (λ vs. rest))) (λ r. run f (on_all r (λ vs. fell))) (λ r. run f
    (on_all r (λ vs. rest)))
    (λ r s2 l2. on_all_fell f r rest s2 l2)

pub run_done_library :
    (f : Job → LuaCourse) (function : LibFn) (vs : List Value) (place : Place) (outer : Option Place) (rest : LuaPlan)
    (s : State LuaState) (l : List LuaGiven)
    → run f (call_library function vs place outer (λ r. on_all r (λ us. rest))) s l
    ≡ then_do (run f (call_library function vs place outer (λ r. on_all r (λ us. fell))) s l) (λ r. run f (on_all r
    (λ us. rest)))
run_done_library f function vs place outer rest s l =
    let o : LuaRun = run f (call_library function vs place outer Give) s l in
    let k : End → LuaCourse = λ r. run f (on_all r (λ us. rest)) in
    run_library f function vs place outer (λ r. on_all r (λ us. rest)) (all_passes f (λ us. rest)) s l
    ∙ then_twice o k (λ r. run f (on_all r (λ us. fell))) k (λ r s2 l2. on_all_fell f r rest s2 l2)
    ∙ sym (ap (λ x. then_do x k) (run_library f function vs place outer (λ r. on_all r (λ us. fell)) (all_passes f
    (λ us. fell)) s l))

pub run_store_by :
    (f : Job → LuaCourse) (handler : Value) (table : TableId) (key v : Value) (place : Place)
    (outer : Option Place) (rest : LuaPlan)
    (s : State LuaState) (l : List LuaGiven)
    → run f (store_by handler table key v place outer rest) s l
    ≡ then_do (run f (store_by handler table key v place outer fell) s l) (λ r. run f (on_all r (λ vs. rest)))
run_store_by f values.Nil table key v place outer rest s l = run_store_raw f table key v place rest s l
run_store_by f (values.Closure c) table key v place outer rest s l =
    run_done_job f (jobs.Callback c (values.Table table ∷ key ∷ v ∷ []) place) rest s l
run_store_by f (values.Library g) table key v place outer rest s l =
    run_done_library f g (values.Table table ∷ key ∷ v ∷ []) place outer rest s l
run_store_by f object table key v place outer rest s l = run_done_job f (jobs.Store object key v place outer) rest s l

pub run_store_table :
    (f : Job → LuaCourse) (table : TableId) (key v : Value) (place : Place) (outer : Option Place) (rest : LuaPlan)
    (s : State LuaState) (l : List LuaGiven)
    → run f (store_table table key v place outer rest) s l
    ≡ then_do (run f (store_table table key v place outer fell) s l) (λ r. run f (on_all r (λ vs. rest)))
run_store_table f table key v place outer rest s l =
    let handler = handler_at s.world table (codes "__newindex") in
    if_then f (is_nil (value_in (table_at s.world table) key)) (store_by handler table key v place outer rest)
    (store_raw table key v place rest)
    (store_by handler table key v place outer fell) (store_raw table key v place fell) (λ r. run f (on_all r
    (λ vs. rest))) s l
    (run_store_by f handler table key v place outer rest s l) (run_store_raw f table key v place rest s l)

pub run_store :
    (f : Job → LuaCourse) (object key v : Value) (place : Place) (outer : Option Place) (rest : LuaPlan)
    (s : State LuaState) (l : List LuaGiven)
    → run f (store object key v place outer rest) s l
    ≡ then_do (run f (store object key v place outer fell) s l) (λ r. run f (on_all r (λ vs. rest)))
run_store f (values.Table t) key v place outer rest s l = run_store_table f t key v place outer rest s l
run_store f object key v place outer rest s l =
    run_raise f place (faults.Index (kind_of object)) (λ r. on_all r (λ vs. rest)) (all_passes f (λ vs. rest)) s l
