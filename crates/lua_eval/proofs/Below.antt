-- What a step does where its plan or its heap is known by equations, and where a frame below goes on with what is
-- behind its plan.
use Rattle.std.proofs.Math.Path.{fun_ext}
use Rattle.std.proofs.Common.{◌≡◌, ℕ, Bool, true, false, List, [], ◌∷◌, ◌++◌, length, refl, sym, ap, ◌∙◌, Option, Some, None}
use Rattle.std.specs.Prelude.{if◌then◌else◌, nat_le}
use Rattle.tl_base.specs.declared.place.Place.{Place}
use Rattle.tl_base.specs.declared.ids.NodeId.{NodeId}
use Rattle.tl_base.specs.Layer.{State, state}
use Rattle.tl_base.specs.Plan.{Give, Read, Write, then_do, run, run_job}
use Rattle.tl_base.specs.Machine.{plug}
use Rattle.tl_base.proofs.Steps.{plug-push}
use Rattle.tl_tree.specs.Code.{Items}
use Rattle.tl_tree.specs.Item.{Item}
use Rattle.tl_tree.specs.Item as kept
use Rattle.tl_tree.specs.Scopes.{Found, binder}
use Rattle.lua_value.specs.declared.value.Value.{Value}
use Rattle.lua_value.specs.declared.value.Value.TheVariants as values
use Rattle.lua_value.specs.declared.library.LibFn.{LibFn}
use Rattle.lua_table.specs.LuaState.{LuaState}
use Rattle.lua_table.specs.Heap.{interned_id, with_text}
use Rattle.lua_model.specs.declared.job.Job.{Job}
use Rattle.lua_model.specs.declared.job.Caller.{Caller}
use Rattle.lua_model.specs.declared.end.End.{End}
use Rattle.lua_model.specs.declared.scope.Scope.{Scope}
use Rattle.lua_model.specs.Plans.{LuaPlan, give, fell, on_one, on_all, statements, with_text_of}
use Rattle.lua_model.specs.Calls.{call, call_library}
use Rattle.lua_model.specs.Fields.{globals, read, store}
use Rattle.lua_model.specs.Assignments.{store_name, store_target}
use Rattle.lua_model.specs.Meaning.{LuaGiven, job_plan}
use Rattle.lua_model.proofs.Composing.{LuaCourse, PassesRaised, with_text_then, run_library, run_call, run_read, run_store, run_statements}
use Rattle.lua_eval.specs.declared.frame.LuaFrame.{LuaFrame}
use Rattle.lua_eval.specs.Frames.{after, lua_rules}
use Rattle.lua_eval.specs.Steps.{LuaStep, Goes}
use Rattle.lua_eval.specs.Texts.{text_value, text_state}

-- runs of jobs in a tree
abbrev pub jobs_of : Items → Job → LuaCourse
jobs_of items = run_job (job_plan items)

-- ---- plans and heaps that are known by equations

-- the same plan
pub same_run : (items : Items) (fs : List LuaFrame) (p q : LuaPlan) (s : LuaState) (left : ℕ) (later : List LuaGiven) → p ≡ q
    → plug (lua_rules items) fs (run (jobs_of items) p (state s left) later)
    ≡ plug (lua_rules items) fs (run (jobs_of items) q (state s left) later)
same_run items fs p q s left later plans = ap (λ (x : LuaPlan). plug (lua_rules items) fs (run (jobs_of items) x (state s left) later)) plans

-- the same plan, with the same heap
pub moved : (items : Items) (fs fs2 : List LuaFrame) (p q : LuaPlan) (s t s2 : LuaState) (left left2 : ℕ) (step : LuaStep)
    → p ≡ q → s ≡ t → Goes items fs q t left fs2 step s2 left2 → Goes items fs p s left fs2 step s2 left2
moved items fs fs2 p q s t s2 left left2 step plans heaps g = λ later.
    ap (λ (x : LuaPlan). plug (lua_rules items) fs (run (jobs_of items) x (state s left) later)) plans
    ∙ ap (λ (w : LuaState). plug (lua_rules items) fs (run (jobs_of items) q (state w left) later)) heaps ∙ g later

-- a plan that chooses by a test
pub chosen : (items : Items) (fs fs2 : List LuaFrame) (b c : Bool) (p q : LuaPlan) (s s2 : LuaState) (left left2 : ℕ) (step : LuaStep)
    → b ≡ c → Goes items fs (if c then p else q) s left fs2 step s2 left2
    → Goes items fs (if b then p else q) s left fs2 step s2 left2
chosen items fs fs2 b c p q s s2 left left2 step e g =
    moved items fs fs2 (if b then p else q) (if c then p else q) s s s2 left left2 step
    (ap (λ (d : Bool). if d then p else q) e) refl g

text_by : (items : Items) (fs fs2 : List LuaFrame) (bytes : List ℕ) (go : Value → LuaPlan) (s t s2 : LuaState) (left left2 : ℕ)
    (step : LuaStep) (v : Value) (short : Bool)
    → v ≡ (if short then values.Text (interned_id s bytes) else values.Nil)
    → t ≡ (if short then with_text s bytes else s)
    → Goes items fs (go v) t left fs2 step s2 left2
    → Goes items fs (if short then Read (λ w. Write (with_text w bytes) (go (values.Text (interned_id w bytes)))) else go values.Nil)
    s left fs2 step s2 left2
text_by items fs fs2 bytes go s t s2 left left2 step v true e h g =
    moved items fs fs2 (go (values.Text (interned_id s bytes))) (go v) (with_text s bytes) t s2 left left2 step
    (ap go (sym e)) (sym h) g
text_by items fs fs2 bytes go s t s2 left left2 step v false e h g =
    moved items fs fs2 (go values.Nil) (go v) s t s2 left left2 step (ap go (sym e)) (sym h) g

-- a text that was made or found
pub text_goes : (items : Items) (fs fs2 : List LuaFrame) (bytes : List ℕ) (go : Value → LuaPlan) (s t s2 : LuaState) (left left2 : ℕ)
    (step : LuaStep) (v : Value)
    → v ≡ text_value s bytes → t ≡ text_state s bytes
    → Goes items fs (go v) t left fs2 step s2 left2 → Goes items fs (with_text_of bytes go) s left fs2 step s2 left2
text_goes items fs fs2 bytes go s t s2 left left2 step v e h g =
    text_by items fs fs2 bytes go s t s2 left left2 step v (nat_le (length bytes) 65535) e h g

-- ---- what is behind a plan

-- a plan that is another one with a frame's plan behind it
pub below : (items : Items) (fs pushed fs2 : List LuaFrame) (f : LuaFrame) (p q : LuaPlan) (s s2 : LuaState) (left left2 : ℕ) (step : LuaStep)
    → pushed ≡ fs ++ f ∷ []
    → ((later : List LuaGiven) → run (jobs_of items) p (state s left) later
    ≡ then_do (run (jobs_of items) q (state s left) later) (λ r. run (jobs_of items) (after items f r)))
    → Goes items pushed q s left fs2 step s2 left2 → Goes items fs p s left fs2 step s2 left2
below items fs pushed fs2 f p q s s2 left left2 step is split g = λ later.
    ap (plug (lua_rules items) fs) (split later)
    ∙ sym (plug-push (lua_rules items) fs f (run (jobs_of items) q (state s left) later))
    ∙ ap (λ (gs : List LuaFrame). plug (lua_rules items) gs (run (jobs_of items) q (state s left) later)) (sym is)
    ∙ g later

-- calls of the library
pub library_below : (items : Items) (fs pushed fs2 : List LuaFrame) (f : LuaFrame) (s s2 : LuaState) (left left2 : ℕ) (step : LuaStep)
    (function : LibFn) (vs : List Value) (place : Place) (outer : Option Place)
    → pushed ≡ fs ++ f ∷ [] → PassesRaised (jobs_of items) (after items f)
    → Goes items pushed (call_library function vs place outer Give) s left fs2 step s2 left2
    → Goes items fs (call_library function vs place outer (after items f)) s left fs2 step s2 left2
library_below items fs pushed fs2 f s s2 left left2 step function vs place outer is passes g =
    below items fs pushed fs2 f (call_library function vs place outer (after items f))
    (call_library function vs place outer Give) s s2 left left2 step is
    (λ later. run_library (jobs_of items) function vs place outer (after items f) passes (state s left) later) g

-- calls
pub call_below : (items : Items) (fs pushed fs2 : List LuaFrame) (f : LuaFrame) (s s2 : LuaState) (left left2 : ℕ) (step : LuaStep)
    (by : Caller) (v : Value) (vs : List Value) (place : Place) (outer : Option Place)
    → pushed ≡ fs ++ f ∷ [] → PassesRaised (jobs_of items) (after items f)
    → Goes items pushed (call items by v vs place outer Give) s left fs2 step s2 left2
    → Goes items fs (call items by v vs place outer (after items f)) s left fs2 step s2 left2
call_below items fs pushed fs2 f s s2 left left2 step by v vs place outer is passes g =
    below items fs pushed fs2 f (call items by v vs place outer (after items f)) (call items by v vs place outer Give)
    s s2 left left2 step is
    (λ later. run_call (jobs_of items) items by v vs place outer (after items f) passes (state s left) later) g

-- what a run of a frame that waits for one value is
one_frame : (items : Items) (f : LuaFrame) (go : Value → LuaPlan) → ((r : End) → after items f r ≡ on_one r go)
    → ◌≡◌ {A = End → LuaCourse} (λ r. run (jobs_of items) (on_one r go)) (λ r. run (jobs_of items) (after items f r))
one_frame items f go same = fun_ext (λ r. ap (run (jobs_of items)) (sym (same r)))

-- reads: the frame goes on with one value
pub read_below : (items : Items) (fs pushed fs2 : List LuaFrame) (f : LuaFrame) (s s2 : LuaState) (left left2 : ℕ) (step : LuaStep)
    (object key : Value) (place : Place) (outer : Option Place) (go : Value → LuaPlan)
    → pushed ≡ fs ++ f ∷ [] → ((r : End) → after items f r ≡ on_one r go)
    → Goes items pushed (read object key place outer give) s left fs2 step s2 left2
    → Goes items fs (read object key place outer go) s left fs2 step s2 left2
read_below items fs pushed fs2 f s s2 left left2 step object key place outer go is same g =
    below items fs pushed fs2 f (read object key place outer go) (read object key place outer give) s s2 left left2 step is
    (λ later. run_read (jobs_of items) object key place outer go (state s left) later
    ∙ ap (λ (k : End → LuaCourse). then_do (run (jobs_of items) (read object key place outer give) (state s left) later) k)
    (one_frame items f go same)) g

-- reads under a name
pub named_below : (items : Items) (fs pushed fs2 : List LuaFrame) (f : LuaFrame) (s s2 : LuaState) (left left2 : ℕ) (step : LuaStep)
    (object : Value) (bytes : List ℕ) (place : Place) (outer : Option Place) (go : Value → LuaPlan)
    → pushed ≡ fs ++ f ∷ [] → ((r : End) → after items f r ≡ on_one r go)
    → Goes items pushed (with_text_of bytes (λ key. read object key place outer give)) s left fs2 step s2 left2
    → Goes items fs (with_text_of bytes (λ key. read object key place outer go)) s left fs2 step s2 left2
named_below items fs pushed fs2 f s s2 left left2 step object bytes place outer go is same g =
    below items fs pushed fs2 f (with_text_of bytes (λ key. read object key place outer go))
    (with_text_of bytes (λ key. read object key place outer give)) s s2 left left2 step is
    (λ later. with_text_then (jobs_of items) bytes (λ key. read object key place outer go)
    (λ key. read object key place outer give) (λ r. run (jobs_of items) (on_one r go))
    (λ key t l. run_read (jobs_of items) object key place outer go t l) (state s left) later
    ∙ ap (λ (k : End → LuaCourse). then_do (run (jobs_of items) (with_text_of bytes (λ key. read object key place outer give)) (state s left) later) k)
    (one_frame items f go same)) g

-- statements of a block
pub statements_below : (items : Items) (fs pushed fs2 : List LuaFrame) (f : LuaFrame) (s s2 : LuaState) (left left2 : ℕ) (step : LuaStep)
    (ns : List NodeId) (scope : Scope) (out : List Value)
    → pushed ≡ fs ++ f ∷ []
    → Goes items pushed (statements ns scope out Give) s left fs2 step s2 left2
    → Goes items fs (statements ns scope out (after items f)) s left fs2 step s2 left2
statements_below items fs pushed fs2 f s s2 left left2 step ns scope out is g =
    below items fs pushed fs2 f (statements ns scope out (after items f)) (statements ns scope out Give) s s2 left left2 step is
    (λ later. run_statements (jobs_of items) ns scope out (after items f) (state s left) later) g

-- stores in targets: the frame drops what a handler gave
store_name_then : (f : Job → LuaCourse) (b : Option Found) (text : List ℕ) (place : Place) (scope : Scope) (v : Value) (rest : LuaPlan)
    (s : State LuaState) (l : List LuaGiven)
    → run f (store_name b text place scope v rest) s l
    ≡ then_do (run f (store_name b text place scope v fell) s l) (λ r. run f (on_all r (λ vs. rest)))
store_name_then f (Some found) text place scope v rest s l = refl
store_name_then f None text place scope v rest s l =
    with_text_then f text (λ key. store (values.Table globals) key v place scope.call rest)
    (λ key. store (values.Table globals) key v place scope.call fell) (λ r. run f (on_all r (λ vs. rest)))
    (λ key t m. run_store f (values.Table globals) key v place scope.call rest t m) s l

store_target_then : (f : Job → LuaCourse) (items : Items) (item : Item) (n : NodeId) (scope : Scope) (object key v : Value) (rest : LuaPlan)
    (s : State LuaState) (l : List LuaGiven)
    → run f (store_target items item n scope object key v rest) s l
    ≡ then_do (run f (store_target items item n scope object key v fell) s l) (λ r. run f (on_all r (λ vs. rest)))
store_target_then f items (kept.Name place offset text) n scope object key v rest s l =
    store_name_then f (binder items n) text place scope v rest s l
store_target_then f items (kept.Expression place e) n scope object key v rest s l =
    run_store f object key v place scope.call rest s l
store_target_then f items item n scope object key v rest s l = refl

pub target_below : (items : Items) (fs pushed fs2 : List LuaFrame) (f : LuaFrame) (s s2 : LuaState) (left left2 : ℕ) (step : LuaStep)
    (item : Item) (n : NodeId) (scope : Scope) (object key v : Value) (rest : LuaPlan)
    → pushed ≡ fs ++ f ∷ [] → ((r : End) → after items f r ≡ on_all r (λ vs. rest))
    → Goes items pushed (store_target items item n scope object key v fell) s left fs2 step s2 left2
    → Goes items fs (store_target items item n scope object key v rest) s left fs2 step s2 left2
target_below items fs pushed fs2 f s s2 left left2 step item n scope object key v rest is same g =
    below items fs pushed fs2 f (store_target items item n scope object key v rest)
    (store_target items item n scope object key v fell) s s2 left left2 step is
    (λ later. store_target_then (jobs_of items) items item n scope object key v rest (state s left) later
    ∙ ap (λ (k : End → LuaCourse). then_do (run (jobs_of items) (store_target items item n scope object key v fell) (state s left) later) k)
    (fun_ext (λ r. ap (run (jobs_of items)) (sym (same r))))) g
