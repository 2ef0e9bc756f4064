-- Calls and statements that make them, of which some was done at once, and what is behind them.
use Rattle.std.proofs.Common.{◌≡◌, ℕ, ◌-◌, ◌≤◌, List, [], ◌∷◌, ◌++◌, length, refl, sym, ap, ◌∙◌}
use Rattle.std.proofs.lemmas.List.{append-nil}
use Rattle.tl_base.specs.declared.ids.NodeId.{NodeId}
use Rattle.tl_base.specs.declared.place.Place.{Place}
use Rattle.tl_base.specs.declared.machine.Step.TheVariants.{Return}
use Rattle.tl_base.specs.Layer.{State, state}
use Rattle.tl_base.specs.Plan.{Run, Gives, Stops, Give, Do, Read, Write, then_do, run}
use Rattle.tl_base.proofs.Plans.{run_job-is, paid-enough}
use Rattle.tl_tree.specs.declared.node.Expression.{Expression}
use Rattle.tl_tree.specs.declared.node.Statement.{Statement}
use Rattle.tl_tree.specs.Code.{Items}
use Rattle.tl_tree.specs.Item.{Item}
use Rattle.tl_tree.specs.Item as kept
use Rattle.tl_tree.specs.Nodes.{item_at}
use Rattle.lua_value.specs.declared.value.Value.{Value}
use Rattle.lua_value.specs.declared.value.Value.TheVariants as values
use Rattle.lua_table.specs.Cells.{nth_value, declare_all, with_local}
use Rattle.lua_table.specs.LuaState.{LuaState}
use Rattle.lua_model.specs.declared.job.Job.{Job}
use Rattle.lua_model.specs.declared.job.Job.TheVariants as jobs
use Rattle.lua_model.specs.declared.end.End.{End}
use Rattle.lua_model.specs.declared.end.End.TheVariants.{One, Many, Fell, Broke, Returned, Raised}
use Rattle.lua_model.specs.declared.question.LuaQuestion.{LuaQuestion}
use Rattle.lua_model.specs.declared.question.LuaAnswer.{LuaAnswer}
use Rattle.lua_model.specs.declared.scope.Scope.{Scope}
use Rattle.lua_model.specs.Assignments.{stores, assign_plan}
use Rattle.lua_model.specs.Calls.{leave, returned}
use Rattle.lua_model.specs.Expressions.{expression_plan, node_plan}
use Rattle.lua_model.specs.Meaning.{LuaGiven, job_plan}
use Rattle.lua_model.specs.Plans.{LuaPlan, fell, on_one, on_all, on_fell, statements, value_of, values_of}
use Rattle.lua_model.specs.Statements.{local_plan, statement_of, statement_plan}
use Rattle.lua_model.proofs.Composing.{LuaCourse, then_twice, on_fell_then, run_statements}
use Rattle.lua_eval.specs.AtOnce.{EndsAtOnce, Becomes}
use Rattle.lua_eval.specs.Called.{called_plan, inside_plan}
use Rattle.lua_eval.specs.Frames.{after}
use Rattle.lua_eval.specs.Running.{halt_plan}
use Rattle.lua_eval.specs.Spots.{held_in}
use Rattle.lua_eval.specs.Steps.{LuaStep, Goes}
use Rattle.lua_eval.specs.Storing.{StoresIn}
use Rattle.lua_eval.specs.Waits.{waited}
use Rattle.lua_eval.specs.Waiting.{on_end, wait_plan, waited_state, passed_plan, stop_plan}
use Rattle.lua_eval.specs.declared.calling.Called.{Called}
use Rattle.lua_eval.specs.declared.calling.Called.TheVariants as called
use Rattle.lua_eval.specs.declared.direct.Spot.TheVariants as spots
use Rattle.lua_eval.specs.declared.frame.AllFrame.TheVariants as alls
use Rattle.lua_eval.specs.declared.frame.LuaFrame.{LuaFrame}
use Rattle.lua_eval.specs.declared.frame.LuaFrame.TheVariants as frames
use Rattle.lua_eval.specs.declared.frame.Wait.{Wait}
use Rattle.lua_eval.specs.declared.frame.Wait.TheVariants as waits
use Rattle.lua_eval.specs.declared.running.Halt.{Halt}
use Rattle.lua_eval.specs.declared.running.Halt.TheVariants as halts
use Rattle.lua_eval.specs.declared.waiting.Passed.{Passed}
use Rattle.lua_eval.specs.declared.waiting.Passed.TheVariants as passed
use Rattle.lua_eval.specs.declared.waiting.Stop.{Stop}
use Rattle.lua_eval.specs.declared.waiting.Stop.TheVariants as stops
use Rattle.lua_eval.proofs.AtOnce.{passed as goes_on}
use Rattle.lua_eval.proofs.Below.{jobs_of, below, moved}
use Rattle.lua_eval.proofs.Doing.{returns}

-- ---- runs that go on in the same way

then_same : (o : Run LuaState LuaQuestion LuaAnswer End) (k k2 : End → LuaCourse)
    → ((r : End) (s : State LuaState) (l : List LuaGiven) → k r s l ≡ k2 r s l) → then_do o k ≡ then_do o k2
then_same (Gives r s l) k k2 h = h r s l
then_same (Stops at) k k2 h = refl

-- what is left of statements, and what is behind them
pub run_halt : (f : Job → LuaCourse) (halt : Halt) (scope : Scope) (out : List Value) (go : End → LuaPlan) (s : State LuaState) (l : List LuaGiven)
    → run f (halt_plan halt scope out go) s l ≡ then_do (run f (halt_plan halt scope out Give) s l) (λ r. run f (go r))
run_halt f (halts.At ns) scope out go s l = run_statements f ns.now scope out go s l
run_halt f (halts.Within ms env ns) scope out go s l =
    let inner = record scope { env = env } in
    let k : End → LuaPlan = λ r. on_fell r out go (λ all. statements ns.now scope all go) in
    let alone : End → LuaPlan = λ r. on_fell r out Give (λ all. statements ns.now scope all Give) in
    run_statements f ms.now inner [] k s l
    ∙ then_twice (run f (statements ms.now inner [] Give) s l) (λ r. run f (k r)) (λ r. run f (alone r)) (λ r. run f (go r))
    (λ r s2 l2. on_fell_then f r out go (λ all. statements ns.now scope all go) (λ all. statements ns.now scope all Give)
    (λ all s3 l3. run_statements f ns.now scope all go s3 l3) s2 l2)
    ∙ sym (ap (λ (o : Run LuaState LuaQuestion LuaAnswer End). then_do o (λ r. run f (go r))) (run_statements f ms.now inner [] alone s l))

pub halt_below : (items : Items) (fs pushed fs2 : List LuaFrame) (f : LuaFrame) (halt : Halt) (scope : Scope) (out : List Value)
    (s s2 : LuaState) (left left2 : ℕ) (step : LuaStep)
    → pushed ≡ fs ++ f ∷ []
    → Goes items pushed (halt_plan halt scope out Give) s left fs2 step s2 left2
    → Goes items fs (halt_plan halt scope out (after items f)) s left fs2 step s2 left2
halt_below items fs pushed fs2 f halt scope out s s2 left left2 step is g =
    below items fs pushed fs2 f (halt_plan halt scope out (after items f)) (halt_plan halt scope out Give) s s2 left left2 step is
    (λ later. run_halt (jobs_of items) halt scope out (after items f) (state s left) later) g

-- ---- calls

-- what is left of the statements of a call, and what is behind it
inside_then : (f : Job → LuaCourse) (halt : Halt) (scope : Scope) (go : End → LuaPlan) (s : State LuaState) (l : List LuaGiven)
    → run f (inside_plan halt scope go) s l ≡ then_do (run f (inside_plan halt scope Give) s l) (λ r. run f (go r))
inside_then f halt scope go s l =
    let k : End → LuaPlan = λ r. leave (returned r) go in
    let alone : End → LuaPlan = λ r. leave (returned r) Give in
    run_halt f halt scope [] k s l
    ∙ then_twice (run f (halt_plan halt scope [] Give) s l) (λ r. run f (k r)) (λ r. run f (alone r)) (λ r. run f (go r)) (λ r s2 l2. refl)
    ∙ sym (ap (λ (o : Run LuaState LuaQuestion LuaAnswer End). then_do o (λ r. run f (go r))) (run_halt f halt scope [] alone s l))

-- what is left of a call, and what is behind it
pub called_then : (f : Job → LuaCourse) (c : Called) (v : Value) (go : End → LuaPlan) (s : State LuaState) (l : List LuaGiven)
    → run f (called_plan c v go) s l ≡ then_do (run f (called_plan c v Give) s l) (λ r. run f (go r))
called_then f called.Nothing v go s l = refl
called_then f called.Gave v go s l = refl
called_then f (called.Inside halt scope) v go s l = inside_then f halt scope go s l

-- the statements of a call that are left are done alone over a frame
pub inside_below : (items : Items) (fs pushed fs2 : List LuaFrame) (f : LuaFrame) (halt : Halt) (scope : Scope)
    (s s2 : LuaState) (left left2 : ℕ) (step : LuaStep)
    → pushed ≡ fs ++ f ∷ []
    → Goes items pushed (inside_plan halt scope Give) s left fs2 step s2 left2
    → Goes items fs (inside_plan halt scope (after items f)) s left fs2 step s2 left2
inside_below items fs pushed fs2 f halt scope s s2 left left2 step is g =
    below items fs pushed fs2 f (inside_plan halt scope (after items f)) (inside_plan halt scope Give) s s2 left left2 step is
    (λ later. inside_then (jobs_of items) halt scope (after items f) (state s left) later) g

-- what waits for the value of a call goes on with what is left of it
pub called_goes : (items : Items) (fs fs2 : List LuaFrame) (n : NodeId) (scope : Scope) (c : Called) (v : Value) (go : Value → LuaPlan)
    (s t s2 : LuaState) (left mid left2 : ℕ) (step : LuaStep)
    → ((k : End → LuaPlan) → Becomes items (Do (jobs.Expression n scope) k) s left (called_plan c v k) t mid)
    → Goes items fs (called_plan c v (λ r. on_one r go)) t mid fs2 step s2 left2
    → Goes items fs (value_of n scope go) s left fs2 step s2 left2
called_goes items fs fs2 n scope c v go s t s2 left mid left2 step h g =
    goes_on items fs fs2 (value_of n scope go) (called_plan c v (λ r. on_one r go)) s t s2 left mid left2 step (h (λ r. on_one r go)) g

-- an expression whose unit is paid, and what is left of it
pub call_entered : (items : Items) (n : NodeId) (scope : Scope) (place : Place) (e : Expression) (c : Called) (v : Value)
    (go : End → LuaPlan) (s t : LuaState) (left mid : ℕ)
    → item_at items n ≡ kept.Expression place e → 1 ≤ left
    → Becomes items (expression_plan items e n place scope) s (left - 1) (called_plan c v Give) t mid
    → Becomes items (Do (jobs.Expression n scope) go) s left (called_plan c v go) t mid
call_entered items n scope place e c v go s t left mid is enough h = λ later.
    ap (λ (o : Run LuaState LuaQuestion LuaAnswer End). then_do o (λ r. run (jobs_of items) (go r)))
    (run_job-is (job_plan items) (jobs.Expression n scope) (state s left) later
    ∙ paid-enough 1 (state s left) (λ w. run (jobs_of items) (node_plan items (item_at items n) n scope) w later) enough
    ∙ ap (λ (i : Item). run (jobs_of items) (node_plan items i n scope) (state s (left - 1)) later) is
    ∙ h later)
    ∙ sym (called_then (jobs_of items) c v go (state t mid) later)

-- ---- what statements do with the values of their calls

all_ends : (f : Job → LuaCourse) (r : End) (k k2 : List Value → LuaPlan) (s : State LuaState) (l : List LuaGiven)
    → ((vs : List Value) → run f (k vs) s l ≡ run f (k2 vs) s l) → run f (on_all r k) s l ≡ run f (on_end r k2 Give) s l
all_ends f (One v) k k2 s l h = h (v ∷ [])
all_ends f (Many vs) k k2 s l h = h vs
all_ends f (Fell out) k k2 s l h = h []
all_ends f (Broke out) k k2 s l h = h []
all_ends f (Returned vs out) k k2 s l h = h []
all_ends f (Raised v place) k k2 s l h = refl

waited_then : (f : Job → LuaCourse) (wait : Wait) (scope : Scope) (vs : List Value) (go : End → LuaPlan) (s : State LuaState) (l : List LuaGiven)
    → run f (waited wait scope vs (go (Fell []))) s l ≡ then_do (run f (waited wait scope vs (Give (Fell []))) s l) (λ r. run f (go r))
waited_then f waits.Nothing scope vs go s l = refl
waited_then f (waits.Local ns) scope vs go s l = refl
waited_then f (waits.Store depth position) scope vs go s l = refl

wait_then : (f : Job → LuaCourse) (wait : Wait) (scope : Scope) (r : End) (go : End → LuaPlan) (s : State LuaState) (l : List LuaGiven)
    → run f (wait_plan wait scope r go) s l ≡ then_do (run f (wait_plan wait scope r Give) s l) (λ e. run f (go e))
wait_then f wait scope (One v) go s l = waited_then f wait scope (v ∷ []) go s l
wait_then f wait scope (Many vs) go s l = waited_then f wait scope vs go s l
wait_then f wait scope (Fell out) go s l = waited_then f wait scope [] go s l
wait_then f wait scope (Broke out) go s l = waited_then f wait scope [] go s l
wait_then f wait scope (Returned vs out) go s l = waited_then f wait scope [] go s l
wait_then f wait scope (Raised v place) go s l = refl

-- what is left of a statement that makes a call, and what is behind it
pub passed_then : (f : Job → LuaCourse) (p : Passed) (scope : Scope) (go : End → LuaPlan) (s : State LuaState) (l : List LuaGiven)
    → run f (passed_plan p scope go) s l ≡ then_do (run f (passed_plan p scope Give) s l) (λ r. run f (go r))
passed_then f passed.Done scope go s l = refl
passed_then f (passed.Inside halt inner wait) scope go s l =
    let k : End → LuaPlan = λ r. wait_plan wait scope r go in
    let alone : End → LuaPlan = λ r. wait_plan wait scope r Give in
    inside_then f halt inner k s l
    ∙ then_twice (run f (inside_plan halt inner Give) s l) (λ r. run f (k r)) (λ r. run f (alone r)) (λ r. run f (go r))
    (λ r s2 l2. wait_then f wait scope r go s2 l2)
    ∙ sym (ap (λ (o : Run LuaState LuaQuestion LuaAnswer End). then_do o (λ r. run f (go r))) (inside_then f halt inner alone s l))

-- what is left of statements, and what is behind them
pub stop_then : (f : Job → LuaCourse) (stop : Stop) (scope : Scope) (out : List Value) (go : End → LuaPlan) (s : State LuaState) (l : List LuaGiven)
    → run f (stop_plan stop scope out go) s l ≡ then_do (run f (stop_plan stop scope out Give) s l) (λ r. run f (go r))
stop_then f (stops.Plain halt) scope out go s l = run_halt f halt scope out go s l
stop_then f (stops.Calling halt inner wait ns) scope out go s l =
    let p = passed.Inside halt inner wait in
    let k : End → LuaPlan = λ r. on_fell r out go (λ all. statements ns.now scope all go) in
    let alone : End → LuaPlan = λ r. on_fell r out Give (λ all. statements ns.now scope all Give) in
    passed_then f p scope k s l
    ∙ then_twice (run f (passed_plan p scope Give) s l) (λ r. run f (k r)) (λ r. run f (alone r)) (λ r. run f (go r))
    (λ r s2 l2. on_fell_then f r out go (λ all. statements ns.now scope all go) (λ all. statements ns.now scope all Give)
    (λ all s3 l3. run_statements f ns.now scope all go s3 l3) s2 l2)
    ∙ sym (ap (λ (o : Run LuaState LuaQuestion LuaAnswer End). then_do o (λ r. run f (go r))) (passed_then f p scope alone s l))

pub stop_below : (items : Items) (fs pushed fs2 : List LuaFrame) (f : LuaFrame) (stop : Stop) (scope : Scope) (out : List Value)
    (s s2 : LuaState) (left left2 : ℕ) (step : LuaStep)
    → pushed ≡ fs ++ f ∷ []
    → Goes items pushed (stop_plan stop scope out Give) s left fs2 step s2 left2
    → Goes items fs (stop_plan stop scope out (after items f)) s left fs2 step s2 left2
stop_below items fs pushed fs2 f stop scope out s s2 left left2 step is g =
    below items fs pushed fs2 f (stop_plan stop scope out (after items f)) (stop_plan stop scope out Give) s s2 left left2 step is
    (λ later. stop_then (jobs_of items) stop scope out (after items f) (state s left) later) g

-- the frames of a call in progress: what is behind the statement, and what the statement does with the values
pub calling_below : (items : Items) (fs pushed more fs2 : List LuaFrame) (f : LuaFrame) (halt : Halt) (inner scope : Scope) (wait : Wait)
    (s s2 : LuaState) (left left2 : ℕ) (step : LuaStep)
    → pushed ≡ fs ++ f ∷ [] → more ≡ pushed ++ frames.All (alls.Wait wait scope) ∷ []
    → Goes items more (inside_plan halt inner Give) s left fs2 step s2 left2
    → Goes items fs (passed_plan (passed.Inside halt inner wait) scope (after items f)) s left fs2 step s2 left2
calling_below items fs pushed more fs2 f halt inner scope wait s s2 left left2 step is more_is g =
    let p = passed.Inside halt inner wait in
    let w = frames.All (alls.Wait wait scope) in
    let alone : End → LuaPlan = λ r. wait_plan wait scope r Give in
    below items fs pushed fs2 f (passed_plan p scope (after items f)) (passed_plan p scope Give) s s2 left left2 step is
    (λ later. passed_then (jobs_of items) p scope (after items f) (state s left) later)
    (below items pushed more fs2 w (inside_plan halt inner alone) (inside_plan halt inner Give) s s2 left left2 step more_is
    (λ later. inside_then (jobs_of items) halt inner alone (state s left) later
    ∙ then_same (run (jobs_of items) (inside_plan halt inner Give) (state s left) later) (λ r. run (jobs_of items) (alone r))
    (λ r. run (jobs_of items) (after items w r))
    (λ r s3 l. sym (all_ends (jobs_of items) r (λ vs. waited wait scope vs fell) (λ vs. waited wait scope vs (Give (Fell []))) s3 l (λ vs. refl)))) g)

-- ---- statements that make a call

-- a statement that drops the values
pub call_waits : (items : Items) (e : NodeId) (scope : Scope) (s : LuaState) (left : ℕ)
    → Becomes items (Do (jobs.Expression e scope) (λ r. on_all r (λ vs. fell))) s left
    (Do (jobs.Expression e scope) (λ r. wait_plan waits.Nothing scope r Give)) s left
call_waits items e scope s left = λ later.
    then_same (jobs_of items (jobs.Expression e scope) (state s left) later) (λ r. run (jobs_of items) (on_all r (λ vs. fell)))
    (λ r. run (jobs_of items) (wait_plan waits.Nothing scope r Give))
    (λ r s3 l. all_ends (jobs_of items) r (λ vs. fell) (λ vs. waited waits.Nothing scope vs (Give (Fell []))) s3 l (λ vs. refl))

-- a statement that declares locals
pub local_waits : (items : Items) (wait : Wait) (names : List NodeId) (e : NodeId) (scope : Scope) (s : LuaState) (left : ℕ)
    → ((vs : List Value) → waited wait scope vs fell ≡ Read (λ t. Write (declare_all (length names) scope.env vs t) fell))
    → Becomes items (local_plan names (e ∷ []) scope) s left
    (Do (jobs.Expression e scope) (λ r. wait_plan wait scope r Give)) s left
local_waits items wait names e scope s left is = λ later.
    let k : List Value → LuaPlan = λ vs. Read (λ t. Write (declare_all (length names) scope.env vs t) fell) in
    then_same (jobs_of items (jobs.Expression e scope) (state s left) later) (λ r. run (jobs_of items) (on_all r k))
    (λ r. run (jobs_of items) (wait_plan wait scope r Give))
    (λ r s3 l. all_ends (jobs_of items) r k (λ vs. waited wait scope vs (Give (Fell []))) s3 l
    (λ vs. ap (λ (p : LuaPlan). run (jobs_of items) p s3 l) (sym (is vs))))

-- a statement that stores in a local
pub store_waits : (items : Items) (n e : NodeId) (scope : Scope) (depth position : ℕ) (s : LuaState) (left mid : ℕ)
    → EndsAtOnce items (jobs.Target n scope) (Many (held_in (spots.Local depth position))) s left s mid
    → StoresIn items n scope (spots.Local depth position)
    → Becomes items (assign_plan items (n ∷ []) (e ∷ []) scope) s left
    (Do (jobs.Expression e scope) (λ r. wait_plan (waits.Store depth position) scope r Give)) s mid
store_waits items n e scope depth position s left mid aimed at = λ later.
    let us : List Value = values.Nil ∷ values.Nil ∷ [] in
    let k : List Value → LuaPlan = λ vs. stores items (n ∷ []) scope us vs 1 in
    ap (λ (o : Run LuaState LuaQuestion LuaAnswer End). then_do o (λ r. run (jobs_of items)
    (on_all r (λ held. values_of (e ∷ []) scope [] (λ vs. stores items (n ∷ []) scope held vs 1))))) (aimed later)
    ∙ then_same (jobs_of items (jobs.Expression e scope) (state s mid) later) (λ r. run (jobs_of items) (on_all r k))
    (λ r. run (jobs_of items) (wait_plan (waits.Store depth position) scope r Give))
    (λ r s3 l. all_ends (jobs_of items) r k (λ vs. waited (waits.Store depth position) scope vs (Give (Fell []))) s3 l
    (λ vs. at.stores (nth_value vs 0) fell s3.world s3.left refl l))

-- a statement whose unit is paid, and what is left of it
pub statement_passed : (items : Items) (n : NodeId) (scope : Scope) (place : Place) (st : Statement) (p : Passed) (go : End → LuaPlan)
    (s t : LuaState) (left mid : ℕ)
    → item_at items n ≡ kept.Statement place st → 1 ≤ left
    → Becomes items (statement_of items st n place scope) s (left - 1) (passed_plan p scope Give) t mid
    → Becomes items (Do (jobs.Statement n scope) go) s left (passed_plan p scope go) t mid
statement_passed items n scope place st p go s t left mid is enough h = λ later.
    ap (λ (o : Run LuaState LuaQuestion LuaAnswer End). then_do o (λ r. run (jobs_of items) (go r)))
    (run_job-is (job_plan items) (jobs.Statement n scope) (state s left) later
    ∙ paid-enough 1 (state s left) (λ w. run (jobs_of items) (statement_plan items (item_at items n) n scope) w later) enough
    ∙ ap (λ (i : Item). run (jobs_of items) (statement_plan items i n scope) (state s (left - 1)) later) is
    ∙ h later)
    ∙ sym (passed_then (jobs_of items) p scope go (state t mid) later)

-- statements behind one that is done with the call that it made
pub done_passes : (items : Items) (n : NodeId) (ns : List NodeId) (scope : Scope) (out : List Value) (go : End → LuaPlan)
    (s t : LuaState) (left mid : ℕ)
    → ((k : End → LuaPlan) → Becomes items (Do (jobs.Statement n scope) k) s left (k (Fell [])) t mid)
    → Becomes items (statements (n ∷ ns) scope out go) s left (statements ns scope out go) t mid
done_passes items n ns scope out go s t left mid h = λ later.
    h (λ r. on_fell r out go (λ all. statements ns scope all go)) later
    ∙ ap (λ (vs : List Value). run (jobs_of items) (statements ns scope vs go) (state t mid) later) (append-nil out)

-- ---- the values of a call

pub take_goes : (items : Items) (fs : List LuaFrame) (wait : Wait) (scope : Scope) (vs none : List Value) (s t : LuaState) (left : ℕ)
    → none ≡ [] → t ≡ waited_state wait scope vs s
    → Goes items fs (waited wait scope vs fell) s left fs (Return (Fell none)) t left
take_goes items fs waits.Nothing scope vs none s t left e h =
    moved items fs fs fell (Give (Fell none)) s t t left left (Return (Fell none)) (ap (λ (o : List Value). Give (Fell o)) (sym e)) (sym h)
    (returns items fs (Fell none) t left)
take_goes items fs (waits.Local ns) scope vs none s t left e h =
    moved items fs fs fell (Give (Fell none)) (declare_all (length ns.now) scope.env vs s) t t left left (Return (Fell none))
    (ap (λ (o : List Value). Give (Fell o)) (sym e)) (sym h) (returns items fs (Fell none) t left)
take_goes items fs (waits.Store depth position) scope vs none s t left e h =
    moved items fs fs fell (Give (Fell none)) (with_local s scope.env depth position (nth_value vs 0)) t t left left (Return (Fell none))
    (ap (λ (o : List Value). Give (Fell o)) (sym e)) (sym h) (returns items fs (Fell none) t left)

pub take_passes : (items : Items) (wait : Wait) (scope : Scope) (vs : List Value) (q : LuaPlan) (s t : LuaState) (left : ℕ)
    → t ≡ waited_state wait scope vs s → Becomes items (waited wait scope vs q) s left q t left
take_passes items waits.Nothing scope vs q s t left h = λ later.
    ap (λ (w : LuaState). run (jobs_of items) q (state w left) later) (sym h)
take_passes items (waits.Local ns) scope vs q s t left h = λ later.
    ap (λ (w : LuaState). run (jobs_of items) q (state w left) later) (sym h)
take_passes items (waits.Store depth position) scope vs q s t left h = λ later.
    ap (λ (w : LuaState). run (jobs_of items) q (state w left) later) (sym h)
