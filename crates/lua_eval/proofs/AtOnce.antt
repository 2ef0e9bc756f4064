-- What is done at once: jobs that end so, what goes on behind them, and the results of operators and reads.
use Rattle.std.proofs.Common.{arith, ◌≡◌, ℕ, ◌+◌, ◌-◌, ◌≤◌, Bool, true, false, List, [], ◌∷◌, ◌++◌, length, refl, sym, ap, ◌∙◌, Option}
use Rattle.std.proofs.Common.{Some, None}
use Rattle.std.specs.Prelude.{IfSome, codes, if◌then◌else◌}
use Rattle.std.proofs.lemmas.Bool.{le-leb}
use Rattle.tl_base.specs.declared.ids.NodeId.{NodeId}
use Rattle.tl_base.specs.declared.ids.TableId.{TableId}
use Rattle.tl_base.specs.declared.ids.TextId.{TextId}
use Rattle.tl_base.specs.declared.place.Place.{Place}
use Rattle.tl_base.specs.declared.machine.Step.TheVariants.{Return}
use Rattle.tl_base.specs.Layer.{state}
use Rattle.tl_base.specs.Plan.{Run, Gives, Give, Do, IsWithin, then_do, run}
use Rattle.tl_base.specs.Machine.{plug}
use Rattle.tl_base.proofs.Plans.{run_job-is, paid-enough, plan_run-within}
use Rattle.tl_tree.specs.Code.{Items}
use Rattle.tl_tree.specs.declared.node.BinaryOperator.{BinaryOperator}
use Rattle.tl_tree.specs.declared.node.BinaryOperator.TheVariants as binary
use Rattle.lua_value.specs.declared.value.Value.{Value}
use Rattle.lua_value.specs.declared.value.Value.TheVariants as values
use Rattle.lua_value.specs.Values.{is_nil}
use Rattle.lua_table.specs.LuaState.{LuaState}
use Rattle.lua_table.specs.Heap.{table_at, text_place, id_if_any, id_at, texts_with, found_text, interned_id, with_text}
use Rattle.lua_table.specs.Pairs.{value_in}
use Rattle.lua_table.specs.Metatables.{handler_at}
use Rattle.lua_ops.specs.declared.operator.Arithmetic.{Arithmetic}
use Rattle.lua_ops.specs.declared.operator.Arithmetic.TheVariants.{Minus}
use Rattle.lua_ops.specs.declared.operator.Comparison.{Comparison}
use Rattle.lua_ops.specs.declared.outcome.Outcome.{Outcome}
use Rattle.lua_ops.specs.declared.outcome.Outcome.TheVariants as outcomes
use Rattle.lua_ops.specs.Outcomes.{arith_outcome, compare_outcome}
use Rattle.lua_model.specs.declared.job.Job.{Job}
use Rattle.lua_model.specs.declared.job.Job.TheVariants as jobs
use Rattle.lua_model.specs.declared.end.End.{End}
use Rattle.lua_model.specs.declared.end.End.TheVariants.{One}
use Rattle.lua_model.specs.declared.question.LuaQuestion.{LuaQuestion}
use Rattle.lua_model.specs.declared.question.LuaAnswer.{LuaAnswer}
use Rattle.lua_model.specs.declared.scope.Scope.{Scope}
use Rattle.lua_model.specs.Plans.{LuaPlan, give, on_one, on_all, value_of, values_of, with_text_of}
use Rattle.lua_model.specs.Fields.{read, read_by, read_table}
use Rattle.lua_model.specs.Operators.{arith as arith_plan, minus, compare, compared, settle, operate, binary_plan}
use Rattle.lua_model.specs.Meaning.{LuaGiven, job_plan}
use Rattle.lua_model.proofs.Composing.{with_text_then, run_read}
use Rattle.lua_eval.specs.AtOnce.{EndsAtOnce, Becomes}
use Rattle.lua_eval.specs.declared.frame.LuaFrame.{LuaFrame}
use Rattle.lua_eval.specs.Frames.{lua_rules}
use Rattle.lua_eval.specs.Steps.{LuaStep, Goes}
use Rattle.lua_eval.specs.Texts.{text_value, text_state}
use Rattle.lua_eval.proofs.Below.{jobs_of, moved, chosen}
use Rattle.lua_eval.proofs.Doing.{returns}

-- ---- results that are passed on

pub if-some : {T : Type 0} {P Q : T → Type 0} (r : Option T) → IfSome r P → ((v : T) → P v → Q v) → IfSome r Q
if-some (Some v) h go = go v h
if-some None h go = h

-- what is done in a heap is done in the same heap
pub in_heap : (items : Items) (p : LuaPlan) (r : End) (s t : LuaState) (left left2 : ℕ)
    → t ≡ s → Goes items [] p t left [] (Return r) t left2 → Goes items [] p s left [] (Return r) s left2
in_heap items p r s t left left2 same g = rw same at g

-- ---- jobs

-- a job that has its unit does its plan
pub begun : (items : Items) (job : Job) (r : End) (s s2 : LuaState) (left left2 : ℕ)
    → 1 ≤ left → Goes items [] (job_plan items job) s (left - 1) [] (Return r) s2 left2
    → EndsAtOnce items job r s left s2 left2
begun items job r s s2 left left2 enough g = λ later.
    run_job-is (job_plan items) job (state s left) later
    ∙ paid-enough 1 (state s left) (λ t. run (jobs_of items) (job_plan items job) t later) enough
    ∙ g later

-- a job never gains units
pub never_gains : (items : Items) (job : Job) (r : End) (s s2 : LuaState) (left left2 : ℕ)
    → EndsAtOnce items job r s left s2 left2 → left2 ≤ left
never_gains items job r s s2 left left2 h =
    let none : List LuaGiven = [] in
    let within = plan_run-within (job_plan items) (Do job Give) (state s left) none in
    let ended : IsWithin {W = LuaState} {Q = LuaQuestion} {A = LuaAnswer} {R = End} (left + 0) (Gives r (state s2 left2) none) = rw (h none) at within in
    omega (arith, ended)

-- what is behind a job goes on with its end
pub behind : (items : Items) (fs fs2 : List LuaFrame) (job : Job) (r : End) (go : End → LuaPlan)
    (s t s2 : LuaState) (left mid left2 : ℕ) (step : LuaStep)
    → EndsAtOnce items job r s left t mid
    → Goes items fs (go r) t mid fs2 step s2 left2
    → Goes items fs (Do job go) s left fs2 step s2 left2
behind items fs fs2 job r go s t s2 left mid left2 step h g = λ later.
    ap (λ (o : Run LuaState LuaQuestion LuaAnswer End). plug (lua_rules items) fs (then_do o (λ e. run (jobs_of items) (go e)))) (h later)
    ∙ g later

-- a value of an expression that changes nothing, where the heap that it was found in is known by an equation
pub behind_value : (items : Items) (fs fs2 : List LuaFrame) (n : NodeId) (scope : Scope) (v : Value) (go : Value → LuaPlan)
    (s t s2 : LuaState) (left mid left2 : ℕ) (step : LuaStep)
    → t ≡ s → EndsAtOnce items (jobs.Expression n scope) (One v) t left t mid
    → Goes items fs (go v) s mid fs2 step s2 left2
    → Goes items fs (value_of n scope go) s left fs2 step s2 left2
behind_value items fs fs2 n scope v go s t s2 left mid left2 step same h g =
    behind items fs fs2 (jobs.Expression n scope) (One v) (λ r. on_one r go) s s s2 left mid left2 step
    (rw same at h) g

-- what is behind a read under a name that was done at once goes on with its value
pub named_behind : (items : Items) (fs fs2 : List LuaFrame) (object v : Value) (bytes : List ℕ) (place : Place) (outer : Option Place)
    (go : Value → LuaPlan) (s s2 : LuaState) (left mid left2 : ℕ) (step : LuaStep)
    → Goes items [] (with_text_of bytes (λ key. read object key place outer give)) s left [] (Return (One v)) s mid
    → Goes items fs (go v) s mid fs2 step s2 left2
    → Goes items fs (with_text_of bytes (λ key. read object key place outer go)) s left fs2 step s2 left2
named_behind items fs fs2 object v bytes place outer go s s2 left mid left2 step h g = λ later.
    ap (plug (lua_rules items) fs)
    (with_text_then (jobs_of items) bytes (λ key. read object key place outer go)
    (λ key. read object key place outer give) (λ r. run (jobs_of items) (on_one r go))
    (λ key t l. run_read (jobs_of items) object key place outer go t l) (state s left) later
    ∙ ap (λ (o : Run LuaState LuaQuestion LuaAnswer End). then_do o (λ r. run (jobs_of items) (on_one r go))) (h later))
    ∙ g later

-- a plan of which a part was done goes on as what remains of it
pub passed : (items : Items) (fs fs2 : List LuaFrame) (p q : LuaPlan) (s t s2 : LuaState) (left mid left2 : ℕ) (step : LuaStep)
    → Becomes items p s left q t mid
    → Goes items fs q t mid fs2 step s2 left2 → Goes items fs p s left fs2 step s2 left2
passed items fs fs2 p q s t s2 left mid left2 step part g = λ later.
    ap (plug (lua_rules items) fs) (part later) ∙ g later

-- ---- lists of values

-- the first expression of a list
pub value_passes : (items : Items) (n : NodeId) (ns : List NodeId) (scope : Scope) (vs : List Value) (v : Value) (go : List Value → LuaPlan)
    (s : LuaState) (left mid : ℕ)
    → EndsAtOnce items (jobs.Expression n scope) (One v) s left s mid
    → Becomes items (values_of (n ∷ ns) scope vs go) s left (values_of ns scope (vs ++ v ∷ []) go) s mid
value_passes items n [] scope vs v go s left mid h = λ later.
    ap (λ (o : Run LuaState LuaQuestion LuaAnswer End). then_do o (λ r. run (jobs_of items) (on_all r (λ us. go (vs ++ us))))) (h later)
value_passes items n (m ∷ ns) scope vs v go s left mid h = λ later.
    ap (λ (o : Run LuaState LuaQuestion LuaAnswer End).
    then_do o (λ r. run (jobs_of items) (on_one r (λ w. values_of (m ∷ ns) scope (vs ++ w ∷ []) go)))) (h later)

-- ---- operators

-- an operator that evaluates both operands
pub both_is : (items : Items) (op : BinaryOperator) (a b : NodeId) (place : Place) (scope : Scope)
    → (op ≡ binary.And → ⊥) → (op ≡ binary.Or → ⊥)
    → binary_plan items op a b place scope
    ≡ value_of a scope (λ v. value_of b scope (λ w. operate items op v w place scope.call))
both_is items binary.And a b place scope not_and not_or = absurd (not_and refl)
both_is items binary.Or a b place scope not_and not_or = absurd (not_or refl)
both_is items op a b place scope not_and not_or = refl

pub arith_gives : (items : Items) (op : Arithmetic) (a b v : Value) (place : Place) (outer : Option Place) (s : LuaState) (left : ℕ)
    → arith_outcome s op a b ≡ outcomes.Value v
    → Goes items [] (arith_plan items op a b place outer) s left [] (Return (One v)) s left
arith_gives items op a b v place outer s left is =
    moved items [] [] (settle items (arith_outcome s op a b) (a ∷ b ∷ []) place outer) (give v) s s s left left (Return (One v))
    (ap (λ (o : Outcome). settle items o (a ∷ b ∷ []) place outer) is) refl (returns items [] (One v) s left)

pub minus_gives : (items : Items) (a v : Value) (place : Place) (outer : Option Place) (s : LuaState) (left : ℕ)
    → arith_outcome s Minus a values.Nil ≡ outcomes.Value v
    → Goes items [] (minus items a place outer) s left [] (Return (One v)) s left
minus_gives items a v place outer s left is =
    moved items [] [] (settle items (arith_outcome s Minus a values.Nil) (a ∷ []) place outer) (give v) s s s left left (Return (One v))
    (ap (λ (o : Outcome). settle items o (a ∷ []) place outer) is) refl (returns items [] (One v) s left)

pub compare_gives : (items : Items) (op : Comparison) (a b v : Value) (place : Place) (outer : Option Place) (s : LuaState) (left : ℕ)
    → compare_outcome s op a b ≡ outcomes.Value v
    → Goes items [] (compare items op a b place outer) s left [] (Return (One v)) s left
compare_gives items op a b v place outer s left is =
    moved items [] [] (compared items (compare_outcome s op a b) (a ∷ b ∷ []) place outer) (give v) s s s left left (Return (One v))
    (ap (λ (o : Outcome). compared items o (a ∷ b ∷ []) place outer) is) refl (returns items [] (One v) s left)

-- ---- reads

-- what stands in a table, and isn't nil
pub field_gives : (items : Items) (table : TableId) (key v : Value) (place : Place) (outer : Option Place) (s : LuaState) (left : ℕ)
    → v ≡ value_in (table_at s table) key → is_nil v ≡ false
    → Goes items [] (read_table table key place outer give) s left [] (Return (One v)) s left
field_gives items table key v place outer s left is full =
    let found = value_in (table_at s table) key in
    chosen items [] [] (is_nil found) false
    (read_by (handler_at s table (codes "__index")) table key place outer give) (give found) s s left left (Return (One v))
    (ap is_nil (sym is) ∙ full)
    (moved items [] [] (give found) (give v) s s s left left (Return (One v)) (ap give (sym is)) refl (returns items [] (One v) s left))

-- what the table says to read that has nothing there
pub absent_gives : (items : Items) (table : TableId) (key v w : Value) (place : Place) (outer : Option Place) (s : LuaState) (left left2 : ℕ)
    → v ≡ value_in (table_at s table) key → is_nil v ≡ true
    → Goes items [] (read_by (handler_at s table (codes "__index")) table key place outer give) s left [] (Return (One w)) s left2
    → Goes items [] (read_table table key place outer give) s left [] (Return (One w)) s left2
absent_gives items table key v w place outer s left left2 is absent g =
    let found = value_in (table_at s table) key in
    chosen items [] [] (is_nil found) true
    (read_by (handler_at s table (codes "__index")) table key place outer give) (give found) s s left left2 (Return (One w))
    (ap is_nil (sym is) ∙ absent) g

-- what stands in the table that another one says to read, and isn't nil
pub inherited_gives : (items : Items) (table parent : TableId) (key v handler : Value) (place : Place) (outer : Option Place) (s : LuaState) (left : ℕ)
    → handler ≡ values.Table parent → 1 ≤ left → v ≡ value_in (table_at s parent) key → is_nil v ≡ false
    → Goes items [] (read_by handler table key place outer give) s left [] (Return (One v)) s (left - 1)
inherited_gives items table parent key v handler place outer s left named enough is full =
    let job = jobs.Read (values.Table parent) key place outer in
    moved items [] [] (read_by handler table key place outer give) (Do job (λ r. on_one r give)) s s s left (left - 1) (Return (One v))
    (ap (λ (h : Value). read_by h table key place outer give) named) refl
    (behind items [] [] job (One v) (λ r. on_one r give) s s s left (left - 1) (left - 1) (Return (One v))
    (begun items job (One v) s s left (left - 1) enough (field_gives items parent key v place outer s (left - 1) is full))
    (returns items [] (One v) s (left - 1)))

-- ---- texts that stand in the heap

found_id : (texts : List (List ℕ)) (p : Option ℕ) (id : TextId) → ◌≡◌ {A = Option TextId} (Some id) (id_if_any p) → id ≡ id_at p texts
found_id texts (Some place) id e = cc
found_id texts None id e = absurd (cc)

found_texts : (texts : List (List ℕ)) (bytes : List ℕ) (p : Option ℕ) (id : TextId) → ◌≡◌ {A = Option TextId} (Some id) (id_if_any p) → texts ≡ texts_with p texts bytes
found_texts texts bytes (Some place) id e = refl
found_texts texts bytes None id e = absurd (cc)

-- a text that is found is that of its bytes
pub found_value : (s : LuaState) (bytes : List ℕ) (id : TextId) → length bytes ≤ 65535 → Some id ≡ found_text s bytes
    → values.Text id ≡ text_value s bytes
found_value s bytes id short e =
    ap values.Text (found_id s.texts (text_place s.texts bytes) id e)
    ∙ ap (λ (b : Bool). if b then values.Text (interned_id s bytes) else values.Nil) (sym (le-leb (length bytes) 65535 short))

-- and the heap has it
pub found_state : (s : LuaState) (bytes : List ℕ) (id : TextId) → length bytes ≤ 65535 → Some id ≡ found_text s bytes
    → s ≡ text_state s bytes
found_state s bytes id short e =
    ap (λ (ts : List (List ℕ)). record s { texts = ts }) (found_texts s.texts bytes (text_place s.texts bytes) id e)
    ∙ ap (λ (b : Bool). if b then with_text s bytes else s) (sym (le-leb (length bytes) 65535 short))
