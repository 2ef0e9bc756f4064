-- Targets that store in spots, where no handler is asked.
use Rattle.std.proofs.Common.{◌≡◌, ℕ, zero, suc, Bool, true, false, List, [], ◌∷◌, refl, sym, ap, ◌∙◌, Option, Some, None}
use Rattle.std.specs.Prelude.{codes, not, slice_index_or, slice_set, if◌then◌else◌}
use Rattle.tl_base.specs.declared.ids.NodeId.{NodeId}
use Rattle.tl_base.specs.declared.ids.TableId.{TableId}
use Rattle.tl_base.specs.declared.place.Place.{Place}
use Rattle.tl_base.specs.Layer.{state}
use Rattle.tl_base.specs.Plan.{Run, Read, Write, then_do, run}
use Rattle.tl_tree.specs.declared.node.Expression.{Expression}
use Rattle.tl_tree.specs.Code.{Items}
use Rattle.tl_tree.specs.Item.{Item}
use Rattle.tl_tree.specs.Item as kept
use Rattle.tl_tree.specs.Nodes.{item_at}
use Rattle.tl_tree.specs.Scopes.{binder}
use Rattle.lua_value.specs.declared.value.Value.{Value}
use Rattle.lua_value.specs.declared.value.Value.TheVariants as values
use Rattle.lua_value.specs.Values.{is_nil}
use Rattle.lua_table.specs.declared.table.HeldTable.{HeldTable}
use Rattle.lua_table.specs.Cells.{nth_value}
use Rattle.lua_table.specs.Heap.{no_table, table_at, metatable_at, with_stored}
use Rattle.lua_table.specs.LuaState.{LuaState}
use Rattle.lua_table.specs.Metatables.{handler_at, handler_in}
use Rattle.lua_table.specs.Pairs.{Pairs, value_in, with_value}
use Rattle.lua_ops.specs.declared.fault.Fault.TheVariants.{NilKey}
use Rattle.lua_model.specs.declared.scope.Scope.{Scope}
use Rattle.lua_model.specs.Assignments.{store_target, stores, targets, assign_plan}
use Rattle.lua_model.specs.Fields.{store_by, store_raw}
use Rattle.lua_model.specs.Plans.{LuaPlan, fell, on_one, on_all, raise, values_of}
use Rattle.lua_model.specs.declared.job.Job.TheVariants as jobs
use Rattle.lua_model.specs.declared.end.End.{End}
use Rattle.lua_model.specs.declared.end.End.TheVariants.{One, Many}
use Rattle.lua_model.specs.declared.question.LuaQuestion.{LuaQuestion}
use Rattle.lua_model.specs.declared.question.LuaAnswer.{LuaAnswer}
use Rattle.lua_model.specs.Meaning.{LuaGiven}
use Rattle.lua_eval.specs.Slots.{path_of}
use Rattle.lua_eval.specs.AtOnce.{EndsAtOnce, Becomes}
use Rattle.lua_eval.specs.Spots.{held_in}
use Rattle.lua_eval.specs.Storing.{StoresIn, IsField, IsBare, field_takes, put_in, put_both, takes}
use Rattle.lua_eval.specs.declared.direct.Spot.{Spot}
use Rattle.lua_eval.specs.declared.direct.Spot.TheVariants as spots
use Rattle.lua_eval.proofs.Below.{jobs_of}
use Rattle.lua_eval.proofs.Named.{store_known}

nil_is : (v : Value) → is_nil v ≡ true → v ≡ values.Nil
nil_is values.Nil e = refl
nil_is v e = absurd cc

-- a raw store under a key
raw_goes : (items : Items) (table : TableId) (key v : Value) (place : Place) (rest : LuaPlan) (s : LuaState) (left : ℕ)
    (later : List LuaGiven) → is_nil key ≡ false
    → run (jobs_of items) (store_raw table key v place rest) (state s left) later
    ≡ run (jobs_of items) rest (state (with_stored s table key v) left) later
raw_goes items table key v place rest s left later some =
    ap (λ (b : Bool). run (jobs_of items) (if b then raise place NilKey else Read (λ w. Write (with_stored w table key v) rest))
    (state s left) later) some

-- a store for which no handler is asked
stored_by : (items : Items) (table : TableId) (key v : Value) (place : Place) (outer : Option Place) (rest : LuaPlan) (s : LuaState)
    (left : ℕ) (later : List LuaGiven) (absent : Bool) (handler : Value)
    → (if absent then is_nil handler else true) ≡ true → is_nil key ≡ false
    → run (jobs_of items)
    (if absent then store_by handler table key v place outer rest else store_raw table key v place rest) (state s left) later
    ≡ run (jobs_of items) rest (state (with_stored s table key v) left) later
stored_by items table key v place outer rest s left later true handler none some =
    ap (λ (h : Value). run (jobs_of items) (store_by h table key v place outer rest) (state s left) later) (nil_is handler none)
    ∙ raw_goes items table key v place rest s left later some
stored_by items table key v place outer rest s left later false handler none some =
    raw_goes items table key v place rest s left later some

-- a local
pub local_stores : (items : Items) (n : NodeId) (scope : Scope) (place : Place) (offset : ℕ) (text : List ℕ) (depth position : ℕ)
    → item_at items n ≡ kept.Name place offset text → Some (depth, position) ≡ path_of (binder items n)
    → StoresIn items n scope (spots.Local depth position)
local_stores items n scope place offset text depth position is path = record {
  keyed = tt;
  stores = λ v rest s left taken later.
      ap (λ (i : Item). run (jobs_of items) (store_target items i n scope values.Nil values.Nil v rest) (state s left) later) is
      ∙ ap (λ (p : LuaPlan). run (jobs_of items) p (state s left) later)
      (store_known (binder items n) (Some (depth, position)) text place scope v rest path);
}

-- a field
pub field_stores : (items : Items) (n : NodeId) (scope : Scope) (place : Place) (e : Expression) (spot : Spot)
    → item_at items n ≡ kept.Expression place e → IsField spot → StoresIn items n scope spot
field_stores items n scope place e (spots.Local depth position) is some = absurd some
field_stores items n scope place e (spots.Field table key) is some = record {
  keyed = some;
  stores = λ v rest s left taken later.
      ap (λ (i : Item). run (jobs_of items) (store_target items i n scope (values.Table table) key v rest) (state s left) later) is
      ∙ stored_by items table key v place scope.call rest s left later (is_nil (value_in (table_at s table) key))
      (handler_at s table (codes "__newindex")) taken some;
}

either : (b : Bool) → (if b then true else true) ≡ true
either true = refl
either false = refl

-- a table without a metatable
pub bare_takes : (s : LuaState) (table : TableId) (key : Value) → None ≡ metatable_at s table → field_takes s table key ≡ true
bare_takes s table key none =
    ap (λ (m : Option TableId). if is_nil (value_in (table_at s table) key) then is_nil (handler_in s m (codes "__newindex")) else true)
    (sym none) ∙ either (is_nil (value_in (table_at s table) key))

present_by : (b h : Bool) → not b ≡ true → (if b then h else true) ≡ true
present_by true h e = absurd cc
present_by false h e = refl

-- a table with a value there
pub full_takes : (s : LuaState) (table : TableId) (key : Value) → not (is_nil (value_in (table_at s table) key)) ≡ true
    → field_takes s table key ≡ true
full_takes s table key e = present_by (is_nil (value_in (table_at s table) key)) (is_nil (handler_at s table (codes "__newindex"))) e

-- an assignment of one value to one target
pub assign_passes : (items : Items) (target value : NodeId) (scope : Scope) (spot : Spot) (v : Value) (s : LuaState)
    (left mid left2 : ℕ)
    → EndsAtOnce items (jobs.Target target scope) (Many (held_in spot)) s left s mid
    → EndsAtOnce items (jobs.Expression value scope) (One v) s mid s left2
    → StoresIn items target scope spot → takes s spot ≡ true
    → Becomes items (assign_plan items (target ∷ []) (value ∷ []) scope) s left fell (put_in s scope spot v) left2
assign_passes items target value scope spot v s left mid left2 aimed found at taken = λ later.
    ap (λ (o : Run LuaState LuaQuestion LuaAnswer End). then_do o (λ r. run (jobs_of items)
    (on_all r (λ us. values_of (value ∷ []) scope [] (λ vs. stores items (target ∷ []) scope us vs 1))))) (aimed later)
    ∙ ap (λ (o : Run LuaState LuaQuestion LuaAnswer End). then_do o (λ r. run (jobs_of items)
    (on_all r (λ vs. stores items (target ∷ []) scope (held_in spot) vs 1)))) (found later)
    ∙ at.stores v fell s left2 taken later

-- ---- two targets

-- a store under a key changes no metatable
bare_still : (ts : List HeldTable) (i j : ℕ) (ps : Pairs)
    → (slice_index_or (slice_set ts i (record { table = ps; metatable = (slice_index_or ts i no_table).metatable })) j no_table).metatable
    ≡ (slice_index_or ts j no_table).metatable
bare_still [] i j ps = refl
bare_still (t ∷ ts) zero zero ps = refl
bare_still (t ∷ ts) zero (suc j) ps = refl
bare_still (t ∷ ts) (suc i) zero ps = refl
bare_still (t ∷ ts) (suc i) (suc j) ps = bare_still ts i j ps

put_metatable : (s : LuaState) (scope : Scope) (spot : Spot) (v : Value) (table : TableId)
    → metatable_at (put_in s scope spot v) table ≡ metatable_at s table
put_metatable s scope (spots.Local depth position) v table = refl
put_metatable s scope (spots.Field id key) v table = bare_still s.tables id.0 table.0 (with_value (table_at s id) key v)

-- a store asks no handler, whatever is stored before
pub bare_spot : (s : LuaState) (spot : Spot) → IsBare s spot → takes s spot ≡ true
bare_spot s (spots.Local depth position) bare = refl
bare_spot s (spots.Field table key) bare = bare_takes s table key bare

bare_after : (s : LuaState) (scope : Scope) (second : Spot) (w : Value) (spot : Spot)
    → IsBare s spot → takes (put_in s scope second w) spot ≡ true
bare_after s scope second w (spots.Local depth position) bare = refl
bare_after s scope second w (spots.Field table key) bare =
    bare_takes (put_in s scope second w) table key (bare ∙ sym (put_metatable s scope second w table))

held_two : (spot : Spot) → held_in spot ≡ nth_value (held_in spot) 0 ∷ nth_value (held_in spot) 1 ∷ []
held_two (spots.Local depth position) = refl
held_two (spots.Field table key) = refl

-- an assignment of two values to two targets, by what their stores do
pair_stored : (items : Items) (n m e f : NodeId) (scope : Scope) (oa ka ob kb v w : Value) (s t u : LuaState) (left l1 l2 l3 left2 : ℕ)
    → EndsAtOnce items (jobs.Target n scope) (Many (oa ∷ ka ∷ [])) s left s l1
    → EndsAtOnce items (jobs.Target m scope) (Many (ob ∷ kb ∷ [])) s l1 s l2
    → EndsAtOnce items (jobs.Expression e scope) (One v) s l2 s l3
    → EndsAtOnce items (jobs.Expression f scope) (One w) s l3 s left2
    → ((rest : LuaPlan) → Becomes items (store_target items (item_at items m) m scope ob kb w rest) s left2 rest t left2)
    → ((rest : LuaPlan) → Becomes items (store_target items (item_at items n) n scope oa ka v rest) t left2 rest u left2)
    → Becomes items (assign_plan items (n ∷ m ∷ []) (e ∷ f ∷ []) scope) s left fell u left2
pair_stored items n m e f scope oa ka ob kb v w s t u left l1 l2 l3 left2 first second one other last before = λ later.
    let go : List Value → LuaPlan = λ us. values_of (e ∷ f ∷ []) scope [] (λ vs. stores items (n ∷ m ∷ []) scope us vs 2) in
    let us : List Value = oa ∷ ka ∷ ob ∷ kb ∷ [] in
    let all : List Value → LuaPlan = λ vs. stores items (n ∷ m ∷ []) scope us vs 2 in
    ap (λ (o : Run LuaState LuaQuestion LuaAnswer End). then_do o (λ r. run (jobs_of items)
    (on_all r (λ held. targets (m ∷ []) scope held go)))) (first later)
    ∙ ap (λ (o : Run LuaState LuaQuestion LuaAnswer End). then_do o (λ r. run (jobs_of items)
    (on_all r (λ held. go (oa ∷ ka ∷ held))))) (second later)
    ∙ ap (λ (o : Run LuaState LuaQuestion LuaAnswer End). then_do o (λ r. run (jobs_of items)
    (on_one r (λ x. values_of (f ∷ []) scope (x ∷ []) all)))) (one later)
    ∙ ap (λ (o : Run LuaState LuaQuestion LuaAnswer End). then_do o (λ r. run (jobs_of items)
    (on_all r (λ vs. all (v ∷ vs))))) (other later)
    ∙ last (store_target items (item_at items n) n scope oa ka v fell) later
    ∙ before fell later

pub pair_passes : (items : Items) (n m e f : NodeId) (scope : Scope) (a b : Spot) (v w : Value) (s : LuaState) (left l1 l2 l3 left2 : ℕ)
    → EndsAtOnce items (jobs.Target n scope) (Many (held_in a)) s left s l1
    → EndsAtOnce items (jobs.Target m scope) (Many (held_in b)) s l1 s l2
    → EndsAtOnce items (jobs.Expression e scope) (One v) s l2 s l3
    → EndsAtOnce items (jobs.Expression f scope) (One w) s l3 s left2
    → StoresIn items n scope a → StoresIn items m scope b → IsBare s a → IsBare s b
    → Becomes items (assign_plan items (n ∷ m ∷ []) (e ∷ f ∷ []) scope) s left fell (put_both s scope a v b w) left2
pair_passes items n m e f scope a b v w s left l1 l2 l3 left2 first second one other at_a at_b bare_a bare_b =
    let t = put_in s scope b w in
    pair_stored items n m e f scope (nth_value (held_in a) 0) (nth_value (held_in a) 1) (nth_value (held_in b) 0) (nth_value (held_in b) 1) v w
    s t (put_in t scope a v) left l1 l2 l3 left2 (rw (held_two a) at first) (rw (held_two b) at second) one other
    (λ rest. at_b.stores w rest s left2 (bare_spot s b bare_b))
    (λ rest. at_a.stores v rest t left2 (bare_after s scope b w a bare_a))
