-- Fields of constructors, by what they are, and values under numbers.
use Rattle.std.proofs.Common.{◌≡◌, ◌≤◌, ◌+◌, ℕ, Bool, List, [], ◌∷◌, length, refl, sym, ap, ◌∙◌}
use Rattle.std.specs.Prelude.{if◌then◌else◌}
use Rattle.std.proofs.lemmas.Bool.{le-leb}
use Rattle.tl_base.specs.Layer.{state}
use Rattle.tl_base.specs.Plan.{Run, Read, Write, then_do, run}
use Rattle.tl_base.specs.declared.ids.NodeId.{NodeId}
use Rattle.tl_base.specs.declared.ids.TableId.{TableId}
use Rattle.tl_base.specs.declared.ids.TextId.{TextId}
use Rattle.tl_base.specs.declared.place.Place.{Place}
use Rattle.tl_tree.specs.Item.{Item}
use Rattle.tl_tree.specs.Item as kept
use Rattle.tl_tree.specs.declared.node.Piece.TheVariants as pieces
use Rattle.tl_tree.specs.Nodes.{item_at}
use Rattle.tl_tree.specs.Code.{Items, name_at}
use Rattle.lua_value.specs.declared.value.Value.{Value}
use Rattle.lua_value.specs.declared.value.Value.TheVariants as values
use Rattle.lua_table.specs.Heap.{interned_id, with_text, with_stored}
use Rattle.lua_table.specs.LuaState.{LuaState}
use Rattle.lua_model.specs.declared.end.End.{End}
use Rattle.lua_model.specs.declared.end.End.TheVariants.{One}
use Rattle.lua_model.specs.declared.job.Job.TheVariants as jobs
use Rattle.lua_model.specs.declared.question.LuaQuestion.{LuaQuestion}
use Rattle.lua_model.specs.declared.question.LuaAnswer.{LuaAnswer}
use Rattle.lua_model.specs.declared.scope.Scope.{Scope}
use Rattle.lua_model.specs.Fields.{store_raw}
use Rattle.lua_model.specs.Plans.{LuaPlan, on_one, on_all, value_of, with_text_of}
use Rattle.lua_model.specs.Tables.{field, fields, next_field, with_values, store_values}
use Rattle.lua_eval.specs.AtOnce.{EndsAtOnce, Becomes}
use Rattle.lua_eval.specs.declared.frame.TableFrame.{TableFrame}
use Rattle.lua_eval.specs.declared.tables.FieldKind.{FieldKind}
use Rattle.lua_eval.specs.declared.tables.FieldKind.TheVariants.{Named, Keyed, Listed}
use Rattle.lua_eval.specs.declared.frame.LuaFrame.{LuaFrame}
use Rattle.lua_eval.specs.Fields.{kind_of_field, field_by}
use Rattle.lua_eval.specs.Steps.{LuaStep, Goes}
use Rattle.lua_eval.proofs.Below.{jobs_of, moved}

pub field_is : (items : Items) (item : Item) (node : NodeId) (f : TableFrame)
    → field items item node f.rest.now f.table f.next f.place f.scope (λ next. fields items f.rest.now f.table next f.place f.scope)
    ≡ field_by items (kind_of_field item) node f
field_is items (kept.Piece (pieces.NamedField name value)) node f = refl
field_is items (kept.Piece (pieces.KeyedField key value)) node f = refl
field_is items item node f = refl

-- the first of the fields that are left
pub fields_goes : (items : Items) (fs fs2 : List LuaFrame) (n : NodeId) (kind : FieldKind) (f : TableFrame) (s s2 : LuaState)
    (left left2 : ℕ) (step : LuaStep)
    → kind ≡ kind_of_field (item_at items n)
    → Goes items fs (field_by items kind n f) s left fs2 step s2 left2
    → Goes items fs (fields items (n ∷ f.rest.now) f.table f.next f.place f.scope) s left fs2 step s2 left2
fields_goes items fs fs2 n kind f s s2 left left2 step is g =
    moved items fs fs2 (fields items (n ∷ f.rest.now) f.table f.next f.place f.scope) (field_by items kind n f) s s s2 left left2 step
    (field_is items (item_at items n) n f ∙ ap (λ (k : FieldKind). field_by items k n f) (sym is)) refl g

-- ---- fields that are evaluated and stored at once

-- a field before others, by what it is
abbrev pub field_of : Items → FieldKind → NodeId → List NodeId → TableId → ℕ → Place → Scope → (ℕ → LuaPlan) → LuaPlan
field_of items (Named name value) n rest table next place scope go =
    value_of value scope (λ v. with_text_of (name_at items name) (λ key. store_raw table key v place (go next)))
field_of items (Keyed key value) n rest table next place scope go =
    value_of key scope (λ k. value_of value scope (λ v. store_raw table k v place (go next)))
field_of items Listed n rest table next place scope go = next_field table next n rest scope go

field_kind_is : (items : Items) (item : Item) (n : NodeId) (rest : List NodeId) (table : TableId) (next : ℕ) (place : Place) (scope : Scope)
    (go : ℕ → LuaPlan) → field items item n rest table next place scope go ≡ field_of items (kind_of_field item) n rest table next place scope go
field_kind_is items (kept.Piece (pieces.NamedField name value)) n rest table next place scope go = refl
field_kind_is items (kept.Piece (pieces.KeyedField key value)) n rest table next place scope go = refl
field_kind_is items item n rest table next place scope go = refl

-- fields, by what the first one is
pub fields_are : (items : Items) (kind : FieldKind) (n : NodeId) (rest : List NodeId) (table : TableId) (next : ℕ) (place : Place)
    (scope : Scope) → kind ≡ kind_of_field (item_at items n)
    → fields items (n ∷ rest) table next place scope
    ≡ field_of items kind n rest table next place scope (λ m. fields items rest table m place scope)
fields_are items kind n rest table next place scope is =
    let go : ℕ → LuaPlan = λ m. fields items rest table m place scope in
    field_kind_is items (item_at items n) n rest table next place scope go
    ∙ ap (λ (k : FieldKind). field_of items k n rest table next place scope go) (sym is)

-- what is behind a value of an expression becomes what it becomes
pub value_becomes : (items : Items) (n : NodeId) (scope : Scope) (v : Value) (go : Value → LuaPlan) (q : LuaPlan)
    (s t : LuaState) (left mid : ℕ)
    → EndsAtOnce items (jobs.Expression n scope) (One v) s left s mid → Becomes items (go v) s mid q t mid
    → Becomes items (value_of n scope go) s left q t mid
value_becomes items n scope v go q s t left mid h part = λ later.
    ap (λ (o : Run LuaState LuaQuestion LuaAnswer End). then_do o (λ r. run (jobs_of items) (on_one r go))) (h later) ∙ part later

-- a value that is stored under a name
pub named_stored : (items : Items) (bytes : List ℕ) (table : TableId) (text : TextId) (v : Value) (place : Place) (go : LuaPlan)
    (s t : LuaState) (left : ℕ)
    → length bytes ≤ 65535 → text ≡ interned_id s bytes → t ≡ with_stored (with_text s bytes) table (values.Text text) v
    → Becomes items (with_text_of bytes (λ key. store_raw table key v place go)) s left go t left
named_stored items bytes table text v place go s t left short is made = λ later.
    ap (λ (b : Bool). run (jobs_of items)
    (if b then Read (λ w. Write (with_text w bytes) (store_raw table (values.Text (interned_id w bytes)) v place go))
    else store_raw table values.Nil v place go) (state s left) later) (le-leb (length bytes) 65535 short)
    ∙ ap (λ (id : TextId). run (jobs_of items) go (state (with_stored (with_text s bytes) table (values.Text id) v) left) later) (sym is)
    ∙ ap (λ (w : LuaState). run (jobs_of items) go (state w left) later) (sym made)

next_passes : (items : Items) (n : NodeId) (rest : List NodeId) (table : TableId) (next : ℕ) (place : Place) (scope : Scope) (v : Value)
    (s : LuaState) (left mid : ℕ)
    → EndsAtOnce items (jobs.Expression n scope) (One v) s left s mid
    → Becomes items (next_field table next n rest scope (λ m. fields items rest table m place scope)) s left
    (fields items rest table (next + 1) place scope) (with_values table next (v ∷ []) s) mid
next_passes items n [] table next place scope v s left mid h = λ later.
    ap (λ (o : Run LuaState LuaQuestion LuaAnswer End). then_do o (λ r. run (jobs_of items)
    (on_all r (λ vs. store_values table next vs (fields items [] table next place scope))))) (h later)
next_passes items n (m ∷ ms) table next place scope v s left mid h = λ later.
    ap (λ (o : Run LuaState LuaQuestion LuaAnswer End). then_do o (λ r. run (jobs_of items)
    (on_one r (λ w. store_values table next (w ∷ []) (fields items (m ∷ ms) table (next + 1) place scope))))) (h later)

-- a value that is stored under the next number
pub listed_passes : (items : Items) (kind : FieldKind) (n : NodeId) (rest : List NodeId) (table : TableId) (next behind : ℕ) (place : Place)
    (scope : Scope) (v : Value) (s t : LuaState) (left mid : ℕ)
    → kind ≡ kind_of_field (item_at items n) → kind ≡ Listed
    → EndsAtOnce items (jobs.Expression n scope) (One v) s left s mid
    → t ≡ with_values table next (v ∷ []) s → behind ≡ next + 1
    → Becomes items (fields items (n ∷ rest) table next place scope) s left (fields items rest table behind place scope) t mid
listed_passes items kind n rest table next behind place scope v s t left mid is listed h made follows = λ later.
    let go : ℕ → LuaPlan = λ m. fields items rest table m place scope in
    ap (λ (p : LuaPlan). run (jobs_of items) p (state s left) later)
    (fields_are items kind n rest table next place scope is
    ∙ ap (λ (k : FieldKind). field_of items k n rest table next place scope go) listed)
    ∙ next_passes items n rest table next place scope v s left mid h later
    ∙ ap (λ (m : ℕ). run (jobs_of items) (go m) (state (with_values table next (v ∷ []) s) mid) later) (sym follows)
    ∙ ap (λ (w : LuaState). run (jobs_of items) (go behind) (state w mid) later) (sym made)
