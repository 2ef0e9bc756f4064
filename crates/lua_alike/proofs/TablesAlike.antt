-- Constructors of tables do the same in two trees that are alike.
use Rattle.std.specs.Prelude.{ℕ, ◌+◌, List, [], ◌∷◌}
use Rattle.std.specs.List.{All}
use Rattle.std.proofs.Common.{arith}
use Rattle.std.proofs.lemmas.List.Elements.{All-head, All-tail}
use Rattle.tl_base.specs.declared.ids.NodeId.{NodeId}
use Rattle.tl_base.specs.declared.ids.TableId.{TableId}
use Rattle.tl_base.specs.declared.place.Place.{Place}
use Rattle.tl_tree.specs.declared.node.Piece.TheVariants as pieces
use Rattle.tl_tree.specs.Item.{Item}
use Rattle.tl_tree.specs.Item as kept
use Rattle.tl_alike.specs.Roles.{selected_by, code_in}
use Rattle.tl_alike.specs.Alike as nodes
use Rattle.lua_value.specs.declared.value.Value.{Value}
use Rattle.lua_value.specs.declared.value.Value.TheVariants as values
use Rattle.lua_table.specs.Heap.{next_table}
use Rattle.lua_model.specs.declared.scope.Scope.{Scope}
use Rattle.lua_model.specs.declared.job.Job.TheVariants as jobs
use Rattle.lua_model.specs.declared.end.End.TheVariants.{One}
use Rattle.lua_model.specs.Plans.{LuaPlan}
use Rattle.lua_model.specs.Tables.{store_values, next_field, field, fields, table_plan}
use Rattle.lua_alike.proofs.PlansAlike.{Two, SameUse, SameName, Same, end_same, do_same, reading_same, writing_same, on_one_same}
use Rattle.lua_alike.proofs.PlansAlike.{on_all_same, value_same, name_same}
use Rattle.lua_alike.proofs.FieldsAlike.{store_raw_same}

store_values_same : {two : Two} (table : TableId) (n : ℕ) (vs : List Value) {rest rests : LuaPlan} → Same two rest rests
    → Same two (store_values table n vs rest) (store_values table n vs rests)
store_values_same table n vs k = reading_same (λ s. writing_same k)

next_field_same : {two : Two} (table : TableId) (n : ℕ) (id : NodeId) (more : List NodeId) (scope : Scope) {go goes : ℕ → LuaPlan}
    → SameUse two id → ((next : ℕ) → Same two (go next) (goes next))
    → Same two (next_field table n id more scope go) (next_field table n id more scope goes)
next_field_same table n id [] scope is h =
    do_same (jobs.Expression id scope) is (λ r. on_all_same r (λ vs. store_values_same table n vs (h n)))
next_field_same table n id (m ∷ ms) scope is h =
    do_same (jobs.Expression id scope) is (λ r. on_one_same r (λ v. store_values_same table n (v ∷ []) (h (n + 1))))

field_same : {two : Two} {a b : Item} → nodes.SameNode a b → (id : NodeId) (more : List NodeId) (table : TableId) (n : ℕ) (place : Place)
    (scope : Scope) {go goes : ℕ → LuaPlan} → SameUse two id → All (SameUse two) (code_in a) → All (SameName two) (selected_by a)
    → ((next : ℕ) → Same two (go next) (goes next))
    → Same two (field two.items a id more table n place scope go) (field two.other b id more table n place scope goes)
field_same (nodes.SameName p o x t u) id more table n place scope is uses selects h = next_field_same table n id more scope is h
field_same (nodes.SameNumeral p t u e f) id more table n place scope is uses selects h = next_field_same table n id more scope is h
field_same (nodes.SameLiteral p t u e) id more table n place scope is uses selects h = next_field_same table n id more scope is h
field_same (nodes.SameItem (kept.Piece (pieces.NamedField name value))) id more table n place scope is uses selects h =
    value_same value scope (uses 0 value (omega arith))
    (λ v. name_same name (selects 0 name (omega arith)) (λ key. store_raw_same table key v place (h n)))
field_same (nodes.SameItem (kept.Piece (pieces.KeyedField key value))) id more table n place scope is uses selects h =
    value_same key scope (uses 0 key (omega arith))
    (λ k. value_same value scope (uses 1 key (omega arith)) (λ v. store_raw_same table k v place (h n)))
field_same (nodes.SameItem item) id more table n place scope is uses selects h = next_field_same table n id more scope is h

fields_same : {two : Two} (fs : List NodeId) (table : TableId) (n : ℕ) (place : Place) (scope : Scope) → All (SameUse two) fs
    → Same two (fields two.items fs table n place scope) (fields two.other fs table n place scope)
fields_same [] table n place scope uses = end_same (One (values.Table table))
fields_same {two} (f ∷ fs) table n place scope uses =
    field_same (two.alike.nodes f) f fs table n place scope (All-head (SameUse two) f fs uses) (two.alike.uses f) (two.alike.selects f)
    (λ next. fields_same fs table next place scope (All-tail (SameUse two) f fs uses))

pub table_plan_same : {two : Two} (fs : List NodeId) (place : Place) (scope : Scope) → All (SameUse two) fs
    → Same two (table_plan two.items fs place scope) (table_plan two.other fs place scope)
table_plan_same fs place scope uses = reading_same (λ s. writing_same (fields_same fs (next_table s) 1 place scope uses))
