-- Constructors of tables (Lua 5.1 manual, section 2.5.7).
use Rattle.std.specs.Prelude.{ℕ, ◌+◌, List, [], ◌∷◌, if◌then◌else◌}
use Rattle.tl_base.specs.declared.ids.NodeId.{NodeId}
use Rattle.tl_base.specs.declared.ids.TableId.{TableId}
use Rattle.tl_base.specs.declared.place.Place.{Place}
use Rattle.tl_base.specs.Plan.{Do, Read, Write}
use Rattle.tl_tree.specs.declared.node.Piece.TheVariants as pieces
use Rattle.tl_tree.specs.Item.{Item}
use Rattle.tl_tree.specs.Item as kept
use Rattle.tl_tree.specs.Nodes.{item_at}
use Rattle.tl_tree.specs.Code.{Items, name_at}
use Rattle.lua_value.specs.declared.value.Value.{Value}
use Rattle.lua_value.specs.declared.value.Value.TheVariants as values
use Rattle.lua_value.specs.Values.{is_nil}
use Rattle.lua_table.specs.LuaState.{LuaState}
use Rattle.lua_table.specs.Heap.{next_table, with_table, with_stored}
use Rattle.lua_model.specs.declared.scope.Scope.{Scope}
use Rattle.lua_model.specs.declared.job.Job.TheVariants as jobs
use Rattle.lua_model.specs.Plans.{LuaPlan, give, on_one, on_all, value_of, with_text_of, whole}
use Rattle.lua_model.specs.Fields.{store_raw}

-- stores values under the numbers from n on, as far as these are in the profile
abbrev pub with_values : TableId → ℕ → List Value → LuaState → LuaState
with_values table n [] s = s
with_values table n (v ∷ vs) s =
    with_values table (n + 1) vs (if is_nil (whole n) then s else with_stored s table (whole n) v)

abbrev pub store_values : TableId → ℕ → List Value → LuaPlan → LuaPlan
store_values table n vs rest = Read (λ s. Write (with_values table n vs s) rest)

-- A field without a key takes the next number; the last one takes a number for each of its values.
abbrev pub next_field : TableId → ℕ → NodeId → List NodeId → Scope → (ℕ → LuaPlan) → LuaPlan
next_field table n field [] scope go =
    Do (jobs.Expression field scope) (λ r. on_all r (λ vs. store_values table n vs (go n)))
next_field table n field (m ∷ ms) scope go =
    Do (jobs.Expression field scope) (λ r. on_one r (λ v. store_values table n (v ∷ []) (go (n + 1))))

-- one field, before others, and the number that the next one without a key takes
abbrev pub field : Items → Item → NodeId → List NodeId → TableId → ℕ → Place → Scope → (ℕ → LuaPlan) → LuaPlan
field items (kept.Piece (pieces.NamedField name value)) id more table n place scope go =
    value_of value scope (λ v. with_text_of (name_at items name) (λ key. store_raw table key v place (go n)))
field items (kept.Piece (pieces.KeyedField key value)) id more table n place scope go =
    value_of key scope (λ k. value_of value scope (λ v. store_raw table k v place (go n)))
field items item id more table n place scope go = next_field table n id more scope go

-- fields are evaluated and stored one after the other
abbrev pub fields : Items → List NodeId → TableId → ℕ → Place → Scope → LuaPlan
fields items [] table n place scope = give (values.Table table)
fields items (f ∷ fs) table n place scope =
    field items (item_at items f) f fs table n place scope (λ next. fields items fs table next place scope)

abbrev pub table_plan : Items → List NodeId → Place → Scope → LuaPlan
table_plan items fs place scope = Read (λ s. Write (with_table s) (fields items fs (next_table s) 1 place scope))
