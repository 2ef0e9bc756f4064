-- Struct types.
use Rattle.std.specs.Prelude.{ℕ, ◌+◌, ℤ, pos, List, [], ◌∷◌, codes, Option, Some, None}
use Rattle.tl_base.specs.declared.ids.EnvId.{EnvId}
use Rattle.tl_base.specs.declared.ids.NodeId.{NodeId}
use Rattle.tl_base.specs.declared.ids.TableId.{TableId}
use Rattle.tl_base.specs.declared.ids.TextId.{TextId}
use Rattle.tl_base.specs.declared.ids.TypeId.{TypeId}
use Rattle.tl_base.specs.declared.place.Place.{Place}
use Rattle.tl_base.specs.Plan.{Give, Read, Write}
use Rattle.lua_value.specs.Numbers.{number_from}
use Rattle.lua_value.specs.declared.value.Value.{Value}
use Rattle.lua_value.specs.declared.value.Value.TheVariants as values
use Rattle.lua_table.specs.LuaState.{LuaState}
use Rattle.lua_table.specs.Heap.{next_table, with_table, with_stored}
use Rattle.tl_tree.specs.Code.{Items, name_at}
use Rattle.exotype.specs.World.{with_heap}
use Rattle.exotype.specs.Types.{next_type, with_struct, tables_of}
use Rattle.spec_model.specs.declared.end.End.TheVariants.{Gave}
use Rattle.spec_model.specs.Nodes.{typing_at}
use Rattle.spec_model.specs.Plans.{SpecPlan, with_text_of, declaring}
use Rattle.spec_model.specs.Types.{type_if_any}
use Rattle.spec_model.specs.Definitions.{target, storing, over}

-- the heap with a value under a number of a table
abbrev pub put : LuaState → TableId → Option ℤ → Value → LuaState
put heap table (Some z) v = with_stored heap table (values.Number z) v
put heap table None v = heap

-- a new table with the fields `field` and `type`, as the entry of a number
abbrev pub with_entry : LuaState → TableId → ℕ → TextId → TextId → TextId → TypeId → LuaState
with_entry heap entries i field name type of =
    let entry = next_table heap in
    put
    (with_stored (with_stored (with_table heap) entry (values.Text field) (values.Text name))
    entry (values.Text type) (values.TerraType of))
    entries (number_from (pos i)) (values.Table entry)

abbrev pub entry : TableId → ℕ → List ℕ → TypeId → SpecPlan → SpecPlan
entry entries i bytes of rest =
    with_text_of (codes "field") (λ field. with_text_of bytes (λ name. with_text_of (codes "type") (λ type.
    Read (λ w. Write (with_heap w (with_entry w.heap entries i field name type of)) rest))))

-- what has no type isn't an entry
abbrev pub entry_if_any : TableId → ℕ → List ℕ → Option TypeId → SpecPlan → SpecPlan
entry_if_any entries i bytes (Some of) rest = entry entries i bytes of rest
entry_if_any entries i bytes None rest = rest

-- the types are evaluated in order, and each is put into the list of entries before the next
abbrev pub entries_plan : Items → List NodeId → TypeId → ℕ → EnvId → SpecPlan → SpecPlan
entries_plan items [] struct i env rest = rest
entries_plan items (n ∷ ns) struct i env rest =
    type_if_any items (typing_at items n).type env (λ of. Read (λ w.
    entry_if_any (tables_of w struct).entries i (name_at items (typing_at items n).name) of
    (entries_plan items ns struct (i + 1) env rest)))

-- a new struct
abbrev pub new_struct : Place → (TypeId → SpecPlan) → SpecPlan
new_struct place go = Read (λ w. Write (with_struct w place) (go (next_type w)))

-- a struct is stored before its types are evaluated
abbrev pub struct_plan : Items → NodeId → List NodeId → Place → EnvId → SpecPlan
struct_plan items path ns place env =
    target items path env (λ t none. new_struct place (λ s. storing t (values.TerraType s) (entries_plan items ns s 1 env over)))

abbrev pub local_struct_plan : Items → List NodeId → Place → EnvId → SpecPlan
local_struct_plan items ns place env = new_struct place (λ s. declaring env (values.TerraType s) (entries_plan items ns s 1 env over))

abbrev pub anonymous_struct_plan : Items → List NodeId → Place → EnvId → SpecPlan
anonymous_struct_plan items ns place env = new_struct place (λ s. entries_plan items ns s 1 env (Give (Gave (values.TerraType s))))
