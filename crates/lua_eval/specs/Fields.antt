-- The fields of a constructor, by what they are.
use Rattle.tl_base.specs.declared.ids.NodeId.{NodeId}
use Rattle.tl_tree.specs.Item.{Item}
use Rattle.tl_tree.specs.Item as kept
use Rattle.tl_tree.specs.declared.node.Piece.TheVariants as pieces
use Rattle.tl_tree.specs.Code.{Items, name_at}
use Rattle.lua_model.specs.Plans.{LuaPlan, value_of, with_text_of}
use Rattle.lua_model.specs.Fields.{store_raw}
use Rattle.lua_model.specs.Tables.{next_field}
use Rattle.lua_eval.specs.declared.frame.TableFrame.{TableFrame}
use Rattle.lua_eval.specs.declared.tables.FieldKind.{FieldKind}
use Rattle.lua_eval.specs.declared.tables.FieldKind.TheVariants.{Named, Keyed, Listed}
use Rattle.lua_eval.specs.Frames.{fields_from}

abbrev pub kind_of_field : Item → FieldKind
kind_of_field (kept.Piece (pieces.NamedField name value)) = Named name value
kind_of_field (kept.Piece (pieces.KeyedField key value)) = Keyed key value
kind_of_field item = Listed

-- a field, before those that a frame has
abbrev pub field_by : Items → FieldKind → NodeId → TableFrame → LuaPlan
field_by items (Named name value) node f =
    value_of value f.scope (λ v. with_text_of (name_at items name) (λ key.
    store_raw f.table key v f.place (fields_from items f f.next)))
field_by items (Keyed key value) node f =
    value_of key f.scope (λ k. value_of value f.scope (λ v.
    store_raw f.table k v f.place (fields_from items f f.next)))
field_by items Listed node f = next_field f.table f.next node f.rest.now f.scope (λ next. fields_from items f next)
