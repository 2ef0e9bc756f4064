-- Targets that are no fields, which have no object and no key.
use Rattle.std.proofs.Common.{◌≡◌, refl, sym, ap}
use Rattle.tl_base.specs.declared.ids.NodeId.{NodeId}
use Rattle.tl_base.specs.declared.place.Place.{Place}
use Rattle.tl_tree.specs.declared.node.Expression.{Expression}
use Rattle.tl_tree.specs.declared.node.Expression.TheVariants as expressions
use Rattle.tl_tree.specs.declared.node.Node.{Node}
use Rattle.tl_tree.specs.declared.node.Node.TheVariants as nodes
use Rattle.tl_tree.specs.Code.{Items}
use Rattle.tl_tree.specs.Item.{Item}
use Rattle.tl_tree.specs.Nodes.{item_of}
use Rattle.lua_value.specs.declared.value.Value.TheVariants.{Nil}
use Rattle.lua_model.specs.declared.scope.Scope.{Scope}
use Rattle.lua_model.specs.Assignments.{held, target_of, target_plan}

-- an expression that is no index and no selection
pub other_target : (items : Items) (e : Expression) (scope : Scope)
    → ((object key : NodeId) → e ≡ expressions.Index object key → ⊥)
    → ((object name : NodeId) → e ≡ expressions.Select object name → ⊥)
    → target_of items e scope ≡ held Nil Nil
other_target items (expressions.Index object key) scope not_index not_select = absurd (not_index object key refl)
other_target items (expressions.Select object name) scope not_index not_select = absurd (not_select object name refl)
other_target items e scope not_index not_select = refl

-- a node that is no expression
pub other_node : (items : Items) (node : Node) (item : Item) (scope : Scope)
    → item_of node ≡ item → ((place : Place) (e : Expression) → node ≡ nodes.Expression place e → ⊥)
    → target_plan items item scope ≡ held Nil Nil
other_node items (nodes.Expression place e) item scope is not_expression = absurd (not_expression place e refl)
other_node items node item scope is not_expression = ap (λ (i : Item). target_plan items i scope) (sym is)
