-- What is left of statements, of which some were executed at once.
use Rattle.std.specs.Prelude.{◌≡◌, List, [], ◌∷◌}
use Rattle.tl_base.specs.declared.ids.NodeId.{NodeId}
use Rattle.tl_base.specs.declared.place.Place.{Place}
use Rattle.tl_base.specs.Plan.{Give}
use Rattle.tl_tree.specs.declared.node.Statement.{Statement}
use Rattle.tl_tree.specs.declared.node.Expression.TheVariants.{Function}
use Rattle.tl_tree.specs.Item as kept
use Rattle.tl_tree.specs.Code.{Items}
use Rattle.tl_tree.specs.Nodes.{item_at}
use Rattle.lua_value.specs.declared.value.Value.{Value}
use Rattle.lua_model.specs.declared.scope.Scope.{Scope}
use Rattle.lua_model.specs.declared.end.End.{End}
use Rattle.lua_model.specs.declared.end.End.TheVariants.{Returned}
use Rattle.lua_model.specs.Plans.{LuaPlan, on_fell, statements, values_of, within}
use Rattle.lua_model.specs.Statements.{statement_of, statement_plan}
use Rattle.lua_eval.specs.declared.running.Entered.{Entered}
use Rattle.lua_eval.specs.declared.running.Halt.{Halt}
use Rattle.lua_eval.specs.declared.running.Halt.TheVariants as halts

-- what is left of a statement, with what is behind it
abbrev pub entered_plan : Entered → Scope → (End → LuaPlan) → LuaPlan
entered_plan e scope go = statements e.list.now (within scope e.env) [] go

-- what is left of statements, of which so much was emitted before
abbrev pub halt_plan : Halt → Scope → List Value → (End → LuaPlan) → LuaPlan
halt_plan (halts.At ns) scope out go = statements ns.now scope out go
halt_plan (halts.Within ms env ns) scope out go =
    statements ms.now (within scope env) [] (λ r. on_fell r out go (λ all. statements ns.now scope all go))

-- a statement returns the values of one expression
abbrev pub Returns : Statement → NodeId → Type 0
Returns st e =
    (items : Items) (n : NodeId) (place : Place) (scope : Scope)
    → statement_of items st n place scope ≡ values_of (e ∷ []) scope [] (λ vs. Give (Returned vs []))

-- a node is a statement that returns the values of one expression
abbrev pub IsReturn : Items → NodeId → NodeId → Type 0
IsReturn items n e =
    (scope : Scope) → statement_plan items (item_at items n) n scope ≡ values_of (e ∷ []) scope [] (λ vs. Give (Returned vs []))

-- a node makes a function of this body
abbrev pub MakesFunction : Items → NodeId → NodeId → Type 0
MakesFunction items n body = (place : Place) × (item_at items n ≡ kept.Expression place (Function body))
