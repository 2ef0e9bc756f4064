use Rattle.std.proofs.Common.{◌≡◌, ℕ, refl, sym, ap, ◌∙◌}
use Rattle.tl_tree.specs.Arena.{items_of}
use Rattle.tl_tree.specs.Item.{Item}
use Rattle.tl_tree.specs.Item as kept
use Rattle.tl_tree.specs.Nodes.{item_at, item_of}
use Rattle.lua_value.specs.declared.value.Value.TheVariants.{Nil}
use Rattle.lua_table.specs.LuaState.{LuaState}
use Rattle.lua_model.specs.Plans.{LuaPlan}
use Rattle.lua_model.specs.Assignments.{held, target_of, target_plan}
use Rattle.lua_eval.specs.Steps.{Goes}
use Rattle.lua_eval.proofs.Below.{moved}
use Rattle.lua_eval.proofs.Targeting.{other_node}
use Rattle.lua_eval.proofs.statements.target.Goals as goal

pub returns-in_ok-step-in-Expression : goal.returns-in_ok-step-in-Expression
returns-in_ok-step-in-Expression c =
    let a = c.args in
    let m = c.in-Expression in
    let items = items_of a.tree.now in
    let fs = a.frames.now.items in
    let fs2 = c.target_of.new.frames.items in
    let plan : LuaPlan = target_plan items (item_at items a.node) a.scope in
    let e : item_at items a.node ≡ kept.Expression m.field-0 m.expression = sym c.node.ensures ∙ ap item_of m.is in
    let proof : (s : LuaState) (left : ℕ) → Goes items fs plan s left fs2 c.in_ok-step-in-Expression.step s left = λ s left.
    moved items fs fs2 plan (target_of items m.expression a.scope) s s s left left c.in_ok-step-in-Expression.step
    (ap (λ (i : Item). target_plan items i a.scope) e) refl (c.in_ok-step-in-Expression.ensures.means items s left) in
    record { means = proof }

pub returns-in_ok-step-in_default : goal.returns-in_ok-step-in_default
returns-in_ok-step-in_default c =
    let a = c.args in
    let items = items_of a.tree.now in
    let fs = a.frames.now.items in
    let plan : LuaPlan = target_plan items (item_at items a.node) a.scope in
    let proof : (s : LuaState) (left : ℕ) → Goes items fs plan s left fs c.in_ok-step-in_default.step s left = λ s left.
    moved items fs fs plan (held Nil Nil) s s s left left c.in_ok-step-in_default.step
    (other_node items c.node.result.now (item_at items a.node) a.scope c.node.ensures c.in_default.not-Expression) refl
    (c.in_ok-step-in_default.ensures.means items s left fs) in
    record { means = proof }
