use Rattle.std.proofs.Common.{◌≡◌, [], refl, rules}
use Rattle.tl_base.specs.declared.machine.Step.TheVariants.{Return}
use Rattle.tl_tree.specs.Arena.{items_of}
use Rattle.tl_tree.specs.Item as kept
use Rattle.tl_tree.specs.Nodes.{item_at}
use Rattle.tl_lex.specs.Values.{value_of as literal_value}
use Rattle.lua_model.specs.declared.end.End.TheVariants.{One}
use Rattle.lua_model.specs.Plans.{with_text_of, give}
use Rattle.lua_model.specs.Expressions.{expression_plan}
use Rattle.lua_eval.proofs.AtOnce.{if-some}
use Rattle.lua_eval.proofs.Evaluating.{node_goes}
use Rattle.lua_eval.proofs.quick.leaf_value.Goals as goal

pub returns-in-Expression : goal.returns-in-Expression
returns-in-Expression c =
    let a = c.args in
    let m = c.in-Expression in
    let items = items_of a.tree.now in
    let s = a.heap.now in
    let e : item_at items a.node ≡ kept.Expression m.field-0 m.expression = search rules in
    if-some c.constant.result c.constant.ensures (λ v h. λ left.
    node_goes items [] [] (kept.Expression m.field-0 m.expression) a.node a.scope.now
    (expression_plan items m.expression a.node m.field-0 a.scope.now) s s s left left (Return (One v)) e refl refl
    (h items a.node m.field-0 a.scope.now s left))

pub returns-in-Literal : goal.returns-in-Literal
returns-in-Literal c =
    let a = c.args in
    let m = c.in-Literal in
    let items = items_of a.tree.now in
    let s = a.heap.now in
    let e : item_at items a.node ≡ kept.Literal m.field-0 m.text.now = search rules in
    if-some c.literal.result c.literal.ensures (λ v h. λ left.
    node_goes items [] [] (kept.Literal m.field-0 m.text.now) a.node a.scope.now
    (with_text_of (literal_value m.text.now) give) s s s left left (Return (One v)) e refl refl (h items left))
