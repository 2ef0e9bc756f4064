use Rattle.std.proofs.Common.{◌≡◌, refl, ap, ◌∙◌, rules, Some, None}
use Rattle.tl_tree.specs.Arena.{items_of}
use Rattle.tl_tree.specs.Item as kept
use Rattle.tl_tree.specs.Nodes.{item_at}
use Rattle.tl_tree.specs.Numbers.{value_of as numeral_value}
use Rattle.tl_tree.specs.Scopes.{binder}
use Rattle.lua_value.specs.declared.value.Value.TheVariants.{Nil}
use Rattle.tl_base.specs.declared.machine.Step.TheVariants.{Return}
use Rattle.lua_model.specs.declared.end.End.TheVariants.{One}
use Rattle.lua_model.specs.Plans.{give, whole}
use Rattle.lua_model.specs.Expressions.{expression_plan}
use Rattle.lua_eval.specs.Slots.{path_of}
use Rattle.lua_eval.proofs.Doing.{returns as returned}
use Rattle.lua_eval.proofs.Evaluating.{node_goes, returns_known, local_goes, global_goes, literal_goes}
use Rattle.tl_base.proofs.Results.{if-ok}
use Rattle.lua_eval.proofs.expressions.node.Goals as goal

pub returns-in-Some-clause-means : goal.returns-in-Some-clause-means
returns-in-Some-clause-means c =
    let a = c.args in
    let m = c.in-Name in
    let items = items_of a.tree.now in
    let e : item_at items a.node ≡ kept.Name m.place m.field-1 m.text.now = search rules in
    let p : Some (c.in-Some.depth, c.in-Some.position) ≡ path_of (binder items a.node) =
    c.in-Some.ensures ∙ ap path_of (c.requires a.node) in
    local_goes items a.frames.now.items m.place m.field-1 m.text.now a.node a.scope a.heap.now a.budget.now
    c.local-value.result c.in-Some.depth c.in-Some.position e p c.local-value.ensures

pub returns-in-None-clause-means : goal.returns-in-None-clause-means
returns-in-None-clause-means c =
    let a = c.args in
    let m = c.in-Name in
    let items = items_of a.tree.now in
    let e : item_at items a.node ≡ kept.Name m.place m.field-1 m.text.now = search rules in
    let p : None ≡ path_of (binder items a.node) = c.in-None.ensures ∙ ap path_of (c.requires a.node) in
    if-ok c.read_named.result c.read_named.ensures.means (λ v it. global_goes items a.frames.now.items c.read_named.new.frames.items m.place m.field-1 m.text.now c.as_bytes.result.now
    a.node a.scope a.heap.now c.read_named.new.heap a.budget.now c.read_named.new.budget v
    e p c.as_bytes.ensures.value (it items))

pub returns-in-Numeral-clause-means : goal.returns-in-Numeral-clause-means
returns-in-Numeral-clause-means c =
    let a = c.args in
    let m = c.in-Numeral in
    let items = items_of a.tree.now in
    let e : item_at items a.node ≡ kept.Numeral m.field-0 m.text.now = search rules in
    let known = whole (numeral_value m.text.now) in
    node_goes items a.frames.now.items a.frames.now.items (kept.Numeral m.field-0 m.text.now) a.node a.scope (give known)
    a.heap.now a.heap.now a.heap.now a.budget.now a.budget.now (Return (One c.numeral.result)) e refl refl
    (returns_known items a.frames.now.items c.numeral.result known a.heap.now a.budget.now c.numeral.ensures)

pub returns-in_ok-value-in-Literal-clause-means : goal.returns-in_ok-value-in-Literal-clause-means
returns-in_ok-value-in-Literal-clause-means c =
    let a = c.args in
    let m = c.in-Literal in
    let items = items_of a.tree.now in
    let e : item_at items a.node ≡ kept.Literal m.field-0 m.text.now = search rules in
    literal_goes items a.frames.now.items m.field-0 m.text.now c.in_ok-bytes-in-Literal.bytes.items a.node a.scope
    a.heap.now c.text_value.new.heap a.budget.now c.in_ok-value-in-Literal.value e c.in_ok-bytes-in-Literal.ensures
    (rw c.deref.ensures.value at c.in_ok-value-in-Literal.ensures.value) (rw c.deref.ensures.value at c.in_ok-value-in-Literal.ensures.heap)

pub returns-in-Expression-clause-means : goal.returns-in-Expression-clause-means
returns-in-Expression-clause-means c =
    let a = c.args in
    let m = c.in-Expression in
    let items = items_of a.tree.now in
    let e : item_at items a.node ≡ kept.Expression m.place m.expression = search rules in
    if-ok c.evaluate_further.result c.evaluate_further.ensures.means (λ v it. node_goes items a.frames.now.items c.evaluate_further.new.frames.items (kept.Expression m.place m.expression) a.node a.scope
    (expression_plan items m.expression a.node m.place a.scope) a.heap.now a.heap.now c.evaluate_further.new.heap
    a.budget.now c.evaluate_further.new.budget v e refl refl it)

pub returns-in-Statement-clause-means : goal.returns-in-Statement-clause-means
returns-in-Statement-clause-means c =
    let a = c.args in
    let m = c.in-Statement in
    let items = items_of a.tree.now in
    let e : item_at items a.node ≡ kept.Statement m.field-0 m.field-1 = search rules in
    node_goes items a.frames.now.items a.frames.now.items (kept.Statement m.field-0 m.field-1) a.node a.scope (give Nil)
    a.heap.now a.heap.now a.heap.now a.budget.now a.budget.now (Return (One Nil)) e refl refl
    (returned items a.frames.now.items (One Nil) a.heap.now a.budget.now)

pub returns-in-TerraExpression-clause-means : goal.returns-in-TerraExpression-clause-means
returns-in-TerraExpression-clause-means c =
    let a = c.args in
    let m = c.in-TerraExpression in
    let items = items_of a.tree.now in
    let e : item_at items a.node ≡ kept.TerraExpression m.field-0 m.field-1 = search rules in
    node_goes items a.frames.now.items a.frames.now.items (kept.TerraExpression m.field-0 m.field-1) a.node a.scope (give Nil)
    a.heap.now a.heap.now a.heap.now a.budget.now a.budget.now (Return (One Nil)) e refl refl
    (returned items a.frames.now.items (One Nil) a.heap.now a.budget.now)

pub returns-in-TerraStatement-clause-means : goal.returns-in-TerraStatement-clause-means
returns-in-TerraStatement-clause-means c =
    let a = c.args in
    let m = c.in-TerraStatement in
    let items = items_of a.tree.now in
    let e : item_at items a.node ≡ kept.TerraStatement m.field-0 m.field-1 = search rules in
    node_goes items a.frames.now.items a.frames.now.items (kept.TerraStatement m.field-0 m.field-1) a.node a.scope (give Nil)
    a.heap.now a.heap.now a.heap.now a.budget.now a.budget.now (Return (One Nil)) e refl refl
    (returned items a.frames.now.items (One Nil) a.heap.now a.budget.now)

pub returns-in-Piece-clause-means : goal.returns-in-Piece-clause-means
returns-in-Piece-clause-means c =
    let a = c.args in
    let m = c.in-Piece in
    let items = items_of a.tree.now in
    let e : item_at items a.node ≡ kept.Piece m.field-0 = search rules in
    node_goes items a.frames.now.items a.frames.now.items (kept.Piece m.field-0) a.node a.scope (give Nil)
    a.heap.now a.heap.now a.heap.now a.budget.now a.budget.now (Return (One Nil)) e refl refl
    (returned items a.frames.now.items (One Nil) a.heap.now a.budget.now)
