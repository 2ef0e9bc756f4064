use Rattle.std.proofs.Common.{◌≡◌, [], ◌∷◌, sym, ap, ◌∙◌}
use Rattle.tl_tree.specs.Arena.{items_of}
use Rattle.lua_value.specs.declared.value.Value.{Value}
use Rattle.lua_value.specs.declared.value.Value.TheVariants.{Nil}
use Rattle.lua_ops.specs.declared.operator.Arithmetic.TheVariants.{Minus}
use Rattle.lua_ops.specs.declared.outcome.Outcome.{Outcome}
use Rattle.lua_ops.specs.Outcomes.{arith_outcome}
use Rattle.lua_model.specs.Operators.{settle}
use Rattle.lua_eval.proofs.Below.{moved}
use Rattle.lua_eval.proofs.operators.minus.Goals as goal

pub returns-in_ok-step-in-Ok-clause-means : goal.returns-in_ok-step-in-Ok-clause-means
returns-in_ok-step-in-Ok-clause-means c =
    let a = c.args in
    let items = items_of a.tree.now in
    let outcome = c.in-Ok.outcome in
    let first = c.copy-first.result in
    let found : arith_outcome a.heap.now Minus first Nil ≡ outcome = cc in
    let is : arith_outcome a.heap.now Minus a.a Nil ≡ outcome =
    ap (λ (v : Value). arith_outcome a.heap.now Minus v Nil) (sym c.copy-first.ensures) ∙ found in
    let heap : a.heap.now ≡ c.arith.new.heap = cc in
    moved items a.frames.now.items c.settle.new.frames.items
    (settle items (arith_outcome a.heap.now Minus a.a Nil) (a.a ∷ []) a.place a.outer)
    (settle items outcome (a.a ∷ []) a.place a.outer)
    a.heap.now c.arith.new.heap c.settle.new.heap a.budget.now c.settle.new.budget c.in_ok-step-in-Ok.step
    (ap (λ (o : Outcome). settle items o (a.a ∷ []) a.place a.outer) is) heap c.in_ok-step-in-Ok.ensures.means
