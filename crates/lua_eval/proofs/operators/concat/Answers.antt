use Rattle.std.proofs.Common.{◌≡◌, [], ◌∷◌, sym, ap, ◌∙◌}
use Rattle.tl_tree.specs.Arena.{items_of}
use Rattle.lua_value.specs.declared.value.Value.{Value}
use Rattle.lua_ops.specs.declared.outcome.Outcome.{Outcome}
use Rattle.lua_ops.specs.Outcomes.{concat_outcome, concat_store}
use Rattle.lua_model.specs.Operators.{joined}
use Rattle.lua_eval.proofs.Below.{moved}
use Rattle.lua_eval.proofs.Keeping.{keeps_concat}
use Rattle.lua_table.proofs.Keeping.{heap_keeps_by}
use Rattle.lua_eval.proofs.operators.concat.Goals as goal

-- what is found by the copies of both operands is what is found by these
by_copies : {X : Type 0} (f : Value → Value → X) (a b first second : Value) (x : X)
    → first ≡ a → second ≡ b → x ≡ f first second → f a b ≡ x
by_copies f a b first second x e h is = ap (λ (v : Value). f v b) (sym e) ∙ ap (λ (v : Value). f first v) (sym h) ∙ sym is

pub returns-in_ok-step-in-Ok-clause-means : goal.returns-in_ok-step-in-Ok-clause-means
returns-in_ok-step-in-Ok-clause-means c =
    let a = c.args in
    let items = items_of a.tree.now in
    let outcome = c.in-Ok.outcome in
    let first = c.copy-first.result in
    let second = c.copy-second.result in
    let is : concat_outcome a.heap.now a.a a.b ≡ outcome =
    by_copies (concat_outcome a.heap.now) a.a a.b first second outcome c.copy-first.ensures c.copy-second.ensures c.in-Ok.ensures.outcome in
    let store : concat_store a.heap.now a.a a.b ≡ c.concat.new.heap =
    by_copies (concat_store a.heap.now) a.a a.b first second c.concat.new.heap c.copy-first.ensures c.copy-second.ensures c.in-Ok.ensures.store in
    moved items a.frames.now.items c.joined.new.frames.items
    (joined items (concat_outcome a.heap.now a.a a.b) (a.a ∷ a.b ∷ []) a.place a.outer)
    (joined items outcome (a.a ∷ a.b ∷ []) a.place a.outer)
    (concat_store a.heap.now a.a a.b) c.concat.new.heap c.joined.new.heap a.budget.now c.joined.new.budget c.in_ok-step-in-Ok.step
    (ap (λ (o : Outcome). joined items o (a.a ∷ a.b ∷ []) a.place a.outer) is) store c.in_ok-step-in-Ok.ensures.means

pub returns-in_ok-step-in-Ok-clause-kept : goal.returns-in_ok-step-in-Ok-clause-kept
returns-in_ok-step-in-Ok-clause-kept c =
    let first = c.copy-first.result in
    let second = c.copy-second.result in
    heap_keeps_by c.args.heap.now c.concat.new.heap (concat_store c.args.heap.now first second) c.joined.new.heap
    c.in-Ok.ensures.store (keeps_concat c.args.heap.now first second) c.in_ok-step-in-Ok.ensures.kept
