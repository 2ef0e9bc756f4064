use Rattle.std.proofs.Common.{List, [], ◌∷◌, refl, sym, ap, ◌∙◌}
use Rattle.tl_tree.specs.Arena.{items_of}
use Rattle.lua_value.specs.declared.value.Value.{Value}
use Rattle.lua_model.specs.declared.job.Caller.TheVariants.{ByOther}
use Rattle.lua_model.specs.Plans.{LuaPlan, give, on_one}
use Rattle.lua_model.specs.Calls.{call}
use Rattle.lua_model.specs.Operators.{operands_of, answered}
use Rattle.lua_eval.proofs.Below.{moved}
use Rattle.lua_eval.proofs.operators.compared.Goals as goal

pub returns-in_ok-called-in-Meta-clause-means : goal.returns-in_ok-called-in-Meta-clause-means
returns-in_ok-called-in-Meta-clause-means c =
    let a = c.args in
    let m = c.in-Meta in
    let items = items_of a.tree.now in
    let plan : Value → List Value → LuaPlan =
    λ f vs. call items ByOther f vs a.place a.outer (λ r. on_one r (λ v. give (answered m.handler v))) in
    let given = operands_of m.handler (a.a ∷ a.b ∷ []) in
    rw m.is (moved items a.frames.now.items c.handle.new.frames.items (plan m.handler.function given)
    (plan c.copy-function.result c.in_ok-args-in-Meta.args) a.heap.now a.heap.now c.handle.new.heap
    a.budget.now c.handle.new.budget c.in_ok-called-in-Meta.called
    (ap (λ (f : Value). plan f given) (sym c.copy-function.ensures)
    ∙ ap (λ (vs : List Value). plan c.copy-function.result vs) (sym c.in_ok-args-in-Meta.ensures))
    refl c.in_ok-called-in-Meta.ensures.means)
