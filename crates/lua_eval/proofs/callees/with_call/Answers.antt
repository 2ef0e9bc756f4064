use Rattle.std.proofs.Common.{List, [], ◌∷◌, refl, sym, ap, ◌∙◌}
use Rattle.tl_tree.specs.Arena.{items_of}
use Rattle.lua_value.specs.declared.value.Value.{Value}
use Rattle.lua_model.specs.Plans.{LuaPlan}
use Rattle.lua_eval.specs.declared.frame.Then.TheVariants as thens
use Rattle.lua_eval.specs.Frames.{list_plan}
use Rattle.lua_eval.proofs.Below.{moved}
use Rattle.tl_base.proofs.Results.{if-ok}
use Rattle.lua_eval.proofs.callees.with_call.Goals as goal

pub returns-in-Function-clause-means : goal.returns-in-Function-clause-means
returns-in-Function-clause-means c =
    let a = c.args in
    let m = c.in-Function in
    let items = items_of a.tree.now in
    let plan : List Value → LuaPlan = λ vs. list_plan items m.arguments.now m.scope vs (thens.Call a.value m.place) in
    rw m.is (if-ok c.list.result c.list.ensures.means (λ step it.
    moved items a.frames.now.items c.list.new.frames.items (plan []) (plan c.new-none.result)
    a.heap.now a.heap.now c.list.new.heap a.budget.now c.list.new.budget step
    (ap plan (sym c.new-none.ensures)) refl it))

pub returns-in-Method-clause-means : goal.returns-in-Method-clause-means
returns-in-Method-clause-means c = rw c.in-Method.is c.find_method.ensures.means

pub returns-in_ok-first-in-MethodOf-clause-means : goal.returns-in_ok-first-in-MethodOf-clause-means
returns-in_ok-first-in-MethodOf-clause-means c =
    let a = c.args in
    let m = c.in-MethodOf in
    let items = items_of a.tree.now in
    let plan : List Value → LuaPlan = λ vs. list_plan items m.arguments.now m.scope vs (thens.Call a.value m.place) in
    rw m.is (if-ok c.list-in-MethodOf.result c.list-in-MethodOf.ensures.means (λ step it.
    moved items a.frames.now.items c.list-in-MethodOf.new.frames.items (plan (m.object ∷ []))
    (plan c.in_ok-first-in-MethodOf.first) a.heap.now a.heap.now c.list-in-MethodOf.new.heap a.budget.now
    c.list-in-MethodOf.new.budget step
    (ap plan (sym (c.in_ok-first-in-MethodOf.ensures ∙ ap (λ (v : Value). v ∷ []) c.copy.ensures))) refl it))
