use Rattle.std.proofs.Common.{List, [], refl, sym, ap}
use Rattle.tl_base.specs.declared.machine.Step.TheVariants.{Return}
use Rattle.tl_base.specs.Plan.{Give}
use Rattle.tl_tree.specs.Arena.{items_of}
use Rattle.lua_value.specs.declared.value.Value.{Value}
use Rattle.lua_model.specs.declared.end.End.TheVariants.{Many}
use Rattle.lua_model.specs.Plans.{value_of}
use Rattle.lua_model.specs.Assignments.{held}
use Rattle.lua_eval.specs.Spots.{held_in}
use Rattle.lua_eval.proofs.AtOnce.{behind_value}
use Rattle.lua_eval.proofs.Below.{moved}
use Rattle.lua_eval.proofs.Doing.{returns as returned}
use Rattle.lua_eval.proofs.direct.aim_at.Goals as goal

pub returns-in-Some-clause-found : goal.returns-in-Some-clause-found
returns-in-Some-clause-found c =
    let a = c.args in
    let items = items_of a.tree.now in
    let s = a.heap.now in
    let scope = a.scope.now in
    let object = c.in_ok-object.object in
    let key = c.in_ok-key.key in
    let all = held_in c.in-Some.spot in
    behind_value items [] [] a.object scope object.value (λ o. value_of a.key scope (λ k. held o k))
    s s s a.left object.left key.left (Return (Many all)) refl c.in_ok-object.ensures.found
    (behind_value items [] [] a.key scope key.value (λ k. held object.value k)
    s c.find.new.heap s object.left key.left key.left (Return (Many all)) c.in_ok-object.ensures.same c.in_ok-key.ensures.found
    (moved items [] [] (held object.value key.value) (Give (Many all)) s s s key.left key.left (Return (Many all))
    (ap (λ (vs : List Value). Give (Many vs)) (sym c.in-Some.ensures.held)) refl (returned items [] (Many all) s key.left)))
