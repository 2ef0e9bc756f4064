use Rattle.std.proofs.Common.{[], refl, ◌∙◌}
use Rattle.tl_base.specs.declared.machine.Step.TheVariants.{Return}
use Rattle.tl_tree.specs.Arena.{items_of}
use Rattle.lua_model.specs.declared.end.End.TheVariants.{One}
use Rattle.lua_model.specs.Plans.{value_of}
use Rattle.lua_model.specs.Operators.{operate}
use Rattle.lua_eval.proofs.AtOnce.{behind_value, in_heap}
use Rattle.lua_eval.proofs.quick.both.Goals as goal

pub returns-in-Some-clause-found : goal.returns-in-Some-clause-found
returns-in-Some-clause-found g c = λ place.
    let a = c.args in
    let items = items_of a.tree.now in
    let s = a.heap.now in
    let scope = a.scope.now in
    let first = c.in_ok-first.first in
    let second = c.in_ok-second.second in
    let end = One c.in-Some.value in
    behind_value items [] [] a.a scope first.value (λ v. value_of a.b scope (λ w. operate items a.op v w place scope.call))
    s s s a.left first.left second.left (Return end) refl c.in_ok-first.ensures.found
    (behind_value items [] [] a.b scope second.value (λ w. operate items a.op first.value w place scope.call)
    s c.find.new.heap s first.left second.left second.left (Return end) c.in_ok-first.ensures.same c.in_ok-second.ensures.found
    (in_heap items (operate items a.op first.value second.value place scope.call) end s c.find-2.new.heap second.left second.left
    (c.in_ok-second.ensures.same ∙ c.in_ok-first.ensures.same) (c.in-Some.ensures.value items place scope.call second.left)))
