use Rattle.std.proofs.Common.{[], refl}
use Rattle.tl_base.specs.declared.machine.Step.TheVariants.{Return}
use Rattle.tl_tree.specs.Arena.{items_of}
use Rattle.lua_model.specs.declared.end.End.TheVariants.{One}
use Rattle.lua_model.specs.Operators.{unary_at}
use Rattle.lua_eval.proofs.AtOnce.{behind_value, in_heap}
use Rattle.lua_eval.proofs.quick.unary.Goals as goal

pub returns-in-Some-clause-found : goal.returns-in-Some-clause-found
returns-in-Some-clause-found g c = λ place.
    let a = c.args in
    let items = items_of a.tree.now in
    let s = a.heap.now in
    let scope = a.scope.now in
    let found = c.in_ok-found.found in
    let end = One c.in-Some.value in
    behind_value items [] [] a.a scope found.value (λ v. unary_at items a.op v place scope.call)
    s s s a.left found.left found.left (Return end) refl c.in_ok-found.ensures.found
    (in_heap items (unary_at items a.op found.value place scope.call) end s c.find.new.heap found.left found.left
    c.in_ok-found.ensures.same (c.in-Some.ensures.value items place scope.call found.left))
