use Rattle.std.proofs.Common.{[], refl, ◌∙◌}
use Rattle.tl_base.specs.declared.machine.Step.TheVariants.{Return}
use Rattle.tl_tree.specs.Arena.{items_of}
use Rattle.lua_model.specs.declared.end.End.TheVariants.{One}
use Rattle.lua_model.specs.Plans.{give, value_of}
use Rattle.lua_model.specs.Fields.{read}
use Rattle.lua_eval.proofs.AtOnce.{behind_value, in_heap, if-some}
use Rattle.lua_eval.proofs.quick.index.Goals as goal

pub returns-clause-found : goal.returns-clause-found
returns-clause-found g c =
    let a = c.args in
    let items = items_of a.tree.now in
    let s = a.heap.now in
    let scope = a.scope.now in
    let object = c.in_ok-object.object in
    let key = c.in_ok-key.key in
    if-some c.field.result c.field.ensures (λ found h. λ place.
    behind_value items [] [] a.object scope object.value (λ v. value_of a.key scope (λ k. read v k place scope.call give))
    s s s a.left object.left found.left (Return (One found.value)) refl c.in_ok-object.ensures.found
    (behind_value items [] [] a.key scope key.value (λ k. read object.value k place scope.call give)
    s c.find.new.heap s object.left key.left found.left (Return (One found.value)) c.in_ok-object.ensures.same c.in_ok-key.ensures.found
    (in_heap items (read object.value key.value place scope.call give) (One found.value) s c.find-2.new.heap key.left found.left
    (c.in_ok-key.ensures.same ∙ c.in_ok-object.ensures.same) (h items place scope.call))))
