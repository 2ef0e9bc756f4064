use Rattle.std.proofs.Common.{ℕ, List, [], refl, sym, ap, ◌∙◌}
use Rattle.tl_base.specs.declared.machine.Step.TheVariants.{Return}
use Rattle.tl_tree.specs.Arena.{items_of}
use Rattle.tl_tree.specs.Code.{name_at}
use Rattle.lua_model.specs.declared.end.End.TheVariants.{One}
use Rattle.lua_model.specs.Plans.{LuaPlan, give, with_text_of}
use Rattle.lua_model.specs.Fields.{read}
use Rattle.lua_eval.proofs.AtOnce.{behind_value, in_heap, if-some}
use Rattle.lua_eval.proofs.Below.{moved}
use Rattle.lua_eval.proofs.quick.select.Goals as goal

pub returns-clause-found : goal.returns-clause-found
returns-clause-found g c =
    let a = c.args in
    let items = items_of a.tree.now in
    let s = a.heap.now in
    let scope = a.scope.now in
    let object = c.in_ok-object.object in
    if-some c.named_field.result c.named_field.ensures (λ found h. λ place.
    let end = One found.value in
    let named : List ℕ → LuaPlan = λ bytes. with_text_of bytes (λ key. read object.value key place scope.call give) in
    behind_value items [] [] a.object scope object.value
    (λ o. with_text_of (name_at items a.key) (λ key. read o key place scope.call give))
    s s s a.left object.left found.left (Return end) refl c.in_ok-object.ensures.found
    (moved items [] [] (named (name_at items a.key)) (named c.as_bytes-name.result.now) s s s object.left found.left (Return end)
    (ap named (sym (c.as_bytes-name.ensures.value ∙ c.name.ensures))) refl
    (in_heap items (named c.as_bytes-name.result.now) end s c.find.new.heap object.left found.left
    c.in_ok-object.ensures.same (h items place scope.call))))
