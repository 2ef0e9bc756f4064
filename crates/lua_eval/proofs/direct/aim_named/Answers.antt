use Rattle.std.proofs.Common.{ℕ, List, [], refl, sym, ap, ◌∙◌}
use Rattle.tl_base.specs.declared.machine.Step.TheVariants.{Return}
use Rattle.tl_tree.specs.Arena.{items_of}
use Rattle.tl_tree.specs.Code.{name_at}
use Rattle.lua_model.specs.declared.end.End.TheVariants.{Many}
use Rattle.lua_model.specs.Plans.{LuaPlan, with_text_of}
use Rattle.lua_model.specs.Assignments.{held}
use Rattle.lua_eval.specs.Spots.{held_in}
use Rattle.lua_eval.proofs.AtOnce.{behind_value, in_heap}
use Rattle.lua_eval.proofs.Below.{moved}
use Rattle.lua_eval.proofs.direct.aim_named.Goals as goal

pub returns-in-Some-clause-found : goal.returns-in-Some-clause-found
returns-in-Some-clause-found c =
    let a = c.args in
    let items = items_of a.tree.now in
    let s = a.heap.now in
    let scope = a.scope.now in
    let object = c.in_ok-object.object in
    let end = Many (held_in c.in-Some.spot) in
    let named : List ℕ → LuaPlan = λ bytes. with_text_of bytes (λ key. held object.value key) in
    behind_value items [] [] a.object scope object.value
    (λ o. with_text_of (name_at items a.key) (λ key. held o key))
    s s s a.left object.left object.left (Return end) refl c.in_ok-object.ensures.found
    (moved items [] [] (named (name_at items a.key)) (named c.as_bytes.result.now) s s s object.left object.left (Return end)
    (ap named (sym (c.as_bytes.ensures.value ∙ c.name.ensures))) refl
    (in_heap items (named c.as_bytes.result.now) end s c.find.new.heap object.left object.left
    c.in_ok-object.ensures.same (c.in-Some.ensures.found items object.left)))
