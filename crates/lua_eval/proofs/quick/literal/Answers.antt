use Rattle.std.proofs.Common.{◌≡◌, ℕ, List, [], sym, ap, ◌∙◌, refl}
use Rattle.tl_base.specs.declared.machine.Step.TheVariants.{Return}
use Rattle.tl_lex.specs.Values.{value_of as literal_value}
use Rattle.lua_model.specs.declared.end.End.TheVariants.{One}
use Rattle.lua_model.specs.Plans.{LuaPlan, with_text_of, give}
use Rattle.lua_eval.proofs.AtOnce.{if-some}
use Rattle.lua_eval.proofs.Below.{moved}
use Rattle.lua_eval.proofs.quick.literal.Goals as goal

pub returns-in-Ok : goal.returns-in-Ok
returns-in-Ok c =
    let a = c.args in
    let s = a.heap.now in
    let plan : List ℕ → LuaPlan = λ bytes. with_text_of bytes give in
    let same : literal_value a.text.now ≡ c.deref.result.now = sym (c.deref.ensures.value ∙ c.in-Ok.ensures) in
    if-some c.known_text.result c.known_text.ensures (λ v h. λ items left.
    moved items [] [] (plan (literal_value a.text.now)) (plan c.deref.result.now) s s s left left (Return (One v))
    (ap plan same) refl (h items left))
