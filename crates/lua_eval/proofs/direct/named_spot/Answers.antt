use Rattle.std.proofs.Common.{List, [], refl, sym, ap}
use Rattle.tl_base.specs.declared.machine.Step.TheVariants.{Return}
use Rattle.tl_base.specs.Plan.{Give}
use Rattle.lua_value.specs.declared.value.Value.{Value}
use Rattle.lua_value.specs.declared.value.Value.TheVariants as values
use Rattle.lua_model.specs.declared.end.End.TheVariants.{Many}
use Rattle.lua_model.specs.Assignments.{held}
use Rattle.lua_eval.specs.Spots.{held_in}
use Rattle.lua_eval.proofs.AtOnce.{found_state, found_value, if-some}
use Rattle.lua_eval.proofs.Below.{moved, text_goes}
use Rattle.lua_eval.proofs.Doing.{returns as returned}
use Rattle.lua_eval.proofs.direct.named_spot.Goals as goal

pub returns-in-Some-clause-found : goal.returns-in-Some-clause-found
returns-in-Some-clause-found c =
    let a = c.args in
    let s = a.heap.now in
    let bytes = a.name.now in
    let text = c.in-Some.text in
    if-some c.spot_of.result c.spot_of.ensures.held (λ spot h. λ items left.
    text_goes items [] [] bytes (λ key. held a.object key) s s s left left (Return (Many (held_in spot))) (values.Text text)
    (found_value s bytes text c.if-name-gt-MAX_LEN.false c.in-Some.ensures)
    (found_state s bytes text c.if-name-gt-MAX_LEN.false c.in-Some.ensures)
    (moved items [] [] (held a.object (values.Text text)) (Give (Many (held_in spot))) s s s left left (Return (Many (held_in spot)))
    (ap (λ (vs : List Value). Give (Many vs)) (sym h)) refl (returned items [] (Many (held_in spot)) s left)))
