use Rattle.std.proofs.Common.{[]}
use Rattle.tl_base.specs.declared.machine.Step.TheVariants.{Return}
use Rattle.lua_value.specs.declared.value.Value.TheVariants as values
use Rattle.lua_model.specs.declared.end.End.TheVariants.{One}
use Rattle.lua_model.specs.Plans.{give}
use Rattle.lua_model.specs.Fields.{read}
use Rattle.lua_eval.proofs.AtOnce.{found_state, found_value, if-some}
use Rattle.lua_eval.proofs.Below.{text_goes}
use Rattle.lua_eval.proofs.quick.named_field.Goals as goal

pub returns-in-Some : goal.returns-in-Some
returns-in-Some c =
    let a = c.args in
    let s = a.heap.now in
    let bytes = a.name.now in
    let text = c.in-Some.text in
    if-some c.field.result c.field.ensures (λ found h. λ items place outer.
    text_goes items [] [] bytes (λ key. read a.object key place outer give) s s s a.left found.left (Return (One found.value)) (values.Text text)
    (found_value s bytes text c.if-name-gt-MAX_LEN.false c.in-Some.ensures) (found_state s bytes text c.if-name-gt-MAX_LEN.false c.in-Some.ensures)
    (h items place outer))
