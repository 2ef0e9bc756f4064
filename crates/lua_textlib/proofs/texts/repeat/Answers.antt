use Rattle.std.proofs.Common.{◌≡◌, ◌≤◌, ◌*◌, ℕ, List, length, ◌∙◌, ap, arith}
use Rattle.tl_base.specs.Layer.{state}
use Rattle.lua_base.specs.Calls.{text_units}
use Rattle.lua_textlib.specs.Arguments.{bytes_in}
use Rattle.lua_textlib.specs.Texts.{repeated}
use Rattle.lua_textlib.proofs.Repeats.{made_ok}
use Rattle.lua_textlib.proofs.texts.repeat.Goals as goal

pub returns-clause-does : goal.returns-clause-does
returns-clause-does c =
    let bytes : List ℕ = bytes_in c.args.heap.now c.args.text.now in
    let size : length c.bytes.result.now * c.args.times ≡ length bytes * c.args.times = ap (λ (b : List ℕ). length b * c.args.times) c.bytes.ensures.bytes in
    made_ok (state c.args.heap.now c.args.budget.now) c.args.times bytes c.args.place c.deref.result.now _ _ c.text_units.result c.give_text.result
    (c.deref.ensures.value ∙ c.in_ok-made.ensures ∙ ap (λ (b : List ℕ). repeated c.args.times b) c.bytes-2.ensures.bytes)
    (c.text_units.ensures ∙ ap text_units size)
    (omega (arith, size, c.if-size-gt-MAX_LEN.false))
    (grind (arith, c.if-not-pay.ensures.enough))
    c.if-not-pay.ensures.paid
    c.give_text.ensures.turn
    c.give_text.ensures.heap
