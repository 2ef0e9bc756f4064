use Rattle.std.proofs.Common.{◌≡◌, ℕ, ◌∙◌, ap, arith}
use Rattle.lua_textlib.specs.Texts.{repeated}
use Rattle.lua_textlib.proofs.texts.repeated.Goals as goal

pub returns : goal.returns
returns c =
    let all : c.loop-turn._turn ≡ c.turns-turn-end.result = omega (arith, c.loop-turn-test.false, c.loop-turn.auto._turn-end) in
    c.loop-turn.invariant ∙ ap (λ (n : ℕ). repeated n c.args.bytes.now) all ∙ c.turns-turn-end.ensures
