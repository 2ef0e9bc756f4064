use Rattle.std.proofs.Common.{ℕ, ◌≡◌, drop}
use Rattle.tl_base.specs.Layer.{state}
use Rattle.lua_base.specs.Printing.{print_rest}
use Rattle.lua_base.proofs.printing.push_texts.Given as goal

abbrev pub invariant-loop-at : goal.invariant-loop-at
invariant-loop-at l =
    (units : ℕ) →
    print_rest (state l.fn.heap units) l.line l.fn.args l.at (drop l.at l.fn.args)
    ≡ print_rest (state l.fn.heap units) l.fn.line l.fn.args l.fn.from (drop l.fn.from l.fn.args)
