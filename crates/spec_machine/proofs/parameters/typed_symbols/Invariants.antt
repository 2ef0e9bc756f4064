use Rattle.std.proofs.Common.{◌≡◌, ◌-◌, drop}
use Rattle.spec_machine.specs.Agreeing as agreeing
use Rattle.spec_machine.proofs.parameters.typed_symbols.Given as goal

abbrev pub invariant-symbols : goal.invariant-symbols
invariant-symbols l =
    agreeing.typed_symbols l.world (drop l.symbol-index l.symbols) l.at l.drawn ≡ agreeing.typed_symbols l.world l.symbols l.at l.fn.drawn
