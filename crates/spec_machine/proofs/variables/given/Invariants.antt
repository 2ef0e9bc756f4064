use Rattle.std.proofs.Common.{◌≡◌, ◌++◌, drop}
use Rattle.spec_model.specs.Statements.{given}
use Rattle.spec_machine.proofs.variables.given.Given as goal

abbrev pub invariant-symbols : goal.invariant-symbols
invariant-symbols l =
    l.wanted ++ given (drop l.symbol-index l.symbols) l.fn.of l.fn.at ≡ l.fn.wanted ++ given l.fn.symbols l.fn.of l.fn.at
