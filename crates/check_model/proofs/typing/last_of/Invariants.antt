use Rattle.std.proofs.Common.{◌≡◌, drop, None}
use Rattle.check_model.specs.Typing.{found_in}
use Rattle.check_model.proofs.typing.last_of.Given as goal

abbrev pub invariant-variables : goal.invariant-variables
invariant-variables l =
    found_in l.symbol (drop l.name-index l.variables) l.found ≡ found_in l.fn.symbol l.fn.variables None
