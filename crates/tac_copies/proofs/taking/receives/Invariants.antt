use Rattle.std.proofs.Common.{◌≡◌, drop}
use Rattle.std.specs.List.{list_any}
use Rattle.tac_form.specs.Fits.{goes_to}
use Rattle.tac_copies.proofs.taking.receives.Given as goal

-- it is so of all if it is so of those that are left
abbrev pub invariant-loop-parameter : goal.invariant-loop-parameter
invariant-loop-parameter l = list_any (goes_to l.t) (drop l.parameter-index l.parameters) ≡ list_any (goes_to l.t) l.parameters
