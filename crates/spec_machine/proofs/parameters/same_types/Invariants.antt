use Rattle.std.proofs.Common.{◌≡◌, ◌-◌, drop}
use Rattle.spec_model.specs.Definitions as definitions
use Rattle.terra_types.specs.Making.{same_types}
use Rattle.spec_machine.proofs.parameters.same_types.Given as goal

abbrev pub invariant-params : goal.invariant-params
invariant-params l =
    same_types (definitions.drawn_types (drop l.at l.drawn)) (drop l.at l.params) ≡ same_types (definitions.drawn_types l.drawn) l.params
