use Rattle.std.proofs.Common.{◌≡◌, ◌+◌, ◌-◌, ◌++◌, drop}
use Rattle.spec_model.specs.Definitions as definitions
use Rattle.spec_machine.proofs.definitions.parameter_list.Given as goal

abbrev pub invariant-parameters : goal.invariant-parameters
invariant-parameters l = l.list.items ++ definitions.parameter_list (drop l.parameter-index l.drawn) ≡ definitions.parameter_list l.drawn
