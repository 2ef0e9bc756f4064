use Rattle.std.proofs.Common.{◌≡◌, map, drop}
use Rattle.terra_meaning.specs.Running.{find}
use Rattle.terra_eval.specs.Variables.{variable_of}
use Rattle.terra_eval.proofs.state.find_in.Given as goal

-- the variables that were passed have other symbols
abbrev pub invariant-loop-v : goal.invariant-loop-v
invariant-loop-v l = find l.x (map variable_of l.variables) ≡ find l.x (map variable_of (drop l.v-index l.variables))
