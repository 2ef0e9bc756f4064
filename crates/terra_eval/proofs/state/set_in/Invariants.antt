use Rattle.std.proofs.Common.{◌≡◌, ◌++◌, map, drop, take}
use Rattle.terra_meaning.specs.Running.{held, set}
use Rattle.terra_eval.specs.Variables.{variable_of}
use Rattle.terra_eval.proofs.state.set_in.Given as goal

-- the variables that were passed have other symbols
abbrev pub invariant-loop-i : goal.invariant-loop-i
invariant-loop-i l = record {
  same : l.variables ≡ l.fn.variables;
  passed : set l.x (held l.value) (map variable_of l.fn.variables) ≡ map variable_of (take l.i l.fn.variables) ++ set l.x (held l.value) (map variable_of (drop l.i l.fn.variables));
}
