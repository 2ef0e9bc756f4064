use Rattle.std.proofs.Common.{◌≡◌, drop}
use Rattle.terra_lib.specs.Lists.{all_appended}
use Rattle.terra_lib.proofs.lists.append_all.Given as goal

abbrev pub invariant-loop-value : goal.invariant-loop-value
invariant-loop-value l =
    all_appended l.heap l.table (drop l.value-index l.values) ≡ all_appended l.fn.heap l.fn.table l.fn.values
