use Rattle.std.proofs.Common.{◌≡◌, ◌≤◌, drop}
use Rattle.check_library.specs.Counting.{summed}
use Rattle.check_library.proofs.counting.sum.Given as goal

abbrev pub invariant-each : goal.invariant-each
invariant-each l = record {
  is : summed l.world l.sum (drop l.place l.functions) ≡ summed l.fn.world l.fn.nodes (drop l.fn.first l.fn.functions);
  within : l.sum ≤ 131072;
}
