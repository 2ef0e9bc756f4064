use Rattle.std.proofs.Common.{◌≡◌, ◌≤◌, ◌-◌, ◌++◌}
use Rattle.terra_memory.specs.Numbers.{low_bytes}
use Rattle.terra_eval.proofs.memory.low_bytes.Given as goal

-- the bytes so far, and those of the rest
abbrev pub invariant-loop : goal.invariant-loop
invariant-loop l = record {
  within : l.counter ≤ l.count;
  so_far : low_bytes l.count l.value ≡ l.bytes.items ++ low_bytes (l.count - l.counter) l.rest;
}
