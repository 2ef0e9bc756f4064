use Rattle.std.proofs.Common.{◌≡◌}
use Rattle.stage_image.specs.Emitted.{defined_below}
use Rattle.stage_image.proofs.emitting.defined_count.Given as goal

abbrev pub invariant-loop-number : goal.invariant-loop-number
invariant-loop-number l = l.count ≡ defined_below l.store l.number
