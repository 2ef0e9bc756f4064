use Rattle.std.proofs.Common.{length}
use Rattle.spec_machine.specs.Frames.{last_arm, behind, joined_one}
use Rattle.spec_machine.specs.Keeping.{KeepsStage}
use Rattle.spec_machine.specs.Steps.{Runs}
use Rattle.spec_machine.proofs.conditions.last_arm.Given as goal

abbrev pub invariant-arms : goal.invariant-arms
invariant-arms l = record {
  runs : Runs (last_arm l.fn.last l.fn.arms l.fn.otherwise) l.fn.world (behind l.arms joined_one l.made) l.world;
  kept : KeepsStage l.fn.world l.world;
}

abbrev pub decreases-arms : goal.decreases-arms
decreases-arms l = length l.arms
