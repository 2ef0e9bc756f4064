use Rattle.std.proofs.Common.{◌≡◌, ◌-◌, drop}
use Rattle.exotype.specs.World.{with_heap}
use Rattle.spec_machine.specs.Agreeing as agreeing
use Rattle.spec_machine.specs.Keeping.{KeepsStage}
use Rattle.spec_machine.proofs.parameters.declare_all.Given as goal

abbrev pub invariant-parameters : goal.invariant-parameters
invariant-parameters l = record {
  same : with_heap l.world (agreeing.with_parameters (drop l.parameter-index l.drawn) l.env l.world.heap)
      ≡ with_heap l.fn.world (agreeing.with_parameters l.drawn l.env l.fn.world.heap);
  kept : KeepsStage l.fn.world l.world;
}
