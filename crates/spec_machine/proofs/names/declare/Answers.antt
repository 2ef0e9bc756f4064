use Rattle.std.proofs.Common.{refl}
use Rattle.exotype.specs.contracts.world.World.{the_view}
use Rattle.spec_machine.proofs.Worlds.{heap_kept}
use Rattle.spec_machine.proofs.names.declare.Goals as goal

pub returns-clause-kept : goal.returns-clause-kept
returns-clause-kept c =
    heap_kept c.args.world.now (the_view c.world.inside) _ c.world.view_is refl c.in_ok-declare_in.ensures.kept
