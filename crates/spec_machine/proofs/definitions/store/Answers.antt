use Rattle.std.proofs.Common.{◌-◌, refl}
use Rattle.spec_machine.proofs.Worlds as worlds
use Rattle.exotype.specs.contracts.world.World.{the_view}
use Rattle.spec_machine.proofs.definitions.store.Goals as goal

pub returns-clause-kept : goal.returns-clause-kept
returns-clause-kept c = worlds.heap_kept _ (the_view c.world.inside) _ c.world.view_is refl c.in_ok-put.ensures.kept
