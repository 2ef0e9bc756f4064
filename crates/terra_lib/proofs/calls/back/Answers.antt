use Rattle.std.proofs.Common.{refl}
use Rattle.exotype.specs.contracts.world.World.{the_view}
use Rattle.terra_lib.proofs.Kept.{heap_on}
use Rattle.terra_lib.proofs.calls.back.Goals as goal

pub returns-in-Map-clause-kept : goal.returns-in-Map-clause-kept
returns-in-Map-clause-kept c =
    heap_on c.map_back.result _ (the_view c.world.inside) _ c.world.view_is refl c.map_back.ensures.kept
