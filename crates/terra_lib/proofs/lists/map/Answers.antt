use Rattle.std.proofs.Common.{refl}
use Rattle.exotype.specs.contracts.world.World.{the_view}
use Rattle.terra_lib.proofs.Kept.{always, heap_after}
use Rattle.terra_lib.proofs.lists.map.Goals as goal

pub returns-clause-kept : goal.returns-clause-kept
returns-clause-kept c =
    always c.map_from.result (heap_after _ (the_view c.world.inside) _ c.world.view_is refl c.in_ok-list.ensures.kept)
