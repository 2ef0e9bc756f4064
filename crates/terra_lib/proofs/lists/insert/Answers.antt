use Rattle.std.proofs.Common.{refl}
use Rattle.exotype.specs.contracts.world.World.{the_view}
use Rattle.terra_lib.proofs.Kept.{heap_after}
use Rattle.terra_lib.proofs.lists.insert.Goals as goal

pub returns-clause-kept : goal.returns-clause-kept
returns-clause-kept c =
    heap_after _ (the_view c.world.inside) _ c.world.view_is refl c.in_ok-append.ensures.kept
