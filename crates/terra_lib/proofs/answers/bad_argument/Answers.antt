use Rattle.std.proofs.Common.{refl}
use Rattle.exotype.specs.contracts.world.World.{the_view}
use Rattle.terra_lib.proofs.Kept.{heap_on}
use Rattle.terra_lib.proofs.answers.bad_argument.Goals as goal

pub returns-clause-kept : goal.returns-clause-kept
returns-clause-kept c =
    heap_on c.bad_argument.result _ (the_view c.world.inside) _ c.world.view_is refl c.bad_argument.ensures.kept
