use Rattle.std.proofs.Common.{refl}
use Rattle.exotype.specs.contracts.world.World.{the_view}
use Rattle.stage_library.proofs.Keeping.{heap_on}
use Rattle.stage_loop.proofs.raising.raise_in.Goals as goal

pub returns-clause-kept : goal.returns-clause-kept
returns-clause-kept c = heap_on c.raise.result _ (the_view c.world.inside) _ c.world.view_is refl c.raise.ensures.kept
