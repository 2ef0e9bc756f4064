use Rattle.std.proofs.Common.{refl}
use Rattle.exotype.specs.contracts.world.World.{the_view}
use Rattle.check_library.proofs.Kept.{heap_on}
use Rattle.check_library.proofs.answers.raise_bytes.Goals as goal

pub returns-clause-kept : goal.returns-clause-kept
returns-clause-kept c =
    heap_on c.raise_text.result _ (the_view c.world.inside) _ c.world.view_is refl c.raise_text.ensures.kept
