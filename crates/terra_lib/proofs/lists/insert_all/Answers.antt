use Rattle.std.proofs.Common.{refl}
use Rattle.exotype.specs.contracts.world.World.{the_view}
use Rattle.terra_lib.proofs.Kept.{heap_after, keeps_appended}
use Rattle.terra_lib.proofs.lists.insert_all.Goals as goal

pub returns-clause-kept : goal.returns-clause-kept
returns-clause-kept c =
    heap_after _ (the_view c.world.inside) _ c.world.view_is refl
    (rw c.in_ok-append_all.ensures (keeps_appended (the_view c.world.inside).heap c.in-Some.table c.as_slice.result.now))
