use Rattle.std.proofs.Common.{refl}
use Rattle.exotype.specs.contracts.world.World.{the_view}
use Rattle.terra_lib.proofs.Kept.{always, heap_after}
use Rattle.terra_lib.proofs.lists.new_list.Goals as goal

pub returns-in_ok-list-in-Nil-clause-kept : goal.returns-in_ok-list-in-Nil-clause-kept
returns-in_ok-list-in-Nil-clause-kept c =
    always c.give_one.result (heap_after _ (the_view c.world.inside) _ c.world.view_is refl c.in_ok-list-in-Nil.ensures.kept)

pub returns-in-Table-clause-kept : goal.returns-in-Table-clause-kept
returns-in-Table-clause-kept c =
    always c.give_one-in-Table.result
    (heap_after _ (the_view c.world-in-Table.inside) _ c.world-in-Table.view_is refl c.become_list.ensures.kept)
