use Rattle.std.proofs.Common.{refl}
use Rattle.lua_table.proofs.Keeping.{keeps_macro}
use Rattle.exotype.specs.contracts.world.World.{the_view}
use Rattle.terra_lib.proofs.Kept.{always, heap_after}
use Rattle.terra_lib.proofs.symbols.new_macro.Goals as goal

pub returns-clause-kept : goal.returns-clause-kept
returns-clause-kept c =
    always c.give_one.result
    (heap_after _ (the_view c.world.inside) _ c.world.view_is refl (rw c.in_ok-id.ensures.ok (keeps_macro _ _)))
