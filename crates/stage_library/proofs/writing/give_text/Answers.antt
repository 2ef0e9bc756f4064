use Rattle.std.proofs.Common.{refl}
use Rattle.lua_table.proofs.Keeping.{keeps_text}
use Rattle.exotype.specs.contracts.world.World.{the_view}
use Rattle.stage_library.proofs.Keeping.{heap_after, heap_on}
use Rattle.stage_library.proofs.writing.give_text.Goals as goal

pub returns-in_ok-push-in-Some-clause-kept : goal.returns-in_ok-push-in-Some-clause-kept
returns-in_ok-push-in-Some-clause-kept c =
    heap_after _ (the_view c.world.inside) _ c.world.view_is refl (rw c.in_ok-id-in-Some.ensures.ok (keeps_text _ _))

pub returns-in-None-clause-kept : goal.returns-in-None-clause-kept
returns-in-None-clause-kept c =
    heap_on c.raise.result _ (the_view c.world.inside) _ c.world.view_is refl c.raise.ensures.kept
