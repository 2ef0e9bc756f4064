use Rattle.std.proofs.Common.{refl}
use Rattle.lua_table.proofs.Keeping.{keeps_env}
use Rattle.exotype.specs.contracts.world.World.{the_view}
use Rattle.spec_machine.proofs.Worlds.{heap_kept}
use Rattle.spec_machine.proofs.making.new_env.Goals as goal

pub returns-clause-kept : goal.returns-clause-kept
returns-clause-kept c =
    heap_kept _ (the_view c.world.inside) _ c.world.view_is refl (rw c.in_ok-id.ensures.ok (keeps_env _ _ _))
