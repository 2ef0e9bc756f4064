use Rattle.std.proofs.Common.{refl}
use Rattle.exotype.specs.contracts.world.World.{the_view}
use Rattle.check_expr.proofs.Keeping.{store_quoted}
use Rattle.check_expr.proofs.Worlds.{store_kept}
use Rattle.check_expr.proofs.nodes.add_quote.Goals as goal

pub returns-clause-kept : goal.returns-clause-kept
returns-clause-kept c = store_kept _ (the_view c.world.inside) _ c.world.view_is refl
    (rw c.in_ok-id.ensures.ok (store_quoted _ _))
