use Rattle.std.proofs.Common.{refl}
use Rattle.exotype.specs.contracts.world.World.{the_view}
use Rattle.check_expr.proofs.Keeping.{store_typed}
use Rattle.check_expr.proofs.Worlds.{store_kept}
use Rattle.tl_base.proofs.Results.{on-ok}
use Rattle.check_expr.proofs.nodes.add_node.Goals as goal

pub returns-clause-kept : goal.returns-clause-kept
returns-clause-kept c = on-ok c.new_typed.result c.new_typed.ensures.ok (λ g. store_kept _ (the_view c.world.inside) _ c.world.view_is refl
    (rw g (store_typed _ _)))
