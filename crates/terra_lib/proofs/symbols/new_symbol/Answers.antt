use Rattle.std.proofs.Common.{refl}
use Rattle.exotype.specs.contracts.world.World.{the_view}
use Rattle.terra_lib.proofs.Kept.{always, keeps_symbol, store_after}
use Rattle.spec_model.specs.Making.{with_symbol}
use Rattle.terra_lib.proofs.symbols.new_symbol.Goals as goal

pub returns-clause-kept : goal.returns-clause-kept
returns-clause-kept c =
    let v = the_view c.world.inside in
    always c.give_one.result
    (store_after _ v _ (with_symbol v c.args.of) c.world.view_is refl c.in_ok-symbol.ensures.ok refl (keeps_symbol v c.args.of))
