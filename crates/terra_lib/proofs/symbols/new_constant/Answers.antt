use Rattle.std.proofs.Common.{refl}
use Rattle.exotype.specs.contracts.world.World.{the_view}
use Rattle.terra_lib.proofs.Kept.{always, keeps_constant, store_after}
use Rattle.terra_lib.specs.Symbols.{with_constant}
use Rattle.terra_lib.proofs.symbols.new_constant.Goals as goal

pub returns-clause-kept : goal.returns-clause-kept
returns-clause-kept c =
    let v = the_view c.world.inside in
    always c.give_one.result
    (store_after _ v _ (with_constant v c.args.of c.args.value) c.world.view_is refl c.in_ok-constant.ensures.ok refl
    (keeps_constant v c.args.of c.args.value))
