use Rattle.std.proofs.Common.{refl}
use Rattle.terra_term.specs.Held.{Held, with_name}
use Rattle.exotype.specs.World.{with_store}
use Rattle.exotype.specs.contracts.world.World.{the_view}
use Rattle.spec_machine.proofs.Becoming.{keeps_bytes}
use Rattle.spec_machine.proofs.Keeping.{kept_as}
use Rattle.spec_machine.proofs.Worlds.{store_by}
use Rattle.spec_machine.proofs.names.naming.Goals as goal

pub returns-in_ok-keep_name-in-Some-clause-kept : goal.returns-in_ok-keep_name-in-Some-clause-kept
returns-in_ok-keep_name-in-Some-clause-kept c =
    let w = c.args.world.now in
    let text = c.args.text in
    let bytes = c.in-Some.bytes in
    kept_as w _ (with_store w (with_name w.store text bytes))
    (store_by w (the_view c.world.inside) _ (λ (s : Held). with_name s text bytes) c.world.view_is refl c.in_ok-keep_name-in-Some.ensures.ok)
    (keeps_bytes w text bytes)
