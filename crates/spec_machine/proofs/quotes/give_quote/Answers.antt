use Rattle.std.proofs.Common.{◌≡◌, refl, sym, ap, ◌∙◌}
use Rattle.terra_term.specs.Held.{Held}
use Rattle.terra_term.specs.Held as stores
use Rattle.exotype.specs.World.{StageState}
use Rattle.exotype.specs.contracts.world.World.{the_view}
use Rattle.spec_model.specs.Making.{next_quote, with_quote}
use Rattle.spec_machine.proofs.Keeping.{kept_as, keeps_store, store_quote}
use Rattle.spec_machine.proofs.Made.{gives_quote}
use Rattle.spec_machine.proofs.Worlds.{store_by}
use Rattle.spec_machine.proofs.quotes.give_quote.Goals as goal

pub returns-clause-means : goal.returns-clause-means
returns-clause-means c = λ items left fs.
    let a = c.args in
    let w = a.world.now in
    let v = the_view c.world.inside in
    gives_quote items fs a.quote w _ left c.in_ok-id.id
    (c.in_ok-id.ensures.id ∙ ap (λ (x : StageState). next_quote x) c.world.view_is)
    (store_by w v _ (λ (s : Held). stores.with_quote s a.quote) c.world.view_is refl c.in_ok-id.ensures.ok)

pub returns-clause-kept : goal.returns-clause-kept
returns-clause-kept c =
    let a = c.args in
    let w = a.world.now in
    let v = the_view c.world.inside in
    kept_as w _ (with_quote w a.quote) (store_by w v _ (λ (s : Held). stores.with_quote s a.quote) c.world.view_is refl c.in_ok-id.ensures.ok)
    (keeps_store w (stores.with_quote w.store a.quote) (store_quote w.store a.quote))
