use Rattle.std.proofs.Common.{◌≡◌, refl, sym, ap, ◌∙◌}
use Rattle.terra_term.specs.Held.{Held}
use Rattle.terra_term.specs.Held as stores
use Rattle.terra_term.specs.declared.term.Term.TheVariants as terms
use Rattle.exotype.specs.World.{StageState}
use Rattle.exotype.specs.contracts.world.World.{the_view}
use Rattle.spec_model.specs.Making.{next_term, with_term}
use Rattle.spec_machine.proofs.Keeping.{kept_as, keeps_store, store_term}
use Rattle.spec_machine.proofs.Made.{makes}
use Rattle.spec_machine.proofs.Worlds.{store_by}
use Rattle.spec_machine.proofs.terms.make.Goals as goal

pub returns-clause-means : goal.returns-clause-means
returns-clause-means c = λ items left fs.
    let a = c.args in
    let w = a.world.now in
    let v = the_view c.world.inside in
    let term = terms.Expression a.place a.expression in
    makes items fs a.place a.expression w _ left c.in_ok-term.term
    (c.in_ok-term.ensures.id ∙ ap (λ (x : StageState). next_term x) c.world.view_is)
    (store_by w v _ (λ (s : Held). stores.with_term s term) c.world.view_is refl c.in_ok-term.ensures.ok)

pub returns-clause-kept : goal.returns-clause-kept
returns-clause-kept c =
    let a = c.args in
    let w = a.world.now in
    let v = the_view c.world.inside in
    let term = terms.Expression a.place a.expression in
    kept_as w _ (with_term w term) (store_by w v _ (λ (s : Held). stores.with_term s term) c.world.view_is refl c.in_ok-term.ensures.ok)
    (keeps_store w (stores.with_term w.store term) (store_term w.store term))
