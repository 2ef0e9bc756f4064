use Rattle.exotype.specs.World.{StageState}
use Rattle.spec_model.specs.Making as making
use Rattle.std.proofs.Common.{ap, ◌∙◌, refl}
use Rattle.spec_machine.proofs.Worlds as worlds
use Rattle.exotype.specs.contracts.world.World.{the_view}
use Rattle.spec_machine.proofs.Keeping.{store_defined}
use Rattle.spec_machine.proofs.Typing.{undefined_is}
use Rattle.spec_machine.proofs.definitions.define_term.Goals as goal

pub define-requires : goal.define-requires
define-requires c = undefined_is _ (ap (λ (u : StageState). making.is_undefined u c.args.function) c.world.view_is ∙ c.requires)

pub returns-clause-kept : goal.returns-clause-kept
returns-clause-kept c =
    let a = c.args in
    let v = the_view c.world.inside in
    worlds.store_kept _ v _ c.world.view_is refl
    (rw c.define.ensures.defined (store_defined v.store a.function a.term a.at (undefined_is _ (ap (λ (u : StageState). making.is_undefined u a.function) c.world.view_is ∙ c.requires))))
