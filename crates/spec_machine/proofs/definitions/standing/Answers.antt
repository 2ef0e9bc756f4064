use Rattle.exotype.specs.World.{StageState}
use Rattle.std.proofs.Common.{sym, ap, ◌∙◌}
use Rattle.spec_model.specs.Definitions as definitions
use Rattle.spec_machine.proofs.Standing as standing
use Rattle.spec_machine.proofs.definitions.standing.Goals as goal

pub returns-in_default : goal.returns-in_default
returns-in_default c =
    let a = c.args in
    sym (standing.no_function a.world.now (definitions.held_in a.world.now.heap a.target) (λ f h. c.in_default.not-TerraFunction f (c.held.ensures ∙ ap (λ (u : StageState). definitions.held_in u.heap a.target) c.world.view_is ∙ h)))
