use Rattle.std.proofs.Common.{◌∙◌, sym}
use Rattle.check_model.specs.Typing.{form_in}
use Rattle.check_flow.proofs.Laying.{form_asked}
use Rattle.check_flow.proofs.layout_steps.LayoutStepsMachine.open.Goals as goal

pub returns-in_ok-push-in-Array-clause-means : goal.returns-in_ok-push-in-Array-clause-means
returns-in_ok-push-in-Array-clause-means c =
    let a = c.args in
    let w = a.world.now in
    form_asked a.frames.now.items c.push.new.self.items (form_in w a.task.of) a.task.of c.in-Array.elements a.task.at w a.budget.now
    (sym c.in-Array.is ∙ c.kind_of.ensures) c.in_ok-push-in-Array.ensures.items
