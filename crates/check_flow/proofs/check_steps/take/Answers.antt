use Rattle.std.proofs.Common.{◌∙◌, ap}
use Rattle.std.specs.Prelude.{slice_get}
use Rattle.exotype.specs.World.{StageState}
use Rattle.terra_term.specs.declared.store.FunctionState.TheVariants as standing
use Rattle.check_model.specs.declared.question.CheckQuestion.TheVariants.{Body}
use Rattle.tl_base.specs.declared.machine.Step.TheVariants.{Stop}
use Rattle.check_flow.proofs.Taking.{takes_so, asks_body}
use Rattle.check_flow.proofs.check_steps.take.Goals as goal

pub returns-in_ok-push-in-Defined : goal.returns-in_ok-push-in-Defined
returns-in_ok-push-in-Defined c = λ left.
    let a = c.args in
    let w = a.world.now in
    let r = c.in-Some.reached in
    let g = c.in-Some-function.function in
    takes_so a.frames.now.items c.push.new.self.items a.queue a.place r g (standing.Defined c.in-Defined.field-0) w left (Stop (Body r.function))
    c.in-Some.ensures
    (c.in-Some-function.ensures ∙ ap (λ (v : StageState). slice_get v.store.functions r.function.0) c.world.view_is) c.in-Defined.is
    (asks_body a.frames.now.items c.push.new.self.items a.queue a.place r g.place c.in-Defined.field-0 w left
    c.in_ok-push-in-Defined.ensures.items)
