use Rattle.std.proofs.Common.{true, false, Some, sym, ap, ◌∙◌}
use Rattle.tl_base.specs.declared.machine.Step.TheVariants.{Return}
use Rattle.tl_base.specs.Plan.{Give}
use Rattle.terra_term.specs.declared.refusal.RefusalKind.TheVariants.{TooLarge}
use Rattle.exotype.specs.Terms.{typed_size}
use Rattle.check_model.specs.declared.end.PartEnd.TheVariants as ends
use Rattle.check_model.specs.Bodies.{is_too_large}
use Rattle.check_model.specs.Plans.{refuse}
use Rattle.check_model.specs.Typing.{TypingState}
use Rattle.check_expr.proofs.Doing.{chosen, returns as returned}
use Rattle.check_expr.proofs.functions.if_small.Goals as goal

pub returns-then-is_too_large : goal.returns-then-is_too_large
returns-then-is_too_large c =
    let a = c.args in
    let w = a.typing.now in
    record {
      means = λ left fs.
          chosen fs fs (is_too_large (typed_size w.stage a.id)) true (refuse TooLarge a.at a.site)
          (Give (ends.Stated a.id (Some a.of))) w w left left c.refuse.result
          (ap (λ (u : TypingState). is_too_large (typed_size u.stage a.id)) (sym c.typing.view_is)
          ∙ ap is_too_large (sym c.size_of.ensures) ∙ sym c.is_too_large.ensures ∙ c.if-is_too_large.true)
          (c.refuse.ensures.means w left fs);
    }

pub returns-else-is_too_large : goal.returns-else-is_too_large
returns-else-is_too_large c =
    let a = c.args in
    let w = a.typing.now in
    let end = ends.Stated a.id (Some a.of) in
    record {
      means = λ left fs.
          chosen fs fs (is_too_large (typed_size w.stage a.id)) false (refuse TooLarge a.at a.site) (Give end) w w left
          left (Return end)
          (ap (λ (u : TypingState). is_too_large (typed_size u.stage a.id)) (sym c.typing.view_is)
          ∙ ap is_too_large (sym c.size_of.ensures) ∙ sym c.is_too_large.ensures ∙ c.if-is_too_large.false)
          (returned fs end w left);
    }
