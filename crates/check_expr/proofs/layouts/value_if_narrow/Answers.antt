use Rattle.std.proofs.Common.{true, false, sym, ap, ◌∙◌}
use Rattle.tl_base.specs.declared.machine.Step.TheVariants.{Return}
use Rattle.terra_term.specs.declared.refusal.RefusalKind.TheVariants.{TooWide}
use Rattle.check_model.specs.declared.end.PartEnd.TheVariants as ends
use Rattle.check_model.specs.Plans.{refuse, give, is_wide}
use Rattle.check_model.specs.Typing.{TypingState}
use Rattle.check_expr.proofs.Doing.{chosen, returns as returned}
use Rattle.check_expr.proofs.layouts.value_if_narrow.Goals as goal

pub returns-then-is_too_wide : goal.returns-then-is_too_wide
returns-then-is_too_wide c =
    let a = c.args in
    let m = a.made in
    let w = a.typing.now in
    record {
      means = λ left fs.
          chosen fs fs (is_wide w.stage m.of) true (refuse TooWide m.at a.site) (give m) w w left left c.refuse.result
          (ap (λ (v : TypingState). is_wide v.stage m.of) (sym c.typing.view_is) ∙ sym c.is_too_wide.ensures ∙ c.if-is_too_wide.true)
          (c.refuse.ensures.means w left fs);
    }

pub returns-else-is_too_wide : goal.returns-else-is_too_wide
returns-else-is_too_wide c =
    let a = c.args in
    let m = a.made in
    let w = a.typing.now in
    record {
      means = λ left fs.
          chosen fs fs (is_wide w.stage m.of) false (refuse TooWide m.at a.site) (give m) w w left left (Return (ends.Made m))
          (ap (λ (v : TypingState). is_wide v.stage m.of) (sym c.typing.view_is) ∙ sym c.is_too_wide.ensures ∙ c.if-is_too_wide.false)
          (returned fs (ends.Made m) w left);
    }
