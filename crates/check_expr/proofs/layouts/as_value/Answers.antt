use Rattle.std.proofs.Common.{sym, ap, ◌∙◌}
use Rattle.check_model.specs.Typing.{TypingState, form_in, is_aggregate_form}
use Rattle.check_expr.specs.declared.frame.LaidThen.TheVariants as of_layout
use Rattle.check_expr.proofs.Laying.{lays_aggregate}
use Rattle.check_expr.proofs.layouts.as_value.Goals as goal

pub returns-in_ok-push : goal.returns-in_ok-push
returns-in_ok-push c =
    let a = c.args in
    record {
      means = λ left.
          lays_aggregate a.frames.now.items c.push.new.self.items a.made.of a.made.at a.site (of_layout.Value a.made) a.typing.now left
          (ap (λ (v : TypingState). is_aggregate_form (form_in v.stage a.made.of)) (sym c.typing.view_is) ∙ sym c.is_aggregate.ensures
          ∙ c.if-is_aggregate.true) c.in_ok-push.ensures.items;
    }
