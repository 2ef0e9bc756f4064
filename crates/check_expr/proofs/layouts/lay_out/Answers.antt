use Rattle.std.proofs.Common.{sym, ap, ◌∙◌}
use Rattle.check_model.specs.Typing.{TypingState, form_in, is_aggregate_form}
use Rattle.check_expr.proofs.Laying.{lays_aggregate, lays_other}
use Rattle.check_expr.proofs.layouts.lay_out.Goals as goal

pub returns-then-is_aggregate : goal.returns-then-is_aggregate
returns-then-is_aggregate c =
    let a = c.args in
    record {
      means = λ left.
          lays_aggregate a.frames.now.items c.push.new.self.items a.of a.at a.site a.then a.typing.now left
          (ap (λ (v : TypingState). is_aggregate_form (form_in v.stage a.of)) (sym c.typing.view_is) ∙ sym c.is_aggregate.ensures
          ∙ c.if-is_aggregate.true) c.in_ok-push.ensures.items;
    }

pub returns-else-is_aggregate : goal.returns-else-is_aggregate
returns-else-is_aggregate c =
    let a = c.args in
    record {
      means = λ left.
          lays_other a.frames.now.items c.push.new.self.items a.of a.at a.site a.then a.typing.now left
          (ap (λ (v : TypingState). is_aggregate_form (form_in v.stage a.of)) (sym c.typing.view_is) ∙ sym c.is_aggregate.ensures
          ∙ c.if-is_aggregate.false) c.in_ok-push.ensures.items;
    }
