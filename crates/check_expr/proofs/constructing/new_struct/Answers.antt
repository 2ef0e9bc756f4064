use Rattle.std.proofs.Common.{true, false, sym, ap, ◌∙◌}
use Rattle.std.specs.Prelude.{not}
use Rattle.terra_term.specs.WellTyped.{struct_form}
use Rattle.terra_term.specs.declared.refusal.RefusalKind.TheVariants.{BadOperand}
use Rattle.check_model.specs.Plans.{BodyPlan, refuse, laid_out}
use Rattle.check_model.specs.Typing.{TypingState, form_in}
use Rattle.check_expr.specs.declared.frame.LaidThen.TheVariants as of_layout
use Rattle.check_expr.specs.Frames.{laid_then}
use Rattle.check_expr.proofs.Doing.{chosen}
use Rattle.tl_base.proofs.Results.{carried}
use Rattle.check_expr.proofs.constructing.new_struct.Goals as goal

pub returns-then-not-is_struct-clause-means : goal.returns-then-not-is_struct-clause-means
returns-then-not-is_struct-clause-means c = λ left.
    let a = c.args in
    let n = a.node in
    let fs = a.frames.now.items in
    let w = a.typing.now in
    let laid : BodyPlan = laid_out a.of n.at n.site (laid_then (of_layout.New a.of a.values n) n.site) in
    chosen fs fs (not (struct_form (form_in w.stage a.of))) true (refuse BadOperand n.at n.site) laid w w left left c.refuse.result
    (ap not (ap (λ (v : TypingState). struct_form (form_in v.stage a.of)) (sym c.typing.view_is) ∙ sym c.is_struct.ensures
    ∙ c.if-not-is_struct.true)) (c.refuse.ensures.means w left fs)

pub returns-clause-means : goal.returns-clause-means
returns-clause-means c = carried _ _ c.lay_out.result c.lay_out.ensures.means (λ step g left.
    let a = c.args in
    let n = a.node in
    let fs = a.frames.now.items in
    let fs2 = c.lay_out.new.frames.items in
    let w = a.typing.now in
    let laid : BodyPlan = laid_out a.of n.at n.site (laid_then (of_layout.New a.of a.values n) n.site) in
    chosen fs fs2 (not (struct_form (form_in w.stage a.of))) false (refuse BadOperand n.at n.site) laid w w left left step
    (ap not (ap (λ (v : TypingState). struct_form (form_in v.stage a.of)) (sym c.typing.view_is) ∙ sym c.is_struct.ensures
    ∙ c.if-not-is_struct.false)) (g left))
