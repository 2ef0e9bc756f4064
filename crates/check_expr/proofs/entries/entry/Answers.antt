use Rattle.std.proofs.Common.{◌≡◌, true, false, sym, ap, ◌∙◌}
use Rattle.std.specs.Prelude.{not, if◌then◌else◌}
use Rattle.terra_term.specs.WellTyped.{struct_form}
use Rattle.terra_term.specs.declared.typed.TypedExpression.TheVariants as te
use Rattle.check_model.specs.Plans.{BodyPlan, gives, as_value}
use Rattle.check_model.specs.Typing.{TypingState, form_in}
use Rattle.check_expr.specs.declared.frame.MadeFrame.TheVariants as of_made
use Rattle.check_expr.specs.Frames.{with_made}
use Rattle.check_expr.proofs.Behind.{behind_value}
use Rattle.check_expr.proofs.Doing.{chosen}
use Rattle.tl_base.proofs.Results.{carried}
use Rattle.check_expr.proofs.entries.entry.Goals as goal

pub returns-in_ok-push-clause-means : goal.returns-in_ok-push-clause-means
returns-in_ok-push-clause-means c = carried _ _ c.as_value.result c.as_value.ensures.means (λ step g left.
    let a = c.args in
    let o = a.object in
    let l = a.laid in
    let n = a.node in
    let fs = a.frames.now.items in
    let fs2 = c.as_value.new.frames.items in
    let w = a.typing.now in
    let behind : BodyPlan = as_value o n.site (with_made (of_made.Extract l n) o) in
    let placed : BodyPlan = gives n.source n.at l.of (te.Select l.offset o.id) in
    let within : BodyPlan = if o.is_place then placed else behind in
    let struct : struct_form (form_in w.stage o.of) ≡ true =
    ap (λ (v : TypingState). struct_form (form_in v.stage o.of)) (sym c.typing.view_is) ∙ sym c.is_struct.ensures
    ∙ c.if-is_struct.true in
    chosen fs fs2 (not (struct_form (form_in w.stage o.of))) false (gives n.source n.at l.of (te.Follow l.offset o.id))
    within w w left left step
    (ap not struct)
    (chosen fs fs2 o.is_place false placed behind w w left left step c.if-object.false
    (behind_value fs c.push.new.self.items fs2 (of_made.Extract l n) o n.site w w left left step
    c.in_ok-push.ensures.items
    (g left))))
