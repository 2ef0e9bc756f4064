use Rattle.std.proofs.Common.{refl, sym, ◌∙◌}
use Rattle.check_model.specs.Plans.{on_values}
use Rattle.check_expr.specs.Frames.{given_then, raised_then}
use Rattle.check_expr.proofs.Answering.{values_given, none_given}
use Rattle.check_expr.proofs.Doing.{moved}
use Rattle.tl_base.proofs.Results.{carried}
use Rattle.check_expr.proofs.asking.after_answer.Goals as goal

pub returns-in-Some-clause-means : goal.returns-in-Some-clause-means
returns-in-Some-clause-means c = carried _ _ c.with_value.result c.with_value.ensures.means (λ step g.
    let a = c.args in
    let v = c.in-Some.value in
    moved a.frames.now.items c.with_value.new.frames.items (on_values a.answer (λ x. given_then a.then x) (raised_then a.then))
    (given_then a.then v) a.typing.now a.typing.now c.with_value.new.typing a.budget.now c.with_value.new.budget step
    (values_given a.answer v (λ x. given_then a.then x) (raised_then a.then) (sym c.given.ensures ∙ c.in-Some.is)) refl
    g)

pub returns-in-None-clause-means : goal.returns-in-None-clause-means
returns-in-None-clause-means c = carried _ _ c.after_raise.result c.after_raise.ensures.means (λ step g.
    let a = c.args in
    let fs = a.frames.now.items in
    moved fs fs (on_values a.answer (λ x. given_then a.then x) (raised_then a.then))
    (raised_then a.then) a.typing.now a.typing.now c.after_raise.new.typing a.budget.now a.budget.now step
    (none_given a.answer (λ x. given_then a.then x) (raised_then a.then) (sym c.given.ensures ∙ c.in-None.is)) refl
    (g a.budget.now fs))
