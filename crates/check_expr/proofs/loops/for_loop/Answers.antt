use Rattle.std.proofs.Common.{List, [], refl, sym, ap}
use Rattle.check_model.specs.declared.made.Made.{Made}
use Rattle.check_model.specs.Plans.{BodyPlan, reading}
use Rattle.check_model.specs.Statements as models
use Rattle.check_expr.proofs.Doing.{moved}
use Rattle.tl_base.proofs.Results.{carried}
use Rattle.check_expr.proofs.loops.for_loop.Goals as goal

pub returns-clause-means : goal.returns-clause-means
returns-clause-means c = carried _ _ c.bounds_left.result c.bounds_left.ensures.means (λ step g left.
    let a = c.args in
    let w = a.typing.now in
    let plan : List Made → BodyPlan = λ before. models.integers a.bounds a.site before
    (λ ms. reading (λ v. models.counting (models.meet_of v ms) a.name ms a.body a.at a.site)) in
    moved a.frames.now.items c.bounds_left.new.frames.items (plan []) (plan c.new.result) w w c.bounds_left.new.typing
    left left step
    (ap plan (sym c.new.ensures)) refl (g left))
