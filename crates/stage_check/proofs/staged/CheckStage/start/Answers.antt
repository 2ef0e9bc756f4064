use Rattle.std.proofs.Common.{refl}
use Rattle.tl_base.specs.Layer.{state, at}
use Rattle.tl_tree.specs.Arena.{items_of}
use Rattle.stage_form.specs.Within.{given_part}
use Rattle.stage_form.proofs.Standing.{within_same}
use Rattle.stage_code.specs.Layers.{task_meaning, staged_rest}
use Rattle.check_model.specs.declared.question.CheckAnswer.TheVariants.{Go}
use Rattle.check_model.specs.Bodies.{body}
use Rattle.check_model.specs.Checks.{check}
use Rattle.check_model.specs.Layouts.{layout}
use Rattle.check_expr.specs.Rest.{body_rest}
use Rattle.check_flow.specs.Rest.{check_rest, layout_rest}
use Rattle.stage_check.specs.declared.results.ResultOf.TheVariants.{Begins}
use Rattle.stage_check.specs.Results.{result_meaning, result_rest}
use Rattle.stage_check.specs.Layers.{stage_fitting, check_fitting, body_fitting, result_fitting, layout_fitting}
use Rattle.stage_check.proofs.staged.CheckStage.start.Goals as goal

-- each layer means what its job does, and begins with `Go`
pub returns-in-Stage-clause-means : goal.returns-in-Stage-clause-means
returns-in-Stage-clause-means c = λ first later.
    rw c.in-Stage.is (within_same stage_fitting (staged_rest c.start.result)
    (task_meaning (items_of c.args.self.now.inner.tree.now) c.in-Stage.task) c.start.ensures.means first later)

pub returns-in-Stage-clause-fits : goal.returns-in-Stage-clause-fits
returns-in-Stage-clause-fits c = λ s. c.start.ensures.fits (state s.world.stage s.left)

pub returns-in-Check-clause-means : goal.returns-in-Check-clause-means
returns-in-Check-clause-means c = λ first later.
    rw c.in-Check.is
    (within_same check_fitting (check_rest c.start-in-Check.result) (check c.in-Check.f) c.start-in-Check.ensures.means first later)

pub returns-in-Check-clause-fits : goal.returns-in-Check-clause-fits
returns-in-Check-clause-fits c = λ s. c.start-in-Check.ensures.fits (given_part check_fitting (at Go s)) refl

pub returns-in-Body-clause-means : goal.returns-in-Body-clause-means
returns-in-Body-clause-means c = λ first later.
    rw c.in-Body.is
    (within_same body_fitting (body_rest c.start-in-Body.result) (body c.in-Body.f) c.start-in-Body.ensures.means first later)

pub returns-in-Body-clause-fits : goal.returns-in-Body-clause-fits
returns-in-Body-clause-fits c = λ s. c.start-in-Body.ensures.fits (given_part body_fitting (at Go s)) refl

pub returns-in-Layout-clause-means : goal.returns-in-Layout-clause-means
returns-in-Layout-clause-means c = λ first later.
    rw c.in-Layout.is
    (within_same layout_fitting (layout_rest c.start-in-Layout.result)
    (layout (record { of = c.in-Layout.of; at = c.in-Layout.at })) c.start-in-Layout.ensures.means first later)

pub returns-in-Layout-clause-fits : goal.returns-in-Layout-clause-fits
returns-in-Layout-clause-fits c = λ s. c.start-in-Layout.ensures.fits (given_part layout_fitting (at Go s)) refl

-- what asks is to begin
pub returns-in-Call-clause-means : goal.returns-in-Call-clause-means
returns-in-Call-clause-means c = λ first later. rw c.in-Call.is (rw c.new.ensures.what (rw c.new.ensures.begins refl))

pub returns-in-Export-clause-means : goal.returns-in-Export-clause-means
returns-in-Export-clause-means c = λ first later.
    rw c.in-Export.is (rw c.new-in-Export.ensures.what (rw c.new-in-Export.ensures.begins refl))

pub returns-in-Result-clause-means : goal.returns-in-Result-clause-means
returns-in-Result-clause-means c = λ first later.
    rw c.in-Result.is
    (within_same result_fitting (result_rest (Begins c.in-Result.f)) (result_meaning c.in-Result.f) (λ _ _. refl) first later)
