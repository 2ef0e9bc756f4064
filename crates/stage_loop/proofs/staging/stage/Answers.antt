use Rattle.std.proofs.Common.{ap, sym, ◌∙◌}
use Rattle.tl_base.specs.declared.place.Place.{Place}
use Rattle.tl_base.specs.Layer.{state}
use Rattle.tl_tree.specs.Arena.{items_of, end_of as finish_of}
use Rattle.stage_model.specs.Stage.{StagingState}
use Rattle.stage_model.specs.Staging.{outcome_from}
use Rattle.stage_sound.proofs.Promises.{opened-sound}
use Rattle.stage_loop.proofs.staging.stage.Goals as goal

pub stage_from-requires : goal.stage_from-requires
stage_from-requires c = rw c.in_ok-staging.ensures (opened-sound c.args.memory c.requires.most)

pub returns-clause-means : goal.returns-clause-means
returns-clause-means c =
    let a = c.args in
    let came = c.in_ok-outcome.ensures.means in
    let n = came.0 in
    let staging = c.in_ok-staging.staging.value in
    let items = items_of a.tree.now in (
      n,
      ap (λ (w : StagingState). outcome_from items (finish_of a.tree.now) a.mode n (state w a.units)) (sym c.in_ok-staging.ensures)
          ∙ ap (λ t. outcome_from (items_of t) (finish_of a.tree.now) a.mode n (state staging a.units)) (sym c.new-stages.ensures)
          ∙ ap (λ (p : Place). outcome_from (items_of c.new-stages.result.inner.inner.tree.now) p a.mode n (state staging a.units))
          (sym c.finish.ensures)
          ∙ came.1,
    )
