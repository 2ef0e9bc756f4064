use Rattle.std.proofs.Common.{[], ◌≤◌}
use Rattle.tl_base.specs.Layer.{state}
use Rattle.stage_form.specs.Stage.{Final}
use Rattle.tl_tree.specs.Arena.{items_of}
use Rattle.check_sound.specs.Sound.{IsSound}
use Rattle.stage_model.specs.Stage.{StagingState}
use Rattle.stage_model.specs.Staging.{Checked}
use Rattle.stage_model.proofs.Checking.{ChecksTo}
use Rattle.stage_loop.specs.Layers.{Keeps}
use Rattle.stage_loop.proofs.staging.check_all.Given as goal

-- what is left of the checks comes to what all of them come to
abbrev pub invariant-loop-number : goal.invariant-loop-number
invariant-loop-number l =
    record {
      leads : (out : Final StagingState Checked) →
          ChecksTo (items_of l.stages.inner.inner.tree.now) l.number l.lines.items (state l.staging l.budget) out →
          ChecksTo (items_of l.stages.inner.inner.tree.now) 0 [] (state l.fn.staging l.fn.budget) out;
      sound : IsSound l.staging.typing.stage;
      kept : Keeps l.fn.staging l.staging;
      paid : l.budget ≤ l.fn.budget;
    }
