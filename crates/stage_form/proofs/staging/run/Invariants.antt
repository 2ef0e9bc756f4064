use Rattle.std.proofs.Common.{◌≤◌}
use Rattle.tl_base.specs.Layer.{state, given}
use Rattle.stage_form.proofs.Reaching.{Leads}
use Rattle.stage_form.proofs.Owing.{AreHeld}
use Rattle.stage_form.proofs.staging.run.Given as goal

abbrev pub invariant-loop : goal.invariant-loop
invariant-loop g l =
    record {
      leads : Leads (g.S.Stages.stage l.stages) g.S.Staged.Layer.rest l.fn.question (state l.fn.world l.fn.budget) l.below.items l.current (given l.next l.world l.budget);
      fits : g.S.Staged.Layer.fits l.current (given l.next l.world l.budget);
      waiting : AreHeld (g.S.Stages.stage l.stages) (g.S.Stages.begins l.stages) (g.S.Stages.leaves l.stages) g.S.Staged.Layer.rest g.S.Staged.Layer.fits g.S.Staged.Layer.follows g.S.Staged.Layer.keeps l.fn.question l.fn.world l.below.items l.current (given l.next l.world l.budget);
      kept : g.S.Staged.Layer.keeps l.fn.world l.world;
      paid : l.budget ≤ l.fn.budget;
    }
