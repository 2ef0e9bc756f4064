use Rattle.tl_base.specs.Layer.{state}
use Rattle.stage_model.specs.Staging.{ending}
use Rattle.stage_loop.proofs.texts.stage_terms.Goals as goal

pub returns : goal.returns
returns c =
    let out = c.in_ok-outcome.outcome in
    let means = c.in_ok-outcome.ensures.means in
    let written = c.in_ok-terms.ensures in
    record {
      n = means.0;
      ending = ending out.end out.checks.items (state out.staging.value out.left);
      comes = means.1;
      printed = written.printed;
      end = written.end;
      lines = written.lines;
    }
