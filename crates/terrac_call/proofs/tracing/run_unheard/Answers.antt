use Rattle.terrac_call.proofs.TracedRuns.{unheard}
use Rattle.terrac_call.proofs.tracing.run_unheard.Goals as goal

pub returns-clause-ended : goal.returns-clause-ended
returns-clause-ended c =
    let agrees = c.run.ensures.run (unheard c.run.result c.run.ensures.counted) in
    record { stops = agrees.stops; stands = agrees.stands }

pub returns-clause-heard : goal.returns-clause-heard
returns-clause-heard c = unheard c.run.result c.run.ensures.counted
