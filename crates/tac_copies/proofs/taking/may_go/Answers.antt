use Rattle.tac_copies.proofs.TakenSteps.{goes_if}
use Rattle.tac_copies.proofs.taking.may_go.Goals as goal

pub returns-in_ok-needed : goal.returns-in_ok-needed
returns-in_ok-needed c =
    goes_if c.args.parameters.now c.args.p c.args.v c.args.instructions.now c.args.exit c.args.rest.now c.in_ok-needed.needed
    c.receives.result c.receives-then-receives.result c.reads_behind.result c.leads_to_first.result c.is_needed.result
    c.receives.ensures c.receives-then-receives.ensures c.reads_behind.ensures c.leads_to_first.ensures
    c.if-receives.true c.if-not-receives.true c.if-not-reads_behind.true c.if-not-leads_to_first.true
    c.in_ok-needed.ensures c.is_needed.ensures
