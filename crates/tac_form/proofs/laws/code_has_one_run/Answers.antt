use Rattle.tac_form.proofs.OneRun.{one-run}
use Rattle.tac_form.proofs.laws.code_has_one_run.Goals as goal

pub returns : goal.returns
returns c = one-run
