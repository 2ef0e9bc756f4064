use Rattle.tac_form.proofs.OneRun.{steps-add}
use Rattle.tac_form.proofs.laws.code_steps_add_up.Goals as goal

pub returns : goal.returns
returns c = steps-add
