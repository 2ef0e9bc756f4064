use Rattle.rv_machine.proofs.Runs.{run_of-add, run_of-over, run_of-again}
use Rattle.rv_machine.proofs.Programs.{one_program}
use Rattle.rv_machine.proofs.machine.runs_go_on.Goals as goal

pub returns-clause-parts : goal.returns-clause-parts
returns-clause-parts c = run_of-add

pub returns-clause-over : goal.returns-clause-over
returns-clause-over c = run_of-over

pub returns-clause-again : goal.returns-clause-again
returns-clause-again c = run_of-again

pub returns-clause-program : goal.returns-clause-program
returns-clause-program c = one_program
