use Rattle.rv_machine.proofs.ImageRuns.{machine_runs, one_end, one_run, runs_go_on, runs_stay_over, writes_are_fronts}
use Rattle.rv_machine.proofs.image_run.images_have_runs.Goals as goal

pub returns-clause-machines : goal.returns-clause-machines
returns-clause-machines c = machine_runs

pub returns-clause-one : goal.returns-clause-one
returns-clause-one c = one_run

pub returns-clause-parts : goal.returns-clause-parts
returns-clause-parts c = runs_go_on

pub returns-clause-over : goal.returns-clause-over
returns-clause-over c = runs_stay_over

pub returns-clause-fronts : goal.returns-clause-fronts
returns-clause-fronts c = writes_are_fronts

pub returns-clause-ends : goal.returns-clause-ends
returns-clause-ends c = one_end
