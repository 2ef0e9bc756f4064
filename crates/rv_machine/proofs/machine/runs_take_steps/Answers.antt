use Rattle.rv_machine.proofs.Counts.{unfinished_takes_all, over_after_taken, not_over_before, parts_take_steps}
use Rattle.rv_machine.proofs.machine.runs_take_steps.Goals as goal

pub returns-clause-all : goal.returns-clause-all
returns-clause-all c = unfinished_takes_all

pub returns-clause-over : goal.returns-clause-over
returns-clause-over c = over_after_taken

pub returns-clause-least : goal.returns-clause-least
returns-clause-least c = not_over_before

pub returns-clause-parts : goal.returns-clause-parts
returns-clause-parts c = parts_take_steps
