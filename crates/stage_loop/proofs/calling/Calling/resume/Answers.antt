use Rattle.stage_loop.proofs.Calls.{begins-there, begins-alike, goes-on}
use Rattle.stage_loop.proofs.calling.Calling.resume.Goals as goal

pub returns-else-self-clause-turn : goal.returns-else-self-clause-turn
returns-else-self-clause-turn c =
    let a = c.args in
    begins-there a.self.now c.if-self.false a.answer a.staging.now a.budget.now c.begin.new.budget c.begin.result
    (c.begin.ensures.turn a.staging.now a.answer)

pub returns-else-self-clause-reads_no_more : goal.returns-else-self-clause-reads_no_more
returns-else-self-clause-reads_no_more c =
    let a = c.args in
    begins-alike a.self.now c.if-self.false a.answer a.staging.now a.budget.now c.begin.new.budget c.begin.result c.begin.ensures.reads_no_more

pub returns-else-self-clause-goes_on : goal.returns-else-self-clause-goes_on
returns-else-self-clause-goes_on c =
    let a = c.args in
    goes-on a.self.now c.if-self.false a.answer a.staging.now a.budget.now c.begin.new.budget c.begin.result c.begin.new.self
    c.begin.ensures.goes_on
