use Rattle.std.proofs.Common.{sym}
use Rattle.spec_machine.proofs.Defining as defining
use Rattle.spec_machine.proofs.parameters.same_types.Goals as goal

pub returns-then-drawn-params : goal.returns-then-drawn-params
returns-then-drawn-params c = sym (defining.not_as_many c.args.drawn.now c.args.params.now c.if-drawn-params.true)
