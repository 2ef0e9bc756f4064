use Rattle.terrac_call.proofs.DueMeaning.{due_tells_meaning}
use Rattle.terrac_call.proofs.laws.due_tells_meaning.Goals as goal

pub returns : goal.returns
returns c = due_tells_meaning
