use Rattle.terrac_call.proofs.OneDue.{one_due}
use Rattle.terrac_call.proofs.call.one_due.Goals as goal

pub returns : goal.returns
returns c = one_due c.larger_changes_nothing.ensures c.one_listing.ensures c.one_answer.ensures
