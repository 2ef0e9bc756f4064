use Rattle.terrac_alike.proofs.SameDue.{renamed_sources_are_due_alike}
use Rattle.terrac_alike.proofs.law.renamed_sources_are_due_alike.Goals as goal

pub returns : goal.returns
returns c = renamed_sources_are_due_alike
