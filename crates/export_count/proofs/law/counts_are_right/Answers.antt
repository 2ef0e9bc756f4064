use Rattle.export_count.proofs.Counting.{count-law}
use Rattle.export_count.proofs.law.counts_are_right.Goals as goal

pub returns : goal.returns
returns c = count-law
