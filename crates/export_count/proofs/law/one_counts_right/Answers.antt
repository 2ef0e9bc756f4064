use Rattle.export_count.proofs.Counting.{count-one}
use Rattle.export_count.proofs.law.one_counts_right.Goals as goal

pub returns : goal.returns
returns c = count-one
