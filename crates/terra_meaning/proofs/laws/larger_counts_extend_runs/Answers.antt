use Rattle.terra_meaning.proofs.Meant.{larger-counts}
use Rattle.terra_meaning.proofs.laws.larger_counts_extend_runs.Goals as goal

pub returns : goal.returns
returns c = larger-counts
