use Rattle.terra_meaning.specs.Meaning.{meaning}
use Rattle.terra_meaning.proofs.Meant.{larger-counts}
use Rattle.terra_meaning.proofs.Counts.{least}
use Rattle.terra_meaning.proofs.laws.runs_need_one_count.Goals as goal

pub returns : goal.returns
returns c = λ store entries memory f arguments n k.
    least (λ m. meaning store entries memory m f arguments) (larger-counts store entries memory f arguments) n k
