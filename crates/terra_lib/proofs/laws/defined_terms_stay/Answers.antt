use Rattle.terra_lib.proofs.Kept.{stays_defined}
use Rattle.terra_lib.proofs.laws.defined_terms_stay.Goals as goal

pub returns : goal.returns
returns c = stays_defined
