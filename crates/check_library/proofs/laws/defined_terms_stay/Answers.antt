use Rattle.check_library.proofs.Kept.{stays_defined}
use Rattle.check_library.proofs.laws.defined_terms_stay.Goals as goal

pub returns : goal.returns
returns c = stays_defined
