use Rattle.spec_alike.proofs.Whole.{means-same}
use Rattle.spec_alike.proofs.law.specialising_means_same.Goals as goal

pub returns : goal.returns
returns c = means-same
