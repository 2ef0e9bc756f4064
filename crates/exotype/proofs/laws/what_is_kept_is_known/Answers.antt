use Rattle.exotype.proofs.Keeping.{known_there, known_elsewhere}
use Rattle.exotype.proofs.laws.what_is_kept_is_known.Goals as goal

pub returns-clause-there : goal.returns-clause-there
returns-clause-there c = λ kept p known. known_there kept.properties p known

pub returns-clause-elsewhere : goal.returns-clause-elsewhere
returns-clause-elsewhere c = λ kept p q known apart. known_elsewhere kept.properties p q known apart
