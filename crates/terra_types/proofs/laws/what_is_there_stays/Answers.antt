-- Each change keeps what is there.
use Rattle.terra_types.proofs.Staying.{keeps-form, keeps-struct, keeps-settled}
use Rattle.terra_types.proofs.laws.what_is_there_stays.Goals as goal

pub returns-clause-made : goal.returns-clause-made
returns-clause-made c = keeps-form

pub returns-clause-structs : goal.returns-clause-structs
returns-clause-structs c = keeps-struct

pub returns-clause-settled : goal.returns-clause-settled
returns-clause-settled c = keeps-settled
