use Rattle.tac_lower.proofs.Needing.{body-needs}
use Rattle.tac_lower.proofs.Ways.{code-counted}
use Rattle.tac_lower.proofs.law.lowered_code_is_counted.Goals as goal

pub returns : goal.returns
returns c = λ store entries k types few typed. code-counted store entries k (body-needs store types entries few k typed)
