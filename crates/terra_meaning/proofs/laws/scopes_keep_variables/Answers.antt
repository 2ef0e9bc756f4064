use Rattle.terra_meaning.proofs.Scopes.{keeps-meant, adds-block}
use Rattle.terra_meaning.proofs.laws.scopes_keep_variables.Goals as goal

pub returns : goal.returns
returns c = record {
  expressions = λ call want e from keep. keeps-meant call keep want e from;
  statements = λ call block from keep. adds-block call keep block from;
}
