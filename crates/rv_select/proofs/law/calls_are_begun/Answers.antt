use Rattle.rv_select.proofs.Entrances.{calls-begun}
use Rattle.rv_select.proofs.law.calls_are_begun.Goals as goal

pub returns : goal.returns
returns c = calls-begun
