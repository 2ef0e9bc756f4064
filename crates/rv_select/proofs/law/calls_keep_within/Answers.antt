use Rattle.rv_select.proofs.Within.{calls-within}
use Rattle.rv_select.proofs.law.calls_keep_within.Goals as goal

pub returns : goal.returns
returns c = calls-within
