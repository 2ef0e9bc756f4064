use Rattle.rv_select.proofs.Waits.{waits-keeps}
use Rattle.rv_select.proofs.law.callers_go_on_waiting.Goals as goal

pub returns : goal.returns
returns c = waits-keeps
