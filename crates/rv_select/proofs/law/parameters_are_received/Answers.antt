use Rattle.rv_select.proofs.Receives.{parameters-received}
use Rattle.rv_select.proofs.law.parameters_are_received.Goals as goal

pub returns : goal.returns
returns c = parameters-received
