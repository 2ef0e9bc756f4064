use Rattle.stage_model.proofs.Ordered.{checks_are_in_order}
use Rattle.stage_model.proofs.law.checks_are_in_order.Goals as goal

pub returns : goal.returns
returns c = checks_are_in_order
