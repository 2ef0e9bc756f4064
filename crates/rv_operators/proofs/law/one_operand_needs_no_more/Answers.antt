use Rattle.rv_operators.proofs.Unary.{negated-is, complemented-is, wrapped-is, truth-is}
use Rattle.rv_operators.proofs.law.one_operand_needs_no_more.Goals as goal

pub returns-clause-negated : goal.returns-clause-negated
returns-clause-negated c = negated-is

pub returns-clause-complemented : goal.returns-clause-complemented
returns-clause-complemented c = complemented-is

pub returns-clause-converted : goal.returns-clause-converted
returns-clause-converted c = wrapped-is

pub returns-clause-truth : goal.returns-clause-truth
returns-clause-truth c = truth-is
