use Rattle.std.proofs.Common.{arith}
use Rattle.tl_parse.proofs.StatementTurns.{parameters_go}
use Rattle.tl_parse.proofs.parser.Parser.parameters.Goals as goal

pub more-preserved : goal.more-preserved
more-preserved c = grind (arith, parameters_go)
