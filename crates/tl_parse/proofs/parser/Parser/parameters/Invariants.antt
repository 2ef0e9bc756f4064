use Rattle.std.proofs.Common.{length}
use Rattle.tl_parse.specs.Views.Parsing.{tokens_left}
use Rattle.tl_parse.specs.Views.Statements.{parameters_at}
use Rattle.tl_parse.specs.Views.Going.{Naming}
use Rattle.tl_parse.proofs.parser.Parser.parameters.Given as goal

abbrev pub invariant-more : goal.invariant-more
invariant-more l = Naming l.fn.levels l.fn.self l.self (parameters_at l.fn.levels (tokens_left l.fn.self)) l.list

abbrev pub decreases-more : goal.decreases-more
decreases-more l = length (tokens_left l.self)
