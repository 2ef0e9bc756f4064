use Rattle.std.proofs.Common.{List, length}
use Rattle.tl_tree.specs.Tokens.{Token}
use Rattle.tl_tree.specs.Tree.{Tree}
use Rattle.tl_parse.specs.Views.Parsing.{tokens_left}
use Rattle.tl_parse.specs.Views.Paths.{names_at, more_names_at}
use Rattle.tl_parse.specs.Views.Going.{Listing}
use Rattle.tl_parse.proofs.parser.Parser.names.Given as goal

abbrev pub invariant-more : goal.invariant-more
invariant-more l = Listing l.fn.self l.self (names_at l.fn.levels (tokens_left l.fn.self)) (λ (before : Tree) (ts : List Token). more_names_at l.fn.levels before ts) l.list

abbrev pub decreases-more : goal.decreases-more
decreases-more l = length (tokens_left l.self)
