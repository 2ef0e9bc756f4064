use Rattle.std.proofs.Common.{List, length}
use Rattle.tl_tree.specs.Tokens.{Token}
use Rattle.tl_tree.specs.Tree.{Tree, Nothing, Path}
use Rattle.tl_tree.specs.Grammar.{Took, ◌>>=◌}
use Rattle.tl_parse.specs.Views.Parsing.{tokens_left}
use Rattle.tl_parse.specs.Views.Paths.{path_names_at}
use Rattle.tl_parse.specs.Views.TerraDefinitions.{struct_path_at}
use Rattle.tl_parse.specs.Views.Going.{Listing}
use Rattle.tl_parse.proofs.parser.Parser.struct_path.Given as goal

abbrev pub invariant-more : goal.invariant-more
invariant-more l = Listing l.fn.self l.self (struct_path_at l.fn.levels (tokens_left l.fn.self)) (λ (before : Tree) (ts : List Token). path_names_at l.fn.levels before ts >>= λ ns rest. Took (Path ns Nothing) rest) l.names

abbrev pub decreases-more : goal.decreases-more
decreases-more l = length (tokens_left l.self)
