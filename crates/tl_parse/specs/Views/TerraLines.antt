-- Names in Terra code with their places.
use Rattle.std.specs.Prelude.{◌≡◌}
use Rattle.tl_base.specs.declared.place.Place.{Place}
use Rattle.tl_base.specs.declared.ids.NodeId.{NodeId}
use Rattle.tl_tree.specs.Tree.{Tree}
use Rattle.tl_tree.specs.Nodes.{added, last_of}
use Rattle.tl_tree.specs.Grammar.{Outcome, Took}
use Rattle.tl_parse.specs.Views.Parsing.{tokens_left, items_of, end_of}
use Rattle.tl_parse.specs.Views.TerraStatements.{PlacedName, placed_name}
use Rattle.tl_parse.specs.declared.parser.Parser.{Parser}

-- a name with its place
pub record TookPlacedName (old new : Parser) (o : Outcome PlacedName) (place : Place) (number : NodeId) : Type 0 where
  pub tree : Tree
  pub took : o ≡ Took (placed_name place tree) (tokens_left new)
  pub finish : end_of new ≡ end_of old
  pub items : items_of new ≡ (added tree (items_of old)).items
  pub is_last : number ≡ last_of (items_of new)
