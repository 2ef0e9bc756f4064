-- What a node holds: its texts as bytes, and its children by their numbers.
use Rattle.std.specs.Prelude.{ℕ, List}
use Rattle.tl_base.specs.declared.place.Place.{Place}
use Rattle.tl_tree.specs.declared.node.Expression as expressions
use Rattle.tl_tree.specs.declared.node.Statement as statements
use Rattle.tl_tree.specs.declared.node.TerraExpression as terra_expressions
use Rattle.tl_tree.specs.declared.node.TerraStatement as terra_statements
use Rattle.tl_tree.specs.declared.node.Piece as pieces

pub data Item : Type 0 where
  Name : Place → ℕ → List ℕ → Item
  Numeral Literal : Place → List ℕ → Item
  Expression : Place → expressions.Expression → Item
  Statement : Place → statements.Statement → Item
  TerraExpression : Place → terra_expressions.TerraExpression → Item
  TerraStatement : Place → terra_statements.TerraStatement → Item
  Piece : pieces.Piece → Item
