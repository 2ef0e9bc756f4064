-- An operator with its operands is added.
use Rattle.std.specs.Prelude.{◌≡◌, ℕ}
use Rattle.tl_base.specs.declared.ids.NodeId.{NodeId}
use Rattle.tl_tree.specs.declared.mode.OperandKind.TheVariants as operands
use Rattle.tl_tree.specs.declared.node.Node.TheVariants as nodes
use Rattle.tl_tree.specs.declared.node.Expression.TheVariants as expressions
use Rattle.tl_tree.specs.Forms.{binary_of}
use Rattle.tl_parse.specs.Views.Parsing.{Pushed}
use Rattle.tl_parse.specs.declared.parser.Parser.{Parser}
use Rattle.tl_parse.specs.declared.parser.Next as code
use Rattle.tl_parse.specs.declared.parser.Operand.{Operand}

pub record Joined (old new : Parser) (t : code.Next) (a : Operand) (right : NodeId) (chain : ℕ)
    (r : Operand) : Type 0 where
  pub pushed : Pushed old new (nodes.Expression t.place (expressions.Binary (binary_of t.symbol) a.node right)) r.node
  pub links : r.links ≡ chain
  pub kind : r.kind ≡ operands.Other
