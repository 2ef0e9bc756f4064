-- What nodes of Terra code hold. A node of another kind has nothing of it.
use Rattle.std.specs.Prelude.{ℕ, Bool, true, false, List, [], ◌∷◌, Option, Some, None}
use Rattle.tl_base.specs.declared.ids.NodeId.{NodeId}
use Rattle.tl_base.specs.declared.ids.TypeId.{TypeId}
use Rattle.tl_tree.specs.declared.node.BinaryOperator.{BinaryOperator as Written}
use Rattle.tl_tree.specs.declared.node.BinaryOperator.TheVariants as written
use Rattle.tl_tree.specs.declared.node.UnaryOperator.{UnaryOperator as WrittenUnary}
use Rattle.tl_tree.specs.declared.node.UnaryOperator.TheVariants as written_unary
use Rattle.tl_tree.specs.declared.node.Piece.TheVariants as pieces
use Rattle.tl_tree.specs.declared.node.TerraExpression.TheVariants as terra_expressions
use Rattle.tl_tree.specs.declared.symbol.Symbol.{Symbol}
use Rattle.tl_tree.specs.declared.symbol.Symbol.TheVariants as symbols
use Rattle.tl_tree.specs.Symbols.{numeral_of}
use Rattle.tl_tree.specs.Item.{Item}
use Rattle.tl_tree.specs.Item as kept
use Rattle.tl_tree.specs.Nodes.{item_at}
use Rattle.terra_words.specs.declared.words.BinaryOperator.{BinaryOperator}
use Rattle.terra_words.specs.declared.words.BinaryOperator.TheVariants as operators
use Rattle.terra_types.specs.Opening.{int32, int64, uint64}
use Rattle.terra_term.specs.declared.operators.UnaryOperator.{UnaryOperator}
use Rattle.terra_term.specs.declared.operators.UnaryOperator.TheVariants as unary
use Rattle.tl_tree.specs.Code.{Items, node_zero}

-- the Lua code of an escape in the place of a name
abbrev pub escaped_in : Item → Option NodeId
escaped_in (kept.TerraExpression place (terra_expressions.Escape e)) = Some e
escaped_in item = None

abbrev pub escaped_at : Items → NodeId → Option NodeId
escaped_at items n = escaped_in (item_at items n)

-- a node or the first one
abbrev pub or_first : Option NodeId → NodeId
or_first (Some n) = n
or_first None = node_zero

-- ---- parts

-- a name and its type, of a parameter, a variable or an entry
pub record Typing : Type 0 where
  pub name : NodeId
  pub type : Option NodeId

abbrev pub typing_of : Item → Typing
typing_of (kept.Piece (pieces.Parameter place name type)) = record { name = name; type = Some type }
typing_of (kept.Piece (pieces.SpliceParameter place e)) = record { name = e; type = None }
typing_of (kept.Piece (pieces.Variable place name type)) = record { name = name; type = type }
typing_of (kept.Piece (pieces.Entry name type)) = record { name = name; type = Some type }
typing_of item = record { name = node_zero; type = None }

abbrev pub typing_at : Items → NodeId → Typing
typing_at items n = typing_of (item_at items n)

-- a Terra function's parameters, its result type and its block
pub record TerraParts : Type 0 where
  pub parameters : List NodeId
  pub result : Option NodeId
  pub block : NodeId

abbrev pub terra_parts_of : Item → TerraParts
terra_parts_of (kept.Piece (pieces.TerraBody place parameters result block)) =
    record { parameters = parameters; result = result; block = block }
terra_parts_of item = record { parameters = []; result = None; block = node_zero }

abbrev pub terra_parts_at : Items → NodeId → TerraParts
terra_parts_at items n = terra_parts_of (item_at items n)

-- a quote's block and its expression
pub record QuotedParts : Type 0 where
  pub block : NodeId
  pub value : Option NodeId

abbrev pub quoted_of : Item → QuotedParts
quoted_of (kept.Piece (pieces.Quoted block e)) = record { block = block; value = e }
quoted_of item = record { block = node_zero; value = None }

abbrev pub quoted_at : Items → NodeId → QuotedParts
quoted_at items n = quoted_of (item_at items n)

-- the name and the value of an initialiser
pub record Initial : Type 0 where
  pub name : NodeId
  pub value : NodeId

abbrev pub initial_of : Item → Option Initial
initial_of (kept.Piece (pieces.NamedField name value)) = Some (record { name = name; value = value })
initial_of item = None

abbrev pub initial_at : Items → NodeId → Option Initial
initial_at items n = initial_of (item_at items n)

abbrev pub is_some : Option Initial → Bool
is_some (Some i) = true
is_some None = false

-- initialisers are named where the first one is
abbrev pub are_named : Items → List NodeId → Bool
are_named items [] = false
are_named items (n ∷ ns) = is_some (initial_at items n)

-- ---- operators

-- No Terra code has `->` or `..`.
abbrev pub operator_of : Written → BinaryOperator
operator_of written.Arrow = operators.Or
operator_of written.Or = operators.Or
operator_of written.And = operators.And
operator_of written.Less = operators.Less
operator_of written.Greater = operators.Greater
operator_of written.LessEqual = operators.LessEqual
operator_of written.GreaterEqual = operators.GreaterEqual
operator_of written.NotEqual = operators.NotEqual
operator_of written.Equal = operators.Equal
operator_of written.Concatenate = operators.Add
operator_of written.ShiftLeft = operators.ShiftLeft
operator_of written.ShiftRight = operators.ShiftRight
operator_of written.Add = operators.Add
operator_of written.Subtract = operators.Subtract
operator_of written.Multiply = operators.Multiply
operator_of written.Divide = operators.Divide
operator_of written.Modulo = operators.Modulo
operator_of written.Power = operators.Xor

-- No Terra code has `#`.
abbrev pub unary_of : WrittenUnary → UnaryOperator
unary_of written_unary.Not = unary.Not
unary_of written_unary.Length = unary.Not
unary_of written_unary.Negate = unary.Negate
unary_of written_unary.Address = unary.Address
unary_of written_unary.Dereference = unary.Dereference

-- ---- numerals

-- the type by the suffix: `ULL`, `LL` or none
abbrev pub typed_by : Symbol → TypeId
typed_by symbols.UnsignedNumeral = uint64
typed_by symbols.LongNumeral = int64
typed_by _ = int32

abbrev pub numeral_type : List ℕ → TypeId
numeral_type text = typed_by (numeral_of text)
