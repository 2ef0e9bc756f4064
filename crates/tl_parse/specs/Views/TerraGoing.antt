-- How far the loops over Terra code have come, and what one turn of them adds.
use Rattle.std.specs.Prelude.{◌≡◌, ℕ, List, Bool}
use Rattle.tl_base.specs.declared.ids.NodeId.{NodeId}
use Rattle.tl_tree.specs.declared.mode.OperandKind.TheVariants as operands
use Rattle.tl_tree.specs.declared.node.Node.TheVariants as nodes
use Rattle.tl_tree.specs.declared.node.TerraExpression.TheVariants as expressions
use Rattle.tl_tree.specs.Tree.{Tree, Nothing}
use Rattle.tl_tree.specs.Item.{Item}
use Rattle.tl_tree.specs.Nodes.{added, last_of}
use Rattle.tl_tree.specs.Grammar.{Outcome, Took, down}
use Rattle.tl_tree.specs.Forms.{Chained, chained, binary_of}
use Rattle.tl_parse.specs.Views.Parsing.{tokens_left, items_of, end_of, Pushed}
use Rattle.tl_parse.specs.Views.TerraExpressions.{TerraSuffixed, terra_attached, terra_kind_of, terra_suffixes_at}
use Rattle.tl_parse.specs.Views.TerraExpressions.{terra_more_at}
use Rattle.tl_parse.specs.declared.terra_expressions.TerraPrecedence.{TerraPrecedence}
use Rattle.tl_parse.specs.declared.terra_expressions.TerraPrecedence.TheVariants as precedences
use Rattle.tl_parse.specs.declared.parser.Parser.{Parser}
use Rattle.tl_parse.specs.declared.parser.Next as code
use Rattle.tl_parse.specs.declared.parser.Operand.{Operand}

-- An operator with its operands is added.
pub record TerraJoined (old new : Parser) (t : code.Next) (a : Operand) (right : NodeId) (chain : ℕ)
    (r : Operand) : Type 0 where
  pub pushed :
      Pushed old new (nodes.TerraExpression t.place (expressions.Binary (binary_of t.symbol) a.node right)) r.node
  pub links : r.links ≡ chain
  pub kind : r.kind ≡ operands.Other

-- A suffix is added to what is before it, whose nodes were laid last.
pub record TookTerraSuffix (old new : Parser) (o : Outcome TerraSuffixed) (a r : Operand) : Type 0 where
  pub suffix : TerraSuffixed
  pub took : o ≡ Took suffix (tokens_left new)
  pub finish : end_of new ≡ end_of old
  pub links : r.links ≡ down a.links
  pub kind : r.kind ≡ terra_kind_of suffix
  pub items : (tree : Tree) (before : List Item) → items_of old ≡ (added tree before).items
      → a.node ≡ last_of (items_of old) → items_of new ≡ (added (terra_attached suffix tree) before).items
  pub is_last : r.node ≡ last_of (items_of new)

-- An operand and operators behind it are a tree so far, and the rest is read from here as from the beginning.
pub record TerraBinding (levels : ℕ) (p : TerraPrecedence) (start now : Parser) (o : Outcome Chained)
    (a : Operand) : Type 0 where
  pub tree : Tree
  pub goes_on : o ≡ terra_more_at levels p (chained tree a.links a.kind) (tokens_left now)
  pub finish : end_of now ≡ end_of start
  pub items : items_of now ≡ (added tree (items_of start)).items
  pub is_last : a.node ≡ last_of (items_of now)

-- a `tsuf` so far
pub record TerraApplying (levels : ℕ) (start now : Parser) (o : Outcome Chained)
    (a : Operand) : Type 0 where
  pub tree : Tree
  pub goes_on : o ≡ terra_suffixes_at levels (chained tree a.links a.kind) (tokens_left now)
  pub finish : end_of now ≡ end_of start
  pub items : items_of now ≡ (added tree (items_of start)).items
  pub is_last : a.node ≡ last_of (items_of now)

-- the first initialiser, and whether it is named
pub record TookInitialiser (old new : Parser) (o : Outcome (Tree × Bool)) (number : NodeId)
    (named : Bool) : Type 0 where
  pub tree : Tree
  pub took : o ≡ Took (tree, named) (tokens_left new)
  pub finish : end_of new ≡ end_of old
  pub items : items_of new ≡ (added tree (items_of old)).items
  pub is_last : number ≡ last_of (items_of new)

-- tokens are read that have no node
pub record TookNothing (old new : Parser) (o : Outcome Tree) : Type 0 where
  pub took : o ≡ Took Nothing (tokens_left new)
  pub finish : end_of new ≡ end_of old
  pub items : items_of new ≡ items_of old

-- how far a precedence is from the highest
abbrev pub terra_rank_of : TerraPrecedence → ℕ
terra_rank_of precedences.Power = 9
terra_rank_of precedences.Product = 13
terra_rank_of precedences.Sum = 16
terra_rank_of precedences.Shift = 19
terra_rank_of precedences.Comparison = 22
terra_rank_of precedences.Conjunction = 25
terra_rank_of precedences.Disjunction = 28
