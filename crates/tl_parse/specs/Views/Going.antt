-- How far the loops have come, and what one turn of them adds.
use Rattle.std.specs.Prelude.{◌≡◌, ℕ, ◌-◌, Bool, false, List}
use Rattle.tl_base.specs.declared.ids.NodeId.{NodeId}
use Rattle.tl_tree.specs.declared.mode.Mode.{Mode}
use Rattle.tl_tree.specs.Tokens.{Token}
use Rattle.tl_tree.specs.Tree.{Tree, Block}
use Rattle.tl_tree.specs.Item.{Item}
use Rattle.tl_tree.specs.Nodes.{added, last, last_of, if_any}
use Rattle.tl_tree.specs.Grammar.{Outcome, Took, ◌>>=◌, down}
use Rattle.tl_tree.specs.Forms.{Chained, chained}
use Rattle.tl_tree.specs.LuaStatements.{Sequence, sequence, Parameters, parameters_of}
use Rattle.tl_parse.specs.Views.Statements.{Numeric, Generic, more_parameters_at}
use Rattle.tl_parse.specs.Views.Blocks.{more_statements_at}
use Rattle.tl_parse.specs.declared.statements.Numeric as code_statements
use Rattle.tl_parse.specs.Views.Parsing.{token_of, tokens_left, items_of, end_of}
use Rattle.tl_parse.specs.Views.Expressions.{Suffixed, attached, kind_of, suffixes_at, ranks_at}
use Rattle.tl_parse.specs.declared.parser.Parser.{Parser}
use Rattle.tl_parse.specs.declared.parser.Next as code
use Rattle.tl_parse.specs.declared.parser.BlockCode.{BlockCode}
use Rattle.tl_parse.specs.declared.parser.Operand.{Operand}

-- an operator and its right operand
pub record TookOperation (old new : Parser) (o : Outcome (Token × Chained)) (t : code.Next) (r : Operand) : Type 0 where
  pub tree : Tree
  pub took : o ≡ Took (token_of t, chained tree r.links r.kind) (tokens_left new)
  pub finish : end_of new ≡ end_of old
  pub items : items_of new ≡ (added tree (items_of old)).items
  pub is_last : r.node ≡ last_of (items_of new)

-- A suffix is added to what is before it, whose nodes were laid last.
pub record TookSuffix (old new : Parser) (o : Outcome Suffixed) (a r : Operand) : Type 0 where
  pub suffix : Suffixed
  pub took : o ≡ Took suffix (tokens_left new)
  pub finish : end_of new ≡ end_of old
  pub links : r.links ≡ down a.links
  pub kind : r.kind ≡ kind_of suffix
  pub items : (tree : Tree) (before : List Item) → items_of old ≡ (added tree before).items
      → a.node ≡ last_of (items_of old) → items_of new ≡ (added (attached suffix tree) before).items
  pub is_last : r.node ≡ last_of (items_of new)

-- An operand and operators behind it are a tree so far, and the operators of the ranks from this one on, before that
-- one, follow.
pub record Binding (levels rank end : ℕ) (m : Mode) (start now : Parser) (o : Outcome Chained)
    (a : Operand) : Type 0 where
  pub tree : Tree
  pub goes_on : o ≡ ranks_at levels (end - rank) rank m (chained tree a.links a.kind) (tokens_left now)
  pub finish : end_of now ≡ end_of start
  pub items : items_of now ≡ (added tree (items_of start)).items
  pub is_last : a.node ≡ last_of (items_of now)

-- a prefix expression so far
pub record Applying (levels : ℕ) (m : Mode) (start now : Parser) (o : Outcome Chained) (a : Operand) : Type 0 where
  pub tree : Tree
  pub goes_on : o ≡ suffixes_at levels m (chained tree a.links a.kind) (tokens_left now)
  pub finish : end_of now ≡ end_of start
  pub items : items_of now ≡ (added tree (items_of start)).items
  pub is_last : a.node ≡ last_of (items_of now)

-- a list so far
pub record Listing (start now : Parser) (o : Outcome Tree) (more : Tree → List Token
    → Outcome Tree) (numbers : List NodeId) : Type 0 where
  pub tree : Tree
  pub goes_on : o ≡ more tree (tokens_left now)
  pub finish : end_of now ≡ end_of start
  pub items : items_of now ≡ (added tree (items_of start)).items
  pub list : numbers ≡ (added tree (items_of start)).numbers

-- ---- statements

-- what a numeric `for` has behind its name
pub record TookNumeric (old new : Parser) (o : Outcome Numeric) (r : code_statements.Numeric) : Type 0 where
  pub trees : Numeric
  pub took : o ≡ Took trees (tokens_left new)
  pub finish : end_of new ≡ end_of old
  pub items : items_of new
      ≡ (added trees.block
      (added trees.step (added trees.limit (added trees.from (items_of old)).items).items).items).items
  pub from_is : r.from ≡ last (added trees.from (items_of old))
  pub limit_is : r.limit ≡ last (added trees.limit (added trees.from (items_of old)).items)
  pub step_is : r.step ≡ if_any (added trees.step (added trees.limit (added trees.from (items_of old)).items).items)
  pub block_is : r.block ≡ last_of (items_of new)

-- what a generic `for` has behind its names
pub record TookGeneric (old new : Parser) (o : Outcome Generic) (values : List NodeId) (block : NodeId) : Type 0 where
  pub trees : Generic
  pub took : o ≡ Took trees (tokens_left new)
  pub finish : end_of new ≡ end_of old
  pub items : items_of new ≡ (added trees.block (added trees.values (items_of old)).items).items
  pub values_are : values ≡ (added trees.values (items_of old)).numbers
  pub block_is : block ≡ last_of (items_of new)

-- the names of parameters, and whether `...` is one more
pub record TookParameters (old new : Parser) (o : Outcome Parameters) (numbers : List NodeId)
    (variadic : Bool) : Type 0 where
  pub tree : Tree
  pub took : o ≡ Took (parameters_of tree variadic) (tokens_left new)
  pub finish : end_of new ≡ end_of old
  pub items : items_of new ≡ (added tree (items_of old)).items
  pub list : numbers ≡ (added tree (items_of old)).numbers

-- parameters so far, of which none is `...`
pub record Naming (levels : ℕ) (start now : Parser) (o : Outcome Parameters) (numbers : List NodeId) : Type 0 where
  pub tree : Tree
  pub goes_on : o ≡ more_parameters_at levels tree false (tokens_left now)
  pub finish : end_of now ≡ end_of start
  pub items : items_of now ≡ (added tree (items_of start)).items
  pub list : numbers ≡ (added tree (items_of start)).numbers

-- a statement, and whether it ends its block
pub record TookStatement (old new : Parser) (o : Outcome Sequence) (number : NodeId) (ends : Bool) : Type 0 where
  pub tree : Tree
  pub took : o ≡ Took (sequence tree ends) (tokens_left new)
  pub finish : end_of new ≡ end_of old
  pub items : items_of new ≡ (added tree (items_of old)).items
  pub is_last : number ≡ last_of (items_of new)

-- the statements of a block so far
pub record Sequencing (levels : ℕ) (block : BlockCode) (start now : Parser) (o : Outcome Tree)
    (numbers : List NodeId) (ended : Bool) : Type 0 where
  pub tree : Tree
  pub goes_on : o ≡ (more_statements_at levels block tree ended (tokens_left now)
      >>= λ a rest. Took (Block a.statements) rest)
  pub finish : end_of now ≡ end_of start
  pub items : items_of now ≡ (added tree (items_of start)).items
  pub list : numbers ≡ (added tree (items_of start)).numbers
