-- The tree that stands at a number of a list of nodes.
use Rattle.std.proofs.Common.{ℕ, zero, suc, List, [], ◌∷◌, Option, Some, None}
use Rattle.tl_base.specs.declared.place.Place.{Place}
use Rattle.tl_base.specs.declared.ids.NodeId.{NodeId}
use Rattle.tl_tree.specs.declared.node.Expression as lua
use Rattle.tl_tree.specs.declared.node.Expression.TheVariants as expressions
use Rattle.tl_tree.specs.declared.node.Statement as lua_statement
use Rattle.tl_tree.specs.declared.node.Statement.TheVariants as statements
use Rattle.tl_tree.specs.declared.node.TerraExpression as terra
use Rattle.tl_tree.specs.declared.node.TerraExpression.TheVariants as terra_expressions
use Rattle.tl_tree.specs.declared.node.TerraStatement as terra_statement
use Rattle.tl_tree.specs.declared.node.TerraStatement.TheVariants as terra_statements
use Rattle.tl_tree.specs.declared.node.Piece as within
use Rattle.tl_tree.specs.declared.node.Piece.TheVariants as pieces
use Rattle.tl_tree.specs.Item.{Item}
use Rattle.tl_tree.specs.Item as kept
use Rattle.tl_tree.specs.Nodes.{item_at}
use Rattle.tl_tree.specs.Tree.{Tree}
use Rattle.tl_tree.specs.Tree as t

module _ (at : NodeId → Tree) where
  -- the trees at these numbers, behind a list
  abbrev pub list_behind : Tree → List NodeId → Tree
  list_behind before [] = before
  list_behind before (id ∷ ids) = list_behind (t.More before (at id)) ids

  abbrev pub list : List NodeId → Tree
  list ids = list_behind t.Nothing ids

  abbrev pub if_any : Option NodeId → Tree
  if_any None = t.Nothing
  if_any (Some id) = t.Just (at id)

  abbrev of_expression : Place → lua.Expression → Tree
  of_expression place expressions.Nil = t.Nil place
  of_expression place expressions.False = t.False place
  of_expression place expressions.True = t.True place
  of_expression place expressions.Varargs = t.Varargs place
  of_expression place (expressions.Function body) = t.Function place (at body)
  of_expression place (expressions.Table fields) = t.Table place (list fields)
  of_expression place (expressions.Binary op a b) = t.Binary place op (at a) (at b)
  of_expression place (expressions.Unary op a) = t.Unary place op (at a)
  of_expression place (expressions.Paren a) = t.Paren place (at a)
  of_expression place (expressions.Index a key) = t.Index place (at a) (at key)
  of_expression place (expressions.Select a name) = t.Select place (at a) (at name)
  of_expression place (expressions.Call a es) = t.Call place (at a) (list es)
  of_expression place (expressions.Method a name es) = t.Method place (at a) (at name) (list es)
  of_expression place (expressions.Terra body) = t.TerraFunction place (at body)
  of_expression place (expressions.Struct entries) = t.Struct place (list entries)
  of_expression place (expressions.Quote quoted) = t.Quote place (at quoted)
  of_expression place (expressions.Backtick e) = t.Backtick place (at e)

  abbrev of_statement : Place → lua_statement.Statement → Tree
  of_statement place (statements.Assign targets es) = t.Assign place (list targets) (list es)
  of_statement place (statements.Call call) = t.CallStatement place (at call)
  of_statement place (statements.Do block) = t.Do place (at block)
  of_statement place (statements.While e block) = t.While place (at e) (at block)
  of_statement place (statements.Repeat block e) = t.Repeat place (at block) (at e)
  of_statement place (statements.If arms otherwise) = t.If place (list arms) (if_any otherwise)
  of_statement place (statements.NumericFor name a b step block) =
      t.NumericFor place (at name) (at a) (at b) (if_any step) (at block)
  of_statement place (statements.GenericFor names es block) = t.GenericFor place (list names) (list es) (at block)
  of_statement place (statements.Function path body) = t.DefineFunction place (at path) (at body)
  of_statement place (statements.LocalFunction name body) = t.LocalFunction place (at name) (at body)
  of_statement place (statements.Local names es) = t.Local place (list names) (list es)
  of_statement place (statements.Terra path body) = t.DefineTerra place (at path) (at body)
  of_statement place (statements.DeclareTerra path e) = t.DeclareTerra place (at path) (at e)
  of_statement place (statements.LocalTerra word name body) = t.LocalTerra place word (at name) (at body)
  of_statement place (statements.LocalDeclareTerra word name e) = t.LocalDeclareTerra place word (at name) (at e)
  of_statement place (statements.Struct path entries) = t.DefineStruct place (at path) (list entries)
  of_statement place (statements.LocalStruct word name entries) = t.LocalStruct place word (at name) (list entries)
  of_statement place (statements.Emit e) = t.Emit place (at e)
  of_statement place (statements.Return es) = t.Return place (list es)
  of_statement place statements.Break = t.Break place

  abbrev of_terra_expression : Place → terra.TerraExpression → Tree
  of_terra_expression place terra_expressions.Nil = t.TerraNil place
  of_terra_expression place terra_expressions.False = t.TerraFalse place
  of_terra_expression place terra_expressions.True = t.TerraTrue place
  of_terra_expression place (terra_expressions.Binary op a b) = t.TerraBinary place op (at a) (at b)
  of_terra_expression place (terra_expressions.Unary op a) = t.TerraUnary place op (at a)
  of_terra_expression place (terra_expressions.Paren a) = t.TerraParen place (at a)
  of_terra_expression place (terra_expressions.Escape e) = t.Escape place (at e)
  of_terra_expression place (terra_expressions.Index a key) = t.TerraIndex place (at a) (at key)
  of_terra_expression place (terra_expressions.Select a name) = t.TerraSelect place (at a) (at name)
  of_terra_expression place (terra_expressions.Call a es) = t.TerraCall place (at a) (list es)
  of_terra_expression place (terra_expressions.Method a name es) = t.TerraMethod place (at a) (at name) (list es)
  of_terra_expression place (terra_expressions.Construct a initialisers) = t.Construct place (at a) (list initialisers)

  abbrev of_terra_statement : Place → terra_statement.TerraStatement → Tree
  of_terra_statement place (terra_statements.Assign targets es) = t.TerraAssign place (list targets) (list es)
  of_terra_statement place (terra_statements.Call call) = t.TerraCallStatement place (at call)
  of_terra_statement place (terra_statements.Splice escape) = t.Splice place (at escape)
  of_terra_statement place (terra_statements.Do block) = t.TerraDo place (at block)
  of_terra_statement place (terra_statements.While e block) = t.TerraWhile place (at e) (at block)
  of_terra_statement place (terra_statements.Repeat block e) = t.TerraRepeat place (at block) (at e)
  of_terra_statement place (terra_statements.If arms otherwise) = t.TerraIf place (list arms) (if_any otherwise)
  of_terra_statement place (terra_statements.For name a b step block) =
      t.TerraFor place (at name) (at a) (at b) (if_any step) (at block)
  of_terra_statement place (terra_statements.Var variables es) = t.Var place (list variables) (list es)
  of_terra_statement place (terra_statements.Escape block) = t.EscapeBlock place (at block)
  of_terra_statement place (terra_statements.Return es) = t.TerraReturn place (list es)
  of_terra_statement place terra_statements.Break = t.TerraBreak place

  abbrev of_piece : within.Piece → Tree
  of_piece (pieces.Block block) = t.Block (list block)
  of_piece (pieces.Arm e block) = t.Arm (at e) (at block)
  of_piece (pieces.Body names variadic block) = t.Body (list names) variadic (at block)
  of_piece (pieces.Path names method) = t.Path (list names) (if_any method)
  of_piece (pieces.NamedField name value) = t.NamedField (at name) (at value)
  of_piece (pieces.KeyedField key value) = t.KeyedField (at key) (at value)
  of_piece (pieces.Entry name type) = t.Entry (at name) (at type)
  of_piece (pieces.Quoted block value) = t.Quoted (at block) (if_any value)
  of_piece (pieces.TerraBody place parameters result block) =
      t.TerraBody place (list parameters) (if_any result) (at block)
  of_piece (pieces.Parameter place name type) = t.Parameter place (at name) (at type)
  of_piece (pieces.SpliceParameter place escape) = t.SpliceParameter place (at escape)
  of_piece (pieces.Variable place name type) = t.Variable place (at name) (if_any type)

  -- the tree of a node, with those that stand at its children
  abbrev pub of_item : Item → Tree
  of_item (kept.Name place offset text) = t.Name place offset text
  of_item (kept.Numeral place text) = t.Numeral place text
  of_item (kept.Literal place text) = t.Literal place text
  of_item (kept.Expression place e) = of_expression place e
  of_item (kept.Statement place s) = of_statement place s
  of_item (kept.TerraExpression place e) = of_terra_expression place e
  of_item (kept.TerraStatement place s) = of_terra_statement place s
  of_item (kept.Piece p) = of_piece p

-- the tree at a number, which is below this one
abbrev pub tree_at : ℕ → List Item → NodeId → Tree
tree_at zero items id = t.Nothing
tree_at (suc n) items id = of_item (λ child. tree_at n items child) (item_at items id)
