-- The children of nodes, and what is proved of the nodes that the tree of a text lays out: each child has a smaller
-- number than its parent, and no other tree lays out the same nodes.
use Rattle.std.specs.Prelude.{◌≡◌, ◌<◌, List, [], ◌∷◌, ◌++◌}
use Rattle.std.specs.List.{All}
use Rattle.std.specs.Option.{option_to_list}
use Rattle.tl_base.specs.declared.ids.NodeId.{NodeId}
use Rattle.tl_tree.specs.declared.node.Expression as lua
use Rattle.tl_tree.specs.declared.node.Expression.TheVariants as expressions
use Rattle.tl_tree.specs.declared.node.Statement as lua_statement
use Rattle.tl_tree.specs.declared.node.Statement.TheVariants as statements
use Rattle.tl_tree.specs.declared.node.TerraExpression as terra
use Rattle.tl_tree.specs.declared.node.TerraExpression.TheVariants as terra_expressions
use Rattle.tl_tree.specs.declared.node.TerraStatement as terra_statement
use Rattle.tl_tree.specs.declared.node.TerraStatement.TheVariants as terra_statements
use Rattle.tl_tree.specs.declared.node.Piece as within
use Rattle.tl_tree.specs.declared.node.Piece.TheVariants as pieces
use Rattle.tl_tree.specs.Item.{Item}
use Rattle.tl_tree.specs.Item as kept
use Rattle.tl_tree.specs.Tree.{Tree}
use Rattle.tl_tree.specs.Nodes.{lay, item_at}
use Rattle.tl_tree.specs.Kinds.{IsWellFormedBlock}

abbrev pub of_expression : lua.Expression → List NodeId
of_expression (expressions.Function body) = body ∷ []
of_expression (expressions.Table fields) = fields
of_expression (expressions.Binary op a b) = a ∷ b ∷ []
of_expression (expressions.Unary op a) = a ∷ []
of_expression (expressions.Paren a) = a ∷ []
of_expression (expressions.Index a key) = a ∷ key ∷ []
of_expression (expressions.Select a name) = a ∷ name ∷ []
of_expression (expressions.Call a arguments) = a ∷ arguments
of_expression (expressions.Method a name arguments) = a ∷ name ∷ arguments
of_expression (expressions.Terra body) = body ∷ []
of_expression (expressions.Struct entries) = entries
of_expression (expressions.Quote quoted) = quoted ∷ []
of_expression (expressions.Backtick e) = e ∷ []
of_expression _ = []

abbrev pub of_statement : lua_statement.Statement → List NodeId
of_statement (statements.Assign targets es) = targets ++ es
of_statement (statements.Call call) = call ∷ []
of_statement (statements.Do block) = block ∷ []
of_statement (statements.While e block) = e ∷ block ∷ []
of_statement (statements.Repeat block e) = block ∷ e ∷ []
of_statement (statements.If arms otherwise) = arms ++ option_to_list otherwise
of_statement (statements.NumericFor name a b step block) = name ∷ a ∷ b ∷ (option_to_list step ++ block ∷ [])
of_statement (statements.GenericFor names es block) = names ++ (es ++ block ∷ [])
of_statement (statements.Function path body) = path ∷ body ∷ []
of_statement (statements.LocalFunction name body) = name ∷ body ∷ []
of_statement (statements.Local names es) = names ++ es
of_statement (statements.Terra path body) = path ∷ body ∷ []
of_statement (statements.DeclareTerra path e) = path ∷ e ∷ []
of_statement (statements.LocalTerra word name body) = name ∷ body ∷ []
of_statement (statements.LocalDeclareTerra word name e) = name ∷ e ∷ []
of_statement (statements.Struct path entries) = path ∷ entries
of_statement (statements.LocalStruct word name entries) = name ∷ entries
of_statement (statements.Emit e) = e ∷ []
of_statement (statements.Return es) = es
of_statement statements.Break = []

abbrev pub of_terra_expression : terra.TerraExpression → List NodeId
of_terra_expression (terra_expressions.Binary op a b) = a ∷ b ∷ []
of_terra_expression (terra_expressions.Unary op a) = a ∷ []
of_terra_expression (terra_expressions.Paren a) = a ∷ []
of_terra_expression (terra_expressions.Escape e) = e ∷ []
of_terra_expression (terra_expressions.Index a key) = a ∷ key ∷ []
of_terra_expression (terra_expressions.Select a name) = a ∷ name ∷ []
of_terra_expression (terra_expressions.Call a arguments) = a ∷ arguments
of_terra_expression (terra_expressions.Method a name arguments) = a ∷ name ∷ arguments
of_terra_expression (terra_expressions.Construct a initialisers) = a ∷ initialisers
of_terra_expression _ = []

abbrev pub of_terra_statement : terra_statement.TerraStatement → List NodeId
of_terra_statement (terra_statements.Assign targets es) = targets ++ es
of_terra_statement (terra_statements.Call call) = call ∷ []
of_terra_statement (terra_statements.Splice escape) = escape ∷ []
of_terra_statement (terra_statements.Do block) = block ∷ []
of_terra_statement (terra_statements.While e block) = e ∷ block ∷ []
of_terra_statement (terra_statements.Repeat block e) = block ∷ e ∷ []
of_terra_statement (terra_statements.If arms otherwise) = arms ++ option_to_list otherwise
of_terra_statement (terra_statements.For name a b step block) = name ∷ a ∷ b ∷ (option_to_list step ++ block ∷ [])
of_terra_statement (terra_statements.Var variables es) = variables ++ es
of_terra_statement (terra_statements.Escape block) = block ∷ []
of_terra_statement (terra_statements.Return es) = es
of_terra_statement terra_statements.Break = []

abbrev pub of_piece : within.Piece → List NodeId
of_piece (pieces.Block block) = block
of_piece (pieces.Arm e block) = e ∷ block ∷ []
of_piece (pieces.Body names variadic block) = names ++ block ∷ []
of_piece (pieces.Path names method) = names ++ option_to_list method
of_piece (pieces.NamedField name value) = name ∷ value ∷ []
of_piece (pieces.KeyedField key value) = key ∷ value ∷ []
of_piece (pieces.Entry name type) = name ∷ type ∷ []
of_piece (pieces.Quoted block value) = block ∷ option_to_list value
of_piece (pieces.TerraBody place parameters result block) = parameters ++ (option_to_list result ++ block ∷ [])
of_piece (pieces.Parameter place name type) = name ∷ type ∷ []
of_piece (pieces.SpliceParameter place escape) = escape ∷ []
of_piece (pieces.Variable place name type) = name ∷ option_to_list type

-- the children of a node, in the order of the text
abbrev pub children_of : Item → List NodeId
children_of (kept.Expression place e) = of_expression e
children_of (kept.Statement place s) = of_statement s
children_of (kept.TerraExpression place e) = of_terra_expression e
children_of (kept.TerraStatement place s) = of_terra_statement s
children_of (kept.Piece p) = of_piece p
children_of _ = []

-- Each child has a smaller number than its parent.
abbrev pub HasChildrenFirst : List Item → Type 0
HasChildrenFirst items = (id : NodeId) → All (λ child. child.0 < id.0) (children_of (item_at items id))

-- ---- laws

-- In the nodes of a tree, children are before their parents.
abbrev pub LaysChildrenFirst : Type 0
LaysChildrenFirst = (tree : Tree) → IsWellFormedBlock tree → HasChildrenFirst (lay tree [])

-- Nodes are those of one tree at most.
abbrev pub IsLaidOutApart : Type 0
IsLaidOutApart = (a b : Tree) → IsWellFormedBlock a → IsWellFormedBlock b → lay a [] ≡ lay b [] → a ≡ b
