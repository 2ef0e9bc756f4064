-- What the children of a node are for: a name that is declared, a name that is selected, or code, the use of a name among it.
use Rattle.std.specs.Prelude.{List, [], ◌∷◌, ◌++◌, drop, take}
use Rattle.std.specs.List.{All}
use Rattle.std.specs.Option.{option_to_list}
use Rattle.tl_base.specs.declared.ids.NodeId.{NodeId}
use Rattle.tl_tree.specs.declared.node.Expression as of_expressions
use Rattle.tl_tree.specs.declared.node.Expression.TheVariants as expressions
use Rattle.tl_tree.specs.declared.node.Statement as of_statements
use Rattle.tl_tree.specs.declared.node.Statement.TheVariants as statements
use Rattle.tl_tree.specs.declared.node.TerraExpression as of_terra_expressions
use Rattle.tl_tree.specs.declared.node.TerraExpression.TheVariants as terra_expressions
use Rattle.tl_tree.specs.declared.node.TerraStatement as of_terra_statements
use Rattle.tl_tree.specs.declared.node.TerraStatement.TheVariants as terra_statements
use Rattle.tl_tree.specs.declared.node.Piece as of_pieces
use Rattle.tl_tree.specs.declared.node.Piece.TheVariants as pieces
use Rattle.tl_tree.specs.Item.{Item}
use Rattle.tl_tree.specs.Item as kept
use Rattle.tl_tree.specs.Nodes.{item_at}
use Rattle.tl_tree.specs.Code.{Items}

-- ---- names that are selected

-- the name behind a `.` or `:`, and the names of fields, entries and initialisers
abbrev pub selected_by_expression : of_expressions.Expression → List NodeId
selected_by_expression (expressions.Select a name) = name ∷ []
selected_by_expression (expressions.Method a name arguments) = name ∷ []
selected_by_expression _ = []

abbrev pub selected_by_terra_expression : of_terra_expressions.TerraExpression → List NodeId
selected_by_terra_expression (terra_expressions.Select a name) = name ∷ []
selected_by_terra_expression (terra_expressions.Method a name arguments) = name ∷ []
selected_by_terra_expression _ = []

-- of a path all names but the first, which is used
abbrev pub selected_by_piece : of_pieces.Piece → List NodeId
selected_by_piece (pieces.Path names method) = drop 1 names ++ option_to_list method
selected_by_piece (pieces.NamedField name value) = name ∷ []
selected_by_piece (pieces.Entry name type) = name ∷ []
selected_by_piece _ = []

abbrev pub selected_by : Item → List NodeId
selected_by (kept.Expression place e) = selected_by_expression e
selected_by (kept.TerraExpression place e) = selected_by_terra_expression e
selected_by (kept.Piece p) = selected_by_piece p
selected_by _ = []

-- ---- code

-- The children that are read as code: the uses of names, and all that is no name.
abbrev pub code_in_expression : of_expressions.Expression → List NodeId
code_in_expression (expressions.Function body) = body ∷ []
code_in_expression (expressions.Table fields) = fields
code_in_expression (expressions.Binary op a b) = a ∷ b ∷ []
code_in_expression (expressions.Unary op a) = a ∷ []
code_in_expression (expressions.Paren a) = a ∷ []
code_in_expression (expressions.Index a key) = a ∷ key ∷ []
code_in_expression (expressions.Select a name) = a ∷ []
code_in_expression (expressions.Call a arguments) = a ∷ arguments
code_in_expression (expressions.Method a name arguments) = a ∷ arguments
code_in_expression (expressions.Terra body) = body ∷ []
code_in_expression (expressions.Struct entries) = entries
code_in_expression (expressions.Quote quoted) = quoted ∷ []
code_in_expression (expressions.Backtick e) = e ∷ []
code_in_expression _ = []

abbrev pub code_in_statement : of_statements.Statement → List NodeId
code_in_statement (statements.Assign targets es) = targets ++ es
code_in_statement (statements.Call call) = call ∷ []
code_in_statement (statements.Do block) = block ∷ []
code_in_statement (statements.While e block) = e ∷ block ∷ []
code_in_statement (statements.Repeat block e) = block ∷ e ∷ []
code_in_statement (statements.If arms otherwise) = arms ++ option_to_list otherwise
code_in_statement (statements.NumericFor name a b step block) = a ∷ b ∷ (option_to_list step ++ block ∷ [])
code_in_statement (statements.GenericFor names es block) = es ++ block ∷ []
code_in_statement (statements.Function path body) = path ∷ body ∷ []
code_in_statement (statements.LocalFunction name body) = body ∷ []
code_in_statement (statements.Local names es) = es
code_in_statement (statements.Terra path body) = path ∷ body ∷ []
code_in_statement (statements.DeclareTerra path e) = path ∷ e ∷ []
code_in_statement (statements.LocalTerra word name body) = body ∷ []
code_in_statement (statements.LocalDeclareTerra word name e) = e ∷ []
code_in_statement (statements.Struct path entries) = path ∷ entries
code_in_statement (statements.LocalStruct word name entries) = entries
code_in_statement (statements.Emit e) = e ∷ []
code_in_statement (statements.Return es) = es
code_in_statement statements.Break = []

abbrev pub code_in_terra_expression : of_terra_expressions.TerraExpression → List NodeId
code_in_terra_expression (terra_expressions.Binary op a b) = a ∷ b ∷ []
code_in_terra_expression (terra_expressions.Unary op a) = a ∷ []
code_in_terra_expression (terra_expressions.Paren a) = a ∷ []
code_in_terra_expression (terra_expressions.Escape e) = e ∷ []
code_in_terra_expression (terra_expressions.Index a key) = a ∷ key ∷ []
code_in_terra_expression (terra_expressions.Select a name) = a ∷ []
code_in_terra_expression (terra_expressions.Call a arguments) = a ∷ arguments
code_in_terra_expression (terra_expressions.Method a name arguments) = a ∷ arguments
code_in_terra_expression (terra_expressions.Construct a initialisers) = a ∷ initialisers
code_in_terra_expression _ = []

abbrev pub code_in_terra_statement : of_terra_statements.TerraStatement → List NodeId
code_in_terra_statement (terra_statements.Assign targets es) = targets ++ es
code_in_terra_statement (terra_statements.Call call) = call ∷ []
code_in_terra_statement (terra_statements.Splice escape) = escape ∷ []
code_in_terra_statement (terra_statements.Do block) = block ∷ []
code_in_terra_statement (terra_statements.While e block) = e ∷ block ∷ []
code_in_terra_statement (terra_statements.Repeat block e) = block ∷ e ∷ []
code_in_terra_statement (terra_statements.If arms otherwise) = arms ++ option_to_list otherwise
code_in_terra_statement (terra_statements.For name a b step block) = a ∷ b ∷ (option_to_list step ++ block ∷ [])
code_in_terra_statement (terra_statements.Var variables es) = variables ++ es
code_in_terra_statement (terra_statements.Escape block) = block ∷ []
code_in_terra_statement (terra_statements.Return es) = es
code_in_terra_statement terra_statements.Break = []

abbrev pub code_in_piece : of_pieces.Piece → List NodeId
code_in_piece (pieces.Block block) = block
code_in_piece (pieces.Arm e block) = e ∷ block ∷ []
code_in_piece (pieces.Body names variadic block) = block ∷ []
code_in_piece (pieces.Path names method) = take 1 names
code_in_piece (pieces.NamedField name value) = value ∷ []
code_in_piece (pieces.KeyedField key value) = key ∷ value ∷ []
code_in_piece (pieces.Entry name type) = type ∷ []
code_in_piece (pieces.Quoted block value) = block ∷ option_to_list value
code_in_piece (pieces.TerraBody place parameters result block) = parameters ++ (option_to_list result ++ block ∷ [])
code_in_piece (pieces.Parameter place name type) = type ∷ []
code_in_piece (pieces.SpliceParameter place escape) = escape ∷ []
code_in_piece (pieces.Variable place name type) = option_to_list type

abbrev pub code_in : Item → List NodeId
code_in (kept.Expression place e) = code_in_expression e
code_in (kept.Statement place s) = code_in_statement s
code_in (kept.TerraExpression place e) = code_in_terra_expression e
code_in (kept.TerraStatement place s) = code_in_terra_statement s
code_in (kept.Piece p) = code_in_piece p
code_in _ = []

-- ---- Lua code in the place of a name

-- Terra code may have an escape where it declares or selects a name: what is in it is code.
abbrev pub is_entry : Item → Type 0
is_entry (kept.Piece (pieces.Entry name type)) = Unit {0}
is_entry _ = ⊥

abbrev pub is_escape : Item → Type 0
is_escape (kept.TerraExpression place (terra_expressions.Escape e)) = Unit {0}
is_escape _ = ⊥

abbrev pub is_arm : Item → Type 0
is_arm (kept.Piece (pieces.Arm e block)) = Unit {0}
is_arm _ = ⊥

-- the entries of a struct are entries, the arms of an `if` are arms, and what is spliced as a statement is an escape
abbrev pub HasKinds : Items → Item → Type 0
HasKinds items (kept.Expression place (expressions.Struct entries)) = All (λ c. is_entry (item_at items c)) entries
HasKinds items (kept.Statement place (statements.Struct path entries)) = All (λ c. is_entry (item_at items c)) entries
HasKinds items (kept.Statement place (statements.LocalStruct word name entries)) =
    All (λ c. is_entry (item_at items c)) entries
HasKinds items (kept.Statement place (statements.If arms otherwise)) = All (λ c. is_arm (item_at items c)) arms
HasKinds items (kept.TerraStatement place (terra_statements.If arms otherwise)) =
    All (λ c. is_arm (item_at items c)) arms
HasKinds items (kept.TerraStatement place (terra_statements.Splice e)) = is_escape (item_at items e)
HasKinds items _ = Unit {0}
