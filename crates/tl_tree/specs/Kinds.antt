-- What may stand where in a tree: each child is of the kind that its parent wants. The trees of texts are so
-- (`laws::well_formed_trees`).
use Rattle.std.specs.Prelude.{◌≡◌, ℕ, Bool, true, false, List, ◌&&◌}
use Rattle.tl_tree.specs.declared.node.UnaryOperator.{UnaryOperator}
use Rattle.tl_tree.specs.declared.node.UnaryOperator.TheVariants as operators
use Rattle.tl_tree.specs.Tree as t
use Rattle.tl_tree.specs.Tree.{Tree}
use Rattle.tl_tree.specs.Texts.{Reads}

-- ---- lists, and what may be left out

-- a list of trees of a kind
abbrev pub are : (Tree → Bool) → Tree → Bool
are kind t.Nothing = true
are kind (t.More before next) = are kind before && kind next
are kind _ = false

-- a tree of a kind, or none
abbrev pub is_if_any : (Tree → Bool) → Tree → Bool
is_if_any kind t.Nothing = true
is_if_any kind (t.Just a) = kind a
is_if_any kind _ = false

-- ---- Lua code

abbrev pub is_name : Tree → Bool
is_name (t.Name place offset text) = true
is_name _ = false

-- a target of an assignment: its last suffix is no call
abbrev pub is_target : Tree → Bool
is_target (t.Name place offset text) = true
is_target (t.Index place a key) = true
is_target (t.Select place a name) = true
is_target _ = false

abbrev pub is_call : Tree → Bool
is_call (t.Call place a arguments) = true
is_call (t.Method place a name arguments) = true
is_call _ = false

abbrev pub is_expression : Tree → Bool
is_expression (t.Name place offset text) = true
is_expression (t.Numeral place text) = true
is_expression (t.Literal place text) = true
is_expression (t.Nil place) = true
is_expression (t.False place) = true
is_expression (t.True place) = true
is_expression (t.Varargs place) = true
is_expression (t.Function place body) = true
is_expression (t.Table place fields) = true
is_expression (t.Binary place op a b) = true
is_expression (t.Unary place op a) = true
is_expression (t.Paren place a) = true
is_expression (t.Index place a key) = true
is_expression (t.Select place a name) = true
is_expression (t.Call place a arguments) = true
is_expression (t.Method place a name arguments) = true
is_expression (t.TerraFunction place body) = true
is_expression (t.Struct place entries) = true
is_expression (t.Quote place quoted) = true
is_expression (t.Backtick place e) = true
is_expression _ = false

-- a field of a table
abbrev pub is_field : Tree → Bool
is_field (t.NamedField name value) = is_name name && is_expression value
is_field (t.KeyedField key value) = is_expression key && is_expression value
is_field a = is_expression a

-- an entry of a struct
abbrev pub is_entry : Tree → Bool
is_entry (t.Entry name type) = is_name name && is_expression type
is_entry _ = false

abbrev pub is_path : Tree → Bool
is_path (t.Path names method) = are is_name names && is_if_any is_name method
is_path _ = false

abbrev pub is_statement : Tree → Bool
is_statement (t.Assign place targets es) = true
is_statement (t.CallStatement place call) = true
is_statement (t.Do place block) = true
is_statement (t.While place e block) = true
is_statement (t.Repeat place block e) = true
is_statement (t.If place arms otherwise) = true
is_statement (t.NumericFor place name a b step block) = true
is_statement (t.GenericFor place names es block) = true
is_statement (t.DefineFunction place path body) = true
is_statement (t.LocalFunction place name body) = true
is_statement (t.Local place names es) = true
is_statement (t.DefineTerra place path body) = true
is_statement (t.DeclareTerra place path e) = true
is_statement (t.LocalTerra place word name body) = true
is_statement (t.LocalDeclareTerra place word name e) = true
is_statement (t.DefineStruct place path entries) = true
is_statement (t.LocalStruct place word name entries) = true
is_statement (t.Emit place e) = true
is_statement (t.Return place es) = true
is_statement (t.Break place) = true
is_statement _ = false

-- a block of Lua statements
abbrev pub is_block : Tree → Bool
is_block (t.Block statements) = are is_statement statements
is_block _ = false

-- a condition and its block
abbrev pub is_arm : Tree → Bool
is_arm (t.Arm e block) = is_expression e && is_block block
is_arm _ = false

-- the parameters and the block of a Lua function
abbrev pub is_body : Tree → Bool
is_body (t.Body names variadic block) = are is_name names && is_block block
is_body _ = false

-- ---- Terra code

abbrev pub is_escape : Tree → Bool
is_escape (t.Escape place e) = true
is_escape _ = false

abbrev pub is_dereference : UnaryOperator → Bool
is_dereference operators.Dereference = true
is_dereference _ = false

-- a name, or Lua code in brackets in its place
abbrev pub is_terra_name : Tree → Bool
is_terra_name (t.Name place offset text) = true
is_terra_name (t.Escape place e) = true
is_terra_name _ = false

abbrev pub is_terra_call : Tree → Bool
is_terra_call (t.TerraCall place a arguments) = true
is_terra_call (t.TerraMethod place a name arguments) = true
is_terra_call _ = false

abbrev pub is_terra_expression : Tree → Bool
is_terra_expression (t.Name place offset text) = true
is_terra_expression (t.Numeral place text) = true
is_terra_expression (t.Literal place text) = true
is_terra_expression (t.TerraNil place) = true
is_terra_expression (t.TerraFalse place) = true
is_terra_expression (t.TerraTrue place) = true
is_terra_expression (t.TerraBinary place op a b) = true
is_terra_expression (t.TerraUnary place op a) = true
is_terra_expression (t.TerraParen place a) = true
is_terra_expression (t.Escape place e) = true
is_terra_expression (t.TerraIndex place a key) = true
is_terra_expression (t.TerraSelect place a name) = true
is_terra_expression (t.TerraCall place a arguments) = true
is_terra_expression (t.TerraMethod place a name arguments) = true
is_terra_expression (t.Construct place a initialisers) = true
is_terra_expression _ = false

-- an expression whose first token is `@`
abbrev pub begins_with_at : Tree → Bool
begins_with_at (t.TerraUnary place op a) = is_dereference op
begins_with_at (t.TerraBinary place op a b) = begins_with_at a
begins_with_at _ = false

-- the first target of an assignment: a name with suffixes, Lua code or an expression in brackets with suffixes, and no
-- call; or an expression that begins with `@`
abbrev pub is_first_target : Tree → Bool
is_first_target (t.Name place offset text) = true
is_first_target (t.Escape place e) = true
is_first_target (t.TerraParen place a) = true
is_first_target (t.TerraIndex place a key) = true
is_first_target (t.TerraSelect place a name) = true
is_first_target (t.Construct place a initialisers) = true
is_first_target a = begins_with_at a

-- the targets of an assignment
abbrev pub are_terra_targets : Tree → Bool
are_terra_targets (t.More t.Nothing first) = is_first_target first
are_terra_targets (t.More before next) = are_terra_targets before && is_terra_expression next
are_terra_targets _ = false

-- an initialiser of a constructor
abbrev pub is_initialiser : Tree → Bool
is_initialiser (t.NamedField name value) = is_name name && is_terra_expression value
is_initialiser a = is_terra_expression a

abbrev pub is_terra_statement : Tree → Bool
is_terra_statement (t.TerraAssign place targets es) = true
is_terra_statement (t.TerraCallStatement place call) = true
is_terra_statement (t.Splice place escape) = true
is_terra_statement (t.TerraDo place block) = true
is_terra_statement (t.TerraWhile place e block) = true
is_terra_statement (t.TerraRepeat place block e) = true
is_terra_statement (t.TerraIf place arms otherwise) = true
is_terra_statement (t.TerraFor place name a b step block) = true
is_terra_statement (t.Var place variables es) = true
is_terra_statement (t.EscapeBlock place block) = true
is_terra_statement (t.TerraReturn place es) = true
is_terra_statement (t.TerraBreak place) = true
is_terra_statement _ = false

-- a block of Terra statements
abbrev pub is_terra_block : Tree → Bool
is_terra_block (t.Block statements) = are is_terra_statement statements
is_terra_block _ = false

abbrev pub is_terra_arm : Tree → Bool
is_terra_arm (t.Arm e block) = is_terra_expression e && is_terra_block block
is_terra_arm _ = false

abbrev pub is_parameter : Tree → Bool
is_parameter (t.Parameter place name type) = true
is_parameter (t.SpliceParameter place escape) = true
is_parameter _ = false

-- a variable of `var`
abbrev pub is_variable : Tree → Bool
is_variable (t.Variable place name type) = true
is_variable _ = false

-- the parameters, the result type and the block of a Terra function
abbrev pub is_terra_body : Tree → Bool
is_terra_body (t.TerraBody place parameters result block) = true
is_terra_body _ = false

-- the block and the expression of a quote
abbrev pub is_quoted : Tree → Bool
is_quoted (t.Quoted block value) = true
is_quoted _ = false

-- ---- children

-- a child is of a kind, and well formed itself
abbrev pub child : (Tree → Bool) → Tree → Type 0 → Type 0
child kind a inside = (kind a ≡ true) × inside

-- Each child is of the kind that its parent wants. What a list, a block, an arm, a body of Lua code, a path, a field
-- and an entry hold is said by the kind of these.
abbrev pub WellFormed : Tree → Type 0
WellFormed (t.More before next) = WellFormed before × WellFormed next
WellFormed (t.Just a) = WellFormed a
-- expressions of Lua code
WellFormed (t.Function place body) = child is_body body (WellFormed body)
WellFormed (t.Table place fields) = child (are is_field) fields (WellFormed fields)
WellFormed (t.Binary place op a b) = child is_expression a (WellFormed a) × child is_expression b (WellFormed b)
WellFormed (t.Unary place op a) = child is_expression a (WellFormed a)
WellFormed (t.Paren place a) = child is_expression a (WellFormed a)
WellFormed (t.Index place a key) = child is_expression a (WellFormed a) × child is_expression key (WellFormed key)
WellFormed (t.Select place a name) = child is_expression a (WellFormed a) × child is_name name (WellFormed name)
WellFormed (t.Call place a es) = child is_expression a (WellFormed a) × child (are is_expression) es (WellFormed es)
WellFormed (t.Method place a name es) =
    child is_expression a (WellFormed a) × child is_name name (WellFormed name)
    × child (are is_expression) es (WellFormed es)
WellFormed (t.TerraFunction place body) = child is_terra_body body (WellFormed body)
WellFormed (t.Struct place entries) = child (are is_entry) entries (WellFormed entries)
WellFormed (t.Quote place quoted) = child is_quoted quoted (WellFormed quoted)
WellFormed (t.Backtick place e) = child is_terra_expression e (WellFormed e)
-- statements of Lua code
WellFormed (t.Assign place targets es) =
    child (are is_target) targets (WellFormed targets) × child (are is_expression) es (WellFormed es)
WellFormed (t.CallStatement place call) = child is_call call (WellFormed call)
WellFormed (t.Do place block) = child is_block block (WellFormed block)
WellFormed (t.While place e block) = child is_expression e (WellFormed e) × child is_block block (WellFormed block)
WellFormed (t.Repeat place block e) = child is_block block (WellFormed block) × child is_expression e (WellFormed e)
WellFormed (t.If place arms otherwise) =
    child (are is_arm) arms (WellFormed arms) × child (is_if_any is_block) otherwise (WellFormed otherwise)
WellFormed (t.NumericFor place name a b step block) =
    child is_name name (WellFormed name) × child is_expression a (WellFormed a) × child is_expression b (WellFormed b)
    × child (is_if_any is_expression) step (WellFormed step) × child is_block block (WellFormed block)
WellFormed (t.GenericFor place names es block) =
    child (are is_name) names (WellFormed names) × child (are is_expression) es (WellFormed es)
    × child is_block block (WellFormed block)
WellFormed (t.DefineFunction place path body) =
    child is_path path (WellFormed path) × child is_body body (WellFormed body)
WellFormed (t.LocalFunction place name body) =
    child is_name name (WellFormed name) × child is_body body (WellFormed body)
WellFormed (t.Local place names es) =
    child (are is_name) names (WellFormed names) × child (are is_expression) es (WellFormed es)
WellFormed (t.DefineTerra place path body) =
    child is_path path (WellFormed path) × child is_terra_body body (WellFormed body)
WellFormed (t.DeclareTerra place path e) = child is_path path (WellFormed path) × child is_expression e (WellFormed e)
WellFormed (t.LocalTerra place word name body) =
    child is_name name (WellFormed name) × child is_terra_body body (WellFormed body)
WellFormed (t.LocalDeclareTerra place word name e) =
    child is_name name (WellFormed name) × child is_expression e (WellFormed e)
WellFormed (t.DefineStruct place path entries) =
    child is_path path (WellFormed path) × child (are is_entry) entries (WellFormed entries)
WellFormed (t.LocalStruct place word name entries) =
    child is_name name (WellFormed name) × child (are is_entry) entries (WellFormed entries)
WellFormed (t.Emit place e) = child is_expression e (WellFormed e)
WellFormed (t.Return place es) = child (are is_expression) es (WellFormed es)
-- expressions of Terra code
WellFormed (t.TerraBinary place op a b) =
    child is_terra_expression a (WellFormed a) × child is_terra_expression b (WellFormed b)
WellFormed (t.TerraUnary place op a) = child is_terra_expression a (WellFormed a)
WellFormed (t.TerraParen place a) = child is_terra_expression a (WellFormed a)
WellFormed (t.Escape place e) = child is_expression e (WellFormed e)
WellFormed (t.TerraIndex place a key) =
    child is_terra_expression a (WellFormed a) × child is_terra_expression key (WellFormed key)
WellFormed (t.TerraSelect place a name) =
    child is_terra_expression a (WellFormed a) × child is_terra_name name (WellFormed name)
WellFormed (t.TerraCall place a es) =
    child is_terra_expression a (WellFormed a) × child (are is_terra_expression) es (WellFormed es)
WellFormed (t.TerraMethod place a name es) =
    child is_terra_expression a (WellFormed a) × child is_terra_name name (WellFormed name)
    × child (are is_terra_expression) es (WellFormed es)
WellFormed (t.Construct place a initialisers) =
    child is_terra_expression a (WellFormed a) × child (are is_initialiser) initialisers (WellFormed initialisers)
-- statements of Terra code
WellFormed (t.TerraAssign place targets es) =
    child are_terra_targets targets (WellFormed targets) × child (are is_terra_expression) es (WellFormed es)
WellFormed (t.TerraCallStatement place call) = child is_terra_call call (WellFormed call)
WellFormed (t.Splice place escape) = child is_escape escape (WellFormed escape)
WellFormed (t.TerraDo place block) = child is_terra_block block (WellFormed block)
WellFormed (t.TerraWhile place e block) =
    child is_terra_expression e (WellFormed e) × child is_terra_block block (WellFormed block)
WellFormed (t.TerraRepeat place block e) =
    child is_terra_block block (WellFormed block) × child is_terra_expression e (WellFormed e)
WellFormed (t.TerraIf place arms otherwise) =
    child (are is_terra_arm) arms (WellFormed arms) × child (is_if_any is_terra_block) otherwise (WellFormed otherwise)
WellFormed (t.TerraFor place name a b step block) =
    child is_terra_name name (WellFormed name) × child is_terra_expression a (WellFormed a)
    × child is_terra_expression b (WellFormed b)
    × child (is_if_any is_terra_expression) step (WellFormed step) × child is_terra_block block (WellFormed block)
WellFormed (t.Var place variables es) =
    child (are is_variable) variables (WellFormed variables) × child (are is_terra_expression) es (WellFormed es)
WellFormed (t.EscapeBlock place block) = child is_block block (WellFormed block)
WellFormed (t.TerraReturn place es) = child (are is_terra_expression) es (WellFormed es)
-- what is within these
WellFormed (t.Block statements) = WellFormed statements
WellFormed (t.Arm e block) = WellFormed e × WellFormed block
WellFormed (t.Body names variadic block) = WellFormed names × WellFormed block
WellFormed (t.Path names method) = WellFormed names × WellFormed method
WellFormed (t.NamedField name value) = WellFormed name × WellFormed value
WellFormed (t.KeyedField key value) = WellFormed key × WellFormed value
WellFormed (t.Entry name type) = WellFormed name × WellFormed type
WellFormed (t.Quoted block value) =
    child is_terra_block block (WellFormed block) × child (is_if_any is_terra_expression) value (WellFormed value)
WellFormed (t.TerraBody place parameters result block) =
    child (are is_parameter) parameters (WellFormed parameters)
    × child (is_if_any is_expression) result (WellFormed result)
    × child is_terra_block block (WellFormed block)
WellFormed (t.Parameter place name type) =
    child is_name name (WellFormed name) × child is_expression type (WellFormed type)
WellFormed (t.SpliceParameter place escape) = child is_escape escape (WellFormed escape)
WellFormed (t.Variable place name type) =
    child is_terra_name name (WellFormed name) × child (is_if_any is_expression) type (WellFormed type)
WellFormed _ = Unit {0}

-- a block of Lua code, in which each child is of the kind that its parent wants
abbrev pub IsWellFormedBlock : Tree → Type 0
IsWellFormedBlock tree = (is_block tree ≡ true) × WellFormed tree

-- The tree of a text is one.
abbrev pub HasWellFormedTrees : List ℕ → Type 0
HasWellFormedTrees text = (tree : Tree) → Reads text tree → IsWellFormedBlock tree
