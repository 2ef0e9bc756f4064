-- Which declaration a use of a local name refers to, by the text alone (Lua 5.1 manual, section 2.6).
--
-- Declarations have owners: a block with the statements in it; a function, with its parameters and an implicit `self`
-- before them; a `for`, with its variables; a `repeat`, whose condition sees what its block declares; a quote, whose
-- expression behind `in` sees it too; and each of these of Terra code. Parameters and variables are declared before
-- what the block of their owner declares.
--
-- A local's scope begins after its statement; a `local function`, `local terra` or `local struct` sees itself. A
-- parameter's scope is its function's block alone, so the types of parameters and the result type of a Terra function
-- don't see it.
use Rattle.std.specs.Prelude.{ℕ, zero, suc, ◌+◌, Bool, true, false, List, [], ◌∷◌, ◌++◌, length, take, map, flat_map}
use Rattle.std.specs.Prelude.{replicate, codes}
use Rattle.std.specs.Prelude.{bytes_eq, nat_lt, slice_set, slice_index_or, Option, Some, None, if◌then◌else◌}
use Rattle.tl_base.specs.declared.ids.NodeId.{NodeId}
use Rattle.tl_tree.specs.declared.node.Expression as of_expressions
use Rattle.tl_tree.specs.declared.node.Expression.TheVariants as expressions
use Rattle.tl_tree.specs.declared.node.Statement as of_statements
use Rattle.tl_tree.specs.declared.node.Statement.TheVariants as statements
use Rattle.tl_tree.specs.declared.node.TerraExpression as of_terra_expressions
use Rattle.tl_tree.specs.declared.node.TerraExpression.TheVariants as terra_expressions
use Rattle.tl_tree.specs.declared.node.TerraStatement as of_terra_statements
use Rattle.tl_tree.specs.declared.node.TerraStatement.TheVariants as terra_statements
use Rattle.tl_tree.specs.declared.node.Piece as of_pieces
use Rattle.tl_tree.specs.declared.node.Piece.TheVariants as pieces
use Rattle.tl_tree.specs.declared.scope.Scope.{Scope}
use Rattle.tl_tree.specs.declared.scope.Binder.{Binder}
use Rattle.tl_tree.specs.Item.{Item}
use Rattle.tl_tree.specs.Item as kept
use Rattle.tl_tree.specs.Nodes.{item_at, last_of}
use Rattle.tl_tree.specs.Code.{Items, statements_at, path_names_at, names_method, if_any}

-- ---- what a node declares

-- A declaration is told by the node that makes it: the name that is declared, or for an implicit `self` the function.
abbrev pub declared_name : Item → List ℕ
declared_name (kept.Name place offset text) = text
declared_name _ = codes "self"

abbrev pub is_name : Item → Bool
is_name (kept.Name place offset text) = true
is_name _ = false

-- Where Terra code declares a name, Lua code in `[` and `]` may stand, which declares none in the text.
abbrev pub if_name : Items → NodeId → List NodeId
if_name items n = if is_name (item_at items n) then n ∷ [] else []

abbrev pub unless_name : Items → NodeId → List NodeId
unless_name items n = if is_name (item_at items n) then [] else n ∷ []

-- the name of a Terra function's parameter, and of a variable that `var` declares
abbrev pub bound_by : Items → Item → List NodeId
bound_by items (kept.Piece (pieces.Parameter place name type)) = name ∷ []
bound_by items (kept.Piece (pieces.Variable place name type)) = if_name items name
bound_by items _ = []

abbrev pub all_bound_by : Items → List NodeId → List NodeId
all_bound_by items ns = flat_map (λ n. bound_by items (item_at items n)) ns

-- the names that a statement declares in the block in which it stands
abbrev pub declared_by : Items → Item → List NodeId
declared_by items (kept.Statement place (statements.Local names es)) = names
declared_by items (kept.Statement place (statements.LocalFunction name body)) = name ∷ []
declared_by items (kept.Statement place (statements.LocalTerra word name body)) = name ∷ []
declared_by items (kept.Statement place (statements.LocalDeclareTerra word name type)) = name ∷ []
declared_by items (kept.Statement place (statements.LocalStruct word name entries)) = name ∷ []
declared_by items (kept.TerraStatement place (terra_statements.Var variables es)) = all_bound_by items variables
declared_by items _ = []

abbrev pub declared_at : Items → NodeId → List NodeId
declared_at items n = declared_by items (item_at items n)

-- a statement in the scope of what it declares itself
abbrev pub sees_itself : Item → Bool
sees_itself (kept.Statement place (statements.LocalFunction name body)) = true
sees_itself (kept.Statement place (statements.LocalTerra word name body)) = true
sees_itself (kept.Statement place (statements.LocalDeclareTerra word name type)) = true
sees_itself (kept.Statement place (statements.LocalStruct word name entries)) = true
sees_itself _ = false

-- ---- what is within a node

-- The nodes within a node: those that stand where it stands itself; the names that it declares; the statements of the
-- block that is the scope of these names; and those behind the block that see all that is declared in it.
pub record Within : Type 0 where
  pub around : List NodeId
  pub names : List NodeId
  pub statements : List NodeId
  pub behind : List NodeId

-- no owner of declarations
abbrev pub plain : List NodeId → Within
plain ns = record { around = ns; names = []; statements = []; behind = [] }

abbrev pub owner : List NodeId → List NodeId → List NodeId → List NodeId → Within
owner around names statements behind =
    record { around = around; names = names; statements = statements; behind = behind }

-- the first name of a path, which is used, while the others are selected
abbrev pub first_only : List NodeId → List NodeId
first_only [] = []
first_only (n ∷ ns) = n ∷ []

abbrev pub path_use : Items → NodeId → List NodeId
path_use items path = first_only (path_names_at items path)

-- the function of a node declares a `self` of its own before its parameters
abbrev pub implicit_self : Bool → NodeId → List NodeId
implicit_self true n = n ∷ []
implicit_self false n = []

abbrev pub within_function : Items → NodeId → List NodeId → Bool → Item → Within
within_function items n around method (kept.Piece (pieces.Body names variadic block)) =
    owner around (implicit_self method n ++ names) (statements_at items block) []
within_function items n around method _ = plain around

abbrev pub within_terra_function : Items → NodeId → List NodeId → Bool → Item → Within
within_terra_function items n around method (kept.Piece (pieces.TerraBody place parameters result block)) =
    owner (around ++ parameters ++ if_any result) (implicit_self method n ++ all_bound_by items parameters)
    (statements_at items block) []
within_terra_function items n around method _ = plain around

abbrev pub within_expression : of_expressions.Expression → Within
within_expression (expressions.Function body) = plain (body ∷ [])
within_expression (expressions.Table fields) = plain fields
within_expression (expressions.Binary op a b) = plain (a ∷ b ∷ [])
within_expression (expressions.Unary op a) = plain (a ∷ [])
within_expression (expressions.Paren a) = plain (a ∷ [])
within_expression (expressions.Index a key) = plain (a ∷ key ∷ [])
within_expression (expressions.Select a name) = plain (a ∷ [])
within_expression (expressions.Call f arguments) = plain (f ∷ arguments)
within_expression (expressions.Method a name arguments) = plain (a ∷ arguments)
within_expression (expressions.Terra body) = plain (body ∷ [])
within_expression (expressions.Struct entries) = plain entries
within_expression (expressions.Quote quoted) = plain (quoted ∷ [])
within_expression (expressions.Backtick e) = plain (e ∷ [])
within_expression _ = plain []

abbrev pub within_statement : Items → NodeId → of_statements.Statement → Within
within_statement items n (statements.Assign targets es) = plain (targets ++ es)
within_statement items n (statements.Call e) = plain (e ∷ [])
within_statement items n (statements.Do block) = plain (block ∷ [])
within_statement items n (statements.While condition block) = plain (condition ∷ block ∷ [])
within_statement items n (statements.Repeat block condition) = owner [] [] (statements_at items block) (condition ∷ [])
within_statement items n (statements.If arms otherwise) = plain (arms ++ if_any otherwise)
within_statement items n (statements.NumericFor name first limit step block) =
    owner (first ∷ limit ∷ if_any step) (name ∷ []) (statements_at items block) []
within_statement items n (statements.GenericFor names es block) = owner es names (statements_at items block) []
within_statement items n (statements.Function path body) =
    within_function items n (path_use items path) (names_method items path) (item_at items body)
within_statement items n (statements.LocalFunction name body) = plain (body ∷ [])
within_statement items n (statements.Local names es) = plain es
within_statement items n (statements.Terra path body) =
    within_terra_function items n (path_use items path) (names_method items path) (item_at items body)
within_statement items n (statements.DeclareTerra path type) = plain (path_use items path ++ type ∷ [])
within_statement items n (statements.LocalTerra word name body) = plain (body ∷ [])
within_statement items n (statements.LocalDeclareTerra word name type) = plain (type ∷ [])
within_statement items n (statements.Struct path entries) = plain (path_use items path ++ entries)
within_statement items n (statements.LocalStruct word name entries) = plain entries
within_statement items n (statements.Emit e) = plain (e ∷ [])
within_statement items n (statements.Return es) = plain es
within_statement items n statements.Break = plain []

abbrev pub within_terra_expression : Items → of_terra_expressions.TerraExpression → Within
within_terra_expression items (terra_expressions.Binary op a b) = plain (a ∷ b ∷ [])
within_terra_expression items (terra_expressions.Unary op a) = plain (a ∷ [])
within_terra_expression items (terra_expressions.Paren a) = plain (a ∷ [])
within_terra_expression items (terra_expressions.Escape e) = plain (e ∷ [])
within_terra_expression items (terra_expressions.Index a key) = plain (a ∷ key ∷ [])
within_terra_expression items (terra_expressions.Select a name) = plain (a ∷ unless_name items name)
within_terra_expression items (terra_expressions.Call f arguments) = plain (f ∷ arguments)
within_terra_expression items (terra_expressions.Method a name arguments) =
    plain (a ∷ unless_name items name ++ arguments)
within_terra_expression items (terra_expressions.Construct type initialisers) = plain (type ∷ initialisers)
within_terra_expression items _ = plain []

abbrev pub within_terra_statement : Items → of_terra_statements.TerraStatement → Within
within_terra_statement items (terra_statements.Assign targets es) = plain (targets ++ es)
within_terra_statement items (terra_statements.Call e) = plain (e ∷ [])
within_terra_statement items (terra_statements.Splice e) = plain (e ∷ [])
within_terra_statement items (terra_statements.Do block) = plain (block ∷ [])
within_terra_statement items (terra_statements.While condition block) = plain (condition ∷ block ∷ [])
within_terra_statement items (terra_statements.Repeat block condition) =
    owner [] [] (statements_at items block) (condition ∷ [])
within_terra_statement items (terra_statements.If arms otherwise) = plain (arms ++ if_any otherwise)
within_terra_statement items (terra_statements.For name first limit step block) =
    owner (unless_name items name ++ first ∷ limit ∷ if_any step) (if_name items name) (statements_at items block) []
within_terra_statement items (terra_statements.Var variables es) = plain (variables ++ es)
within_terra_statement items (terra_statements.Escape block) = plain (block ∷ [])
within_terra_statement items (terra_statements.Return es) = plain es
within_terra_statement items terra_statements.Break = plain []

abbrev pub within_piece : Items → NodeId → of_pieces.Piece → Within
within_piece items n (pieces.Block ns) = owner [] [] ns []
within_piece items n (pieces.Arm condition block) = plain (condition ∷ block ∷ [])
within_piece items n (pieces.Body names variadic block) =
    within_function items n [] false (kept.Piece (pieces.Body names variadic block))
within_piece items n (pieces.Path names method) = plain []
within_piece items n (pieces.NamedField name value) = plain (value ∷ [])
within_piece items n (pieces.KeyedField key value) = plain (key ∷ value ∷ [])
within_piece items n (pieces.Entry name type) = plain (type ∷ [])
within_piece items n (pieces.Quoted block e) = owner [] [] (statements_at items block) (if_any e)
within_piece items n (pieces.TerraBody place parameters result block) =
    within_terra_function items n [] false (kept.Piece (pieces.TerraBody place parameters result block))
within_piece items n (pieces.Parameter place name type) = plain (type ∷ [])
within_piece items n (pieces.SpliceParameter place e) = plain (e ∷ [])
within_piece items n (pieces.Variable place name type) = plain (unless_name items name ++ if_any type)

abbrev pub within_item : Items → NodeId → Item → Within
within_item items n (kept.Expression place e) = within_expression e
within_item items n (kept.Statement place s) = within_statement items n s
within_item items n (kept.TerraExpression place e) = within_terra_expression items e
within_item items n (kept.TerraStatement place s) = within_terra_statement items s
within_item items n (kept.Piece p) = within_piece items n p
within_item items n _ = plain []

abbrev pub within : Items → NodeId → Within
within items n = within_item items n (item_at items n)

abbrev pub all_declared : Items → Within → List NodeId
all_declared items w = w.names ++ flat_map (declared_at items) w.statements

-- all that a node declares, in order of the text; a node that is no owner declares nothing
abbrev pub declarations : Items → NodeId → List NodeId
declarations items n = all_declared items (within items n)

-- ---- where a node stands

-- A node, and where it stands: the innermost owner around it, and how many of this owner's declarations are in scope.
-- Around the owner those are in scope that are where the owner stands.
pub record Part : Type 0 where
  pub node : NodeId
  pub scope : Scope

abbrev pub all_in : Scope → List NodeId → List Part
all_in scope ns = map (λ n. record { node = n; scope = scope }) ns

-- The statements of an owner that has declared so many names before them. Each is in the scope of what those before it
-- declare.
abbrev pub in_order : Items → NodeId → ℕ → List NodeId → List Part
in_order items owner count [] = []
in_order items owner count (n ∷ ns) =
    let after = count + length (declared_at items n) in
    let seen = if sees_itself (item_at items n) then after else count in
    record { node = n; scope = record { owner = owner; count = seen } } ∷ in_order items owner after ns

-- what is within a node that stands there, each with where it stands
abbrev pub parts_of : Items → NodeId → Scope → Within → List Part
parts_of items n scope w =
    all_in scope w.around
    ++ in_order items n (length w.names) w.statements
    ++ all_in (record { owner = n; count = length (all_declared items w) }) w.behind

abbrev pub parts : Items → NodeId → Scope → List Part
parts items n scope = parts_of items n scope (within items n)

-- of each node where it stands, as far as it is known
abbrev pub Standing : Type 0
Standing = List (Option Scope)

abbrev pub scope_in : Standing → ℕ → Option Scope
scope_in standing n = slice_index_or standing n None

-- nodes below a number are given where they stand
abbrev pub give : ℕ → Standing → List Part → Standing
give limit standing [] = standing
give limit standing (part ∷ parts) =
    give limit (if nat_lt part.node.0 limit then slice_set standing part.node.0 (Some part.scope) else standing) parts

abbrev pub parts_if_any : Items → NodeId → Option Scope → List Part
parts_if_any items n None = []
parts_if_any items n (Some scope) = parts items n scope

-- The nodes below a number, from the last to the first, give their parts where these stand. A part has a smaller number
-- than the node that it is in, so each node has been given its own before.
abbrev pub give_below : Items → ℕ → Standing → Standing
give_below items zero standing = standing
give_below items (suc k) standing =
    give_below items k (give k standing (parts_if_any items (record { 0 = k }) (scope_in standing k)))

-- Around the chunk's block there is no owner.
abbrev pub outermost : NodeId → Scope
outermost root = record { owner = record { 0 = suc root.0 }; count = 0 }

-- Where the root stands, and none of the others yet.
abbrev pub standing_at_first : NodeId → Standing
standing_at_first root = slice_set (replicate (suc root.0) None) root.0 (Some (outermost root))

-- Where each node stands. Names that are declared or selected stand nowhere, nor does a block that is part of a larger
-- owner.
abbrev pub standing_of : Items → Standing
standing_of items = let root = last_of items in give_below items (suc root.0) (standing_at_first root)

abbrev pub scope_at : Items → NodeId → Option Scope
scope_at items n = scope_in (standing_of items) n.0

-- ---- looking a name up

-- What a use finds: how many owners to go outwards, the position among the declarations there, and the node that
-- declares.
abbrev pub Found : Type 0
Found = Binder

abbrev pub or_found : Option Found → Option Found → Option Found
or_found (Some found) other = Some found
or_found None other = other

-- the last of an owner's declarations that is one of those asked for, where they stand at a position and behind it
abbrev pub last_found : (NodeId → Bool) → ℕ → ℕ → List NodeId → Option Found
last_found asked depth at [] = None
last_found asked depth at (d ∷ ds) =
    or_found (last_found asked depth (at + 1) ds)
    (if asked d then Some (record { depth = depth; position = at; declaration = d }) else None)

-- the declarations of the innermost owner that are in scope
abbrev pub declared_in : Items → Scope → List NodeId
declared_in items scope = take scope.count (declarations items scope.owner)

-- The last of the declarations in scope that is one of those asked for; where there is none, the owner around is asked.
-- There are no more owners than nodes.
abbrev pub found_from : ℕ → Items → Standing → (NodeId → Bool) → ℕ → Option Scope → Option Found
found_from zero items standing asked depth scope = None
found_from (suc owners) items standing asked depth None = None
found_from (suc owners) items standing asked depth (Some scope) =
    or_found (last_found asked depth 0 (declared_in items scope))
    (found_from owners items standing asked (depth + 1) (scope_in standing scope.owner.0))

-- the declaration is one of this name
abbrev pub has_name : Items → List ℕ → NodeId → Bool
has_name items name d = bytes_eq (declared_name (item_at items d)) name

abbrev pub found_for : Items → Standing → Item → Option Scope → Option Found
found_for items standing (kept.Name place offset text) scope =
    found_from (length standing) items standing (has_name items text) 0 scope
found_for items standing _ scope = None

-- Where the use of a local finds its declaration. There is none for the use of a global, and for a node that is no use
-- of a name.
abbrev pub binder : Items → NodeId → Option Found
binder items n = let standing = standing_of items in found_for items standing (item_at items n) (scope_in standing n.0)
