-- A name that a node declares is the child of a node that declares names, at a place for them.
use Rattle.std.specs.Prelude.{Bool, true, false, flat_map, if◌then◌else◌}
use Rattle.std.specs.List.{AllByRecursion}
use Rattle.std.proofs.Common.{◌≡◌, List, [], ◌∷◌, ◌++◌, refl, ap}
use Rattle.tl_base.specs.declared.ids.NodeId.{NodeId}
use Rattle.tl_tree.specs.declared.node.Expression as of_expressions
use Rattle.tl_tree.specs.declared.node.Expression.TheVariants as expressions
use Rattle.tl_tree.specs.declared.node.Statement.TheVariants as statements
use Rattle.tl_tree.specs.declared.node.TerraExpression as of_terra_expressions
use Rattle.tl_tree.specs.declared.node.TerraExpression.TheVariants as terra_expressions
use Rattle.tl_tree.specs.declared.node.TerraStatement.TheVariants as terra_statements
use Rattle.tl_tree.specs.declared.node.Piece.TheVariants as pieces
use Rattle.tl_tree.specs.Item.{Item}
use Rattle.tl_tree.specs.Item as kept
use Rattle.tl_tree.specs.Nodes.{item_at}
use Rattle.tl_tree.specs.Code.{Items, names_method}
use Rattle.tl_tree.specs.Scopes.{is_name, bound_by, all_bound_by, declared_by, declared_at, implicit_self, within_function}
use Rattle.tl_tree.specs.Scopes.{within_terra_function, within_expression, within_terra_expression, within_item, within}
use Rattle.tl_tree.specs.Scopes.{declarations, path_use}
use Rattle.tl_alike.proofs.OneRole.{declares}
use Rattle.tl_alike.proofs.Each.{each_append, IsNameWith, role_of, no_name}

abbrev IsDeclared : Items → NodeId → Type 0
IsDeclared items c = IsNameWith items declares c

abbrev AllDeclared : Items → List NodeId → Type 0
AllDeclared items ns = AllByRecursion (IsDeclared items) ns

both : (items : Items) (ns ms : List NodeId) → AllDeclared items ns → AllDeclared items ms → AllDeclared items (ns ++ ms)
both items ns ms h k = each_append (IsDeclared items) ns ms h k

-- ---- what a piece or a statement declares

if_name_by : (items : Items) (n : NodeId) → IsDeclared items n → (b : Bool) → AllDeclared items (if b then n ∷ [] else [])
if_name_by items n h true = (h, tt)
if_name_by items n h false = tt

bound : (items : Items) (n : NodeId) (i : Item) → item_at items n ≡ i → AllDeclared items (bound_by items i)
bound items n (kept.Piece (pieces.Parameter place name type)) e = role_of items declares n _ e
bound items n (kept.Piece (pieces.Variable place name type)) e =
    if_name_by items name (role_of items declares n _ e).0 (is_name (item_at items name))
bound items n _ e = tt

all_bound : (items : Items) (ns : List NodeId) → AllDeclared items (all_bound_by items ns)
all_bound items [] = tt
all_bound items (n ∷ ns) =
    both items (bound_by items (item_at items n)) (all_bound_by items ns) (bound items n (item_at items n) refl) (all_bound items ns)

declared : (items : Items) (n : NodeId) (i : Item) → item_at items n ≡ i → AllDeclared items (declared_by items i)
declared items n (kept.Statement place (statements.Local names es)) e = role_of items declares n _ e
declared items n (kept.Statement place (statements.LocalFunction name body)) e = role_of items declares n _ e
declared items n (kept.Statement place (statements.LocalTerra word name body)) e = role_of items declares n _ e
declared items n (kept.Statement place (statements.LocalDeclareTerra word name type)) e = role_of items declares n _ e
declared items n (kept.Statement place (statements.LocalStruct word name entries)) e = role_of items declares n _ e
declared items n (kept.TerraStatement place (terra_statements.Var variables es)) e = all_bound items variables
declared items n _ e = tt

all_declared_at : (items : Items) (ns : List NodeId) → AllDeclared items (flat_map (declared_at items) ns)
all_declared_at items [] = tt
all_declared_at items (n ∷ ns) =
    both items (declared_at items n) (flat_map (declared_at items) ns) (declared items n (item_at items n) refl) (all_declared_at items ns)

-- ---- what an owner declares before its block

-- an implicit `self` is told by a node that is no name
self : (items : Items) (n : NodeId) → is_name (item_at items n) ≡ false → (method : Bool) → AllDeclared items (implicit_self method n)
self items n none true = (no_name items declares n none, tt)
self items n none false = tt

function : (items : Items) (n body : NodeId) (around : List NodeId) (method : Bool) → is_name (item_at items n) ≡ false → (i : Item)
    → item_at items body ≡ i → AllDeclared items (within_function items n around method i).names
function items n body around method none (kept.Piece (pieces.Body names variadic block)) e =
    both items (implicit_self method n) names (self items n none method) (role_of items declares body _ e)
function items n body around method none _ e = tt

terra_function : (items : Items) (n body : NodeId) (around : List NodeId) (method : Bool) → is_name (item_at items n) ≡ false → (i : Item)
    → item_at items body ≡ i → AllDeclared items (within_terra_function items n around method i).names
terra_function items n body around method none (kept.Piece (pieces.TerraBody place parameters result block)) e =
    both items (implicit_self method n) (all_bound_by items parameters) (self items n none method) (all_bound items parameters)
terra_function items n body around method none _ e = tt

-- expressions declare nothing
in_expression : (items : Items) (e : of_expressions.Expression) → AllDeclared items (within_expression e).names
in_expression items (expressions.Select a name) = tt
in_expression items _ = tt

in_terra_expression : (items : Items) (e : of_terra_expressions.TerraExpression) → AllDeclared items (within_terra_expression items e).names
in_terra_expression items (terra_expressions.Select a name) = tt
in_terra_expression items _ = tt

names : (items : Items) (n : NodeId) (i : Item) → item_at items n ≡ i → AllDeclared items (within_item items n i).names
names items n (kept.Expression place x) e = in_expression items x
names items n (kept.TerraExpression place x) e = in_terra_expression items x
names items n (kept.Statement place (statements.NumericFor name a b step block)) e = role_of items declares n _ e
names items n (kept.Statement place (statements.GenericFor ns es block)) e = role_of items declares n _ e
names items n (kept.Statement place (statements.Function path body)) e =
    function items n body (path_use items path) (names_method items path) (ap is_name e) (item_at items body) refl
names items n (kept.Statement place (statements.Terra path body)) e =
    terra_function items n body (path_use items path) (names_method items path) (ap is_name e) (item_at items body) refl
names items n (kept.TerraStatement place (terra_statements.For name a b step block)) e =
    if_name_by items name (role_of items declares n _ e).0 (is_name (item_at items name))
names items n (kept.Piece (pieces.Body ns variadic block)) e =
    function items n n [] false (ap is_name e) (kept.Piece (pieces.Body ns variadic block)) e
names items n (kept.Piece (pieces.TerraBody place parameters result block)) e =
    terra_function items n n [] false (ap is_name e) (kept.Piece (pieces.TerraBody place parameters result block)) e
names items n _ e = tt

-- each declaration that is a name
pub all_declarations : (items : Items) (n : NodeId) → AllByRecursion (IsNameWith items declares) (declarations items n)
all_declarations items n =
    both items (within items n).names (flat_map (declared_at items) (within items n).statements)
    (names items n (item_at items n) refl) (all_declared_at items (within items n).statements)
