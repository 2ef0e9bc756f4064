-- Scopes don't depend on what names are: a tree without the texts of its names has the same.
use Rattle.std.specs.Prelude.{◌≡◌, ℕ, zero, suc, ◌+◌, Bool, false, List, [], ◌∷◌, ◌++◌, length, map, flat_map, pred, Option, Some, None}
use Rattle.std.specs.Prelude.{if◌then◌else◌}
use Rattle.std.proofs.Common.{refl, ap, ◌∙◌}
use Rattle.std.proofs.lemmas.List.{length-map}
use Rattle.std.proofs.Math.ListN.{get_or-map}
use Rattle.tl_base.specs.declared.ids.NodeId.{NodeId}
use Rattle.tl_base.specs.declared.place.Place.{Place}
use Rattle.tl_tree.specs.declared.node.Statement as of_statements
use Rattle.tl_tree.specs.declared.node.Statement.TheVariants as statements
use Rattle.tl_tree.specs.declared.node.TerraExpression as of_terra_expressions
use Rattle.tl_tree.specs.declared.node.TerraExpression.TheVariants as terra_expressions
use Rattle.tl_tree.specs.declared.node.TerraStatement as of_terra_statements
use Rattle.tl_tree.specs.declared.node.TerraStatement.TheVariants as terra_statements
use Rattle.tl_tree.specs.declared.node.Piece as of_pieces
use Rattle.tl_tree.specs.declared.node.Piece.TheVariants as pieces
use Rattle.tl_tree.specs.Item.{Item}
use Rattle.tl_tree.specs.Item as kept
use Rattle.tl_tree.specs.Nodes.{item_at, last_of, absent_item}
use Rattle.tl_tree.specs.Code.{Items, statements_of, statements_at, path_names_of, path_method_of, names_method, is_any, if_any}
use Rattle.tl_tree.specs.declared.scope.Scope.{Scope}
use Rattle.tl_tree.specs.Scopes.{Part, Standing, Within, scope_in, standing_of, standing_at_first, within, within_item, within_statement}
use Rattle.tl_tree.specs.Scopes.{within_terra_expression, within_terra_statement, within_piece, within_function, within_terra_function}
use Rattle.tl_tree.specs.Scopes.{path_use, first_only, implicit_self, owner, plain, is_name, if_name, unless_name, bound_by, all_bound_by}
use Rattle.tl_tree.specs.Scopes.{declared_by, declared_at, declarations, sees_itself, in_order, all_in, parts, parts_if_any, give}
use Rattle.tl_tree.specs.Scopes.{give_below}

-- a node without its text
abbrev pub bare : Item → Item
bare (kept.Name place offset text) = kept.Name place 0 []
bare (kept.Numeral place text) = kept.Numeral place []
bare (kept.Literal place text) = kept.Literal place []
bare item = item

abbrev pub all_bare : Items → Items
all_bare items = map bare items

-- what doesn't look at the texts of nodes is the same without them
abbrev IsBlind : {X : Type 0} → (Item → X) → Type 0
IsBlind h =
    ((place : Place) (offset : ℕ) (text : List ℕ) → h (kept.Name place 0 []) ≡ h (kept.Name place offset text))
    × ((place : Place) (text : List ℕ) → h (kept.Numeral place []) ≡ h (kept.Numeral place text))
    × ((place : Place) (text : List ℕ) → h (kept.Literal place []) ≡ h (kept.Literal place text))

blind : {X : Type 0} (h : Item → X) → IsBlind h → (i : Item) → h (bare i) ≡ h i
blind h e (kept.Name place offset text) = e.0 place offset text
blind h e (kept.Numeral place text) = e.1 place text
blind h e (kept.Literal place text) = e.2 place text
blind h e (kept.Expression place x) = refl
blind h e (kept.Statement place x) = refl
blind h e (kept.TerraExpression place x) = refl
blind h e (kept.TerraStatement place x) = refl
blind h e (kept.Piece x) = refl

blind_at : {X : Type 0} (h : Item → X) → IsBlind h → (items : Items) (n : NodeId) → h (item_at (all_bare items) n) ≡ h (item_at items n)
blind_at h e items n = ap h (get_or-map bare items n.0 absent_item) ∙ blind h e (item_at items n)

statements_same : (items : Items) (n : NodeId) → statements_at (all_bare items) n ≡ statements_at items n
statements_same items n = blind_at statements_of (λ p o t. refl, λ p t. refl, λ p t. refl) items n

is_name_same : (items : Items) (n : NodeId) → is_name (item_at (all_bare items) n) ≡ is_name (item_at items n)
is_name_same items n = blind_at is_name (λ p o t. refl, λ p t. refl, λ p t. refl) items n

if_name_same : (items : Items) (n : NodeId) → if_name (all_bare items) n ≡ if_name items n
if_name_same items n = ap (λ b. if b then n ∷ [] else []) (is_name_same items n)

unless_name_same : (items : Items) (n : NodeId) → unless_name (all_bare items) n ≡ unless_name items n
unless_name_same items n = ap (λ b. if b then [] else n ∷ []) (is_name_same items n)

path_use_same : (items : Items) (n : NodeId) → path_use (all_bare items) n ≡ path_use items n
path_use_same items n = ap first_only (blind_at path_names_of (λ p o t. refl, λ p t. refl, λ p t. refl) items n)

names_method_same : (items : Items) (n : NodeId) → names_method (all_bare items) n ≡ names_method items n
names_method_same items n = ap is_any (blind_at path_method_of (λ p o t. refl, λ p t. refl, λ p t. refl) items n)

bound_by_changes : (items : Items) (i : Item) → bound_by (all_bare items) i ≡ bound_by items i
bound_by_changes items (kept.Piece (pieces.Variable place name type)) = if_name_same items name
bound_by_changes items _ = refl

bound_by_same : (items : Items) (n : NodeId) → bound_by (all_bare items) (item_at (all_bare items) n) ≡ bound_by items (item_at items n)
bound_by_same items n =
    blind_at (bound_by (all_bare items)) (λ p o t. refl, λ p t. refl, λ p t. refl) items n ∙ bound_by_changes items (item_at items n)

all_bound_by_same : (items : Items) (ns : List NodeId) → all_bound_by (all_bare items) ns ≡ all_bound_by items ns
all_bound_by_same items [] = refl
all_bound_by_same items (n ∷ ns) =
    ap (λ l. l ++ all_bound_by (all_bare items) ns) (bound_by_same items n) ∙ ap (λ l. bound_by items (item_at items n) ++ l) (all_bound_by_same items ns)

declared_by_changes : (items : Items) (i : Item) → declared_by (all_bare items) i ≡ declared_by items i
declared_by_changes items (kept.TerraStatement place (terra_statements.Var variables es)) = all_bound_by_same items variables
declared_by_changes items _ = refl

declared_same : (items : Items) (n : NodeId) → declared_at (all_bare items) n ≡ declared_at items n
declared_same items n =
    blind_at (declared_by (all_bare items)) (λ p o t. refl, λ p t. refl, λ p t. refl) items n ∙ declared_by_changes items (item_at items n)

sees_same : (items : Items) (n : NodeId) → sees_itself (item_at (all_bare items) n) ≡ sees_itself (item_at items n)
sees_same items n = blind_at sees_itself (λ p o t. refl, λ p t. refl, λ p t. refl) items n

-- ---- what is within a node

function_changes : (items : Items) (n : NodeId) (around : List NodeId) (method : Bool) (i : Item)
    → within_function (all_bare items) n around method i ≡ within_function items n around method i
function_changes items n around method (kept.Piece (pieces.Body names variadic block)) =
    ap (λ l. owner around (implicit_self method n ++ names) l []) (statements_same items block)
function_changes items n around method _ = refl

terra_function_changes : (items : Items) (n : NodeId) (around : List NodeId) (method : Bool) (i : Item)
    → within_terra_function (all_bare items) n around method i ≡ within_terra_function items n around method i
terra_function_changes items n around method (kept.Piece (pieces.TerraBody place parameters result block)) =
    ap (λ l. owner (around ++ parameters ++ if_any result) (implicit_self method n ++ l) (statements_at (all_bare items) block) []) (all_bound_by_same items parameters)
    ∙ ap (λ l. owner (around ++ parameters ++ if_any result) (implicit_self method n ++ all_bound_by items parameters) l []) (statements_same items block)
terra_function_changes items n around method _ = refl

terra_function_same : (items : Items) (n : NodeId) (around : List NodeId) (method : Bool) (body : NodeId)
    → within_terra_function (all_bare items) n around method (item_at (all_bare items) body) ≡ within_terra_function items n around method (item_at items body)
terra_function_same items n around method body =
    blind_at (within_terra_function (all_bare items) n around method) (λ p o t. refl, λ p t. refl, λ p t. refl) items body
    ∙ terra_function_changes items n around method (item_at items body)

function_same : (items : Items) (n : NodeId) (around : List NodeId) (method : Bool) (body : NodeId)
    → within_function (all_bare items) n around method (item_at (all_bare items) body) ≡ within_function items n around method (item_at items body)
function_same items n around method body =
    blind_at (within_function (all_bare items) n around method) (λ p o t. refl, λ p t. refl, λ p t. refl) items body
    ∙ function_changes items n around method (item_at items body)

statement_same : (items : Items) (n : NodeId) (s : of_statements.Statement) → within_statement (all_bare items) n s ≡ within_statement items n s
statement_same items n (statements.Repeat block condition) = ap (λ l. owner [] [] l (condition ∷ [])) (statements_same items block)
statement_same items n (statements.NumericFor name first limit step block) =
    ap (λ l. owner (first ∷ limit ∷ if_any step) (name ∷ []) l []) (statements_same items block)
statement_same items n (statements.GenericFor names es block) = ap (λ l. owner es names l []) (statements_same items block)
statement_same items n (statements.Function path body) =
    ap (λ l. within_function (all_bare items) n l (names_method (all_bare items) path) (item_at (all_bare items) body)) (path_use_same items path)
    ∙ ap (λ m. within_function (all_bare items) n (path_use items path) m (item_at (all_bare items) body)) (names_method_same items path)
    ∙ function_same items n (path_use items path) (names_method items path) body
statement_same items n (statements.Terra path body) =
    ap (λ l. within_terra_function (all_bare items) n l (names_method (all_bare items) path) (item_at (all_bare items) body)) (path_use_same items path)
    ∙ ap (λ m. within_terra_function (all_bare items) n (path_use items path) m (item_at (all_bare items) body)) (names_method_same items path)
    ∙ terra_function_same items n (path_use items path) (names_method items path) body
statement_same items n (statements.DeclareTerra path type) = ap (λ l. plain (l ++ type ∷ [])) (path_use_same items path)
statement_same items n (statements.Struct path entries) = ap (λ l. plain (l ++ entries)) (path_use_same items path)
statement_same items n _ = refl

terra_expression_same : (items : Items) (e : of_terra_expressions.TerraExpression) → within_terra_expression (all_bare items) e ≡ within_terra_expression items e
terra_expression_same items (terra_expressions.Select a name) = ap (λ l. plain (a ∷ l)) (unless_name_same items name)
terra_expression_same items (terra_expressions.Method a name arguments) = ap (λ l. plain (a ∷ l ++ arguments)) (unless_name_same items name)
terra_expression_same items _ = refl

terra_statement_same : (items : Items) (s : of_terra_statements.TerraStatement) → within_terra_statement (all_bare items) s ≡ within_terra_statement items s
terra_statement_same items (terra_statements.Repeat block condition) = ap (λ l. owner [] [] l (condition ∷ [])) (statements_same items block)
terra_statement_same items (terra_statements.For name first limit step block) =
    ap (λ l. owner (l ++ first ∷ limit ∷ if_any step) (if_name (all_bare items) name) (statements_at (all_bare items) block) []) (unless_name_same items name)
    ∙ ap (λ l. owner (unless_name items name ++ first ∷ limit ∷ if_any step) l (statements_at (all_bare items) block) []) (if_name_same items name)
    ∙ ap (λ l. owner (unless_name items name ++ first ∷ limit ∷ if_any step) (if_name items name) l []) (statements_same items block)
terra_statement_same items _ = refl

piece_same : (items : Items) (n : NodeId) (p : of_pieces.Piece) → within_piece (all_bare items) n p ≡ within_piece items n p
piece_same items n (pieces.Body names variadic block) =
    function_changes items n [] false (kept.Piece (pieces.Body names variadic block))
piece_same items n (pieces.Quoted block e) = ap (λ l. owner [] [] l (if_any e)) (statements_same items block)
piece_same items n (pieces.TerraBody place parameters result block) =
    terra_function_changes items n [] false (kept.Piece (pieces.TerraBody place parameters result block))
piece_same items n (pieces.Variable place name type) = ap (λ l. plain (l ++ if_any type)) (unless_name_same items name)
piece_same items n _ = refl

item_same : (items : Items) (n : NodeId) (i : Item) → within_item (all_bare items) n i ≡ within_item items n i
item_same items n (kept.Statement place s) = statement_same items n s
item_same items n (kept.TerraExpression place e) = terra_expression_same items e
item_same items n (kept.TerraStatement place s) = terra_statement_same items s
item_same items n (kept.Piece p) = piece_same items n p
item_same items n _ = refl

within_same : (items : Items) (n : NodeId) → within (all_bare items) n ≡ within items n
within_same items n =
    blind_at (within_item (all_bare items) n) (λ p o t. refl, λ p t. refl, λ p t. refl) items n ∙ item_same items n (item_at items n)

-- ---- scopes

all_declared_same : (items : Items) (ns : List NodeId) → flat_map (declared_at (all_bare items)) ns ≡ flat_map (declared_at items) ns
all_declared_same items [] = refl
all_declared_same items (n ∷ ns) =
    ap (λ l. l ++ flat_map (declared_at (all_bare items)) ns) (declared_same items n) ∙ ap (λ l. declared_at items n ++ l) (all_declared_same items ns)

pub declarations_same : (items : Items) (n : NodeId) → declarations (all_bare items) n ≡ declarations items n
declarations_same items n =
    ap (λ w. w.names ++ flat_map (declared_at (all_bare items)) w.statements) (within_same items n)
    ∙ ap (λ l. (within items n).names ++ l) (all_declared_same items (within items n).statements)

abbrev ordered : NodeId → NodeId → Bool → ℕ → List NodeId → List Part → List Part
ordered owner n sees count declared rest =
    record { node = n; scope = record { owner = owner; count = if sees then count + length declared else count } } ∷ rest

in_order_same : (items : Items) (owner : NodeId) (count : ℕ) (ns : List NodeId) → in_order (all_bare items) owner count ns ≡ in_order items owner count ns
in_order_same items owner count [] = refl
in_order_same items owner count (n ∷ ns) =
    ap (λ d. ordered owner n (sees_itself (item_at (all_bare items) n)) count d (in_order (all_bare items) owner (count + length d) ns)) (declared_same items n)
    ∙ ap (λ b. ordered owner n b count (declared_at items n) (in_order (all_bare items) owner (count + length (declared_at items n)) ns)) (sees_same items n)
    ∙ ap (λ l. ordered owner n (sees_itself (item_at items n)) count (declared_at items n) l) (in_order_same items owner (count + length (declared_at items n)) ns)

abbrev parts_by : Items → NodeId → Scope → Within → ℕ → List Part
parts_by items n scope w all = all_in scope w.around ++ in_order items n (length w.names) w.statements ++ all_in (record { owner = n; count = all }) w.behind

parts_same : (items : Items) (n : NodeId) (scope : Scope) → parts (all_bare items) n scope ≡ parts items n scope
parts_same items n scope =
    ap (λ w. parts_by (all_bare items) n scope w (length (declarations (all_bare items) n))) (within_same items n)
    ∙ ap (λ d. parts_by (all_bare items) n scope (within items n) (length d)) (declarations_same items n)
    ∙ ap (λ l. all_in scope (within items n).around ++ l ++ all_in (record { owner = n; count = length (declarations items n) }) (within items n).behind)
    (in_order_same items n (length (within items n).names) (within items n).statements)

parts_if_any_same : (items : Items) (n : NodeId) (scope : Option Scope) → parts_if_any (all_bare items) n scope ≡ parts_if_any items n scope
parts_if_any_same items n None = refl
parts_if_any_same items n (Some scope) = parts_same items n scope

give_below_same : (items : Items) (k : ℕ) (standing : Standing) → give_below (all_bare items) k standing ≡ give_below items k standing
give_below_same items zero standing = refl
give_below_same items (suc k) standing =
    ap (λ l. give_below (all_bare items) k (give k standing l)) (parts_if_any_same items (record { 0 = k }) (scope_in standing k))
    ∙ give_below_same items k (give k standing (parts_if_any items (record { 0 = k }) (scope_in standing k)))

last_same : (items : Items) → last_of (all_bare items) ≡ last_of items
last_same items = ap (λ k. record { 0 = pred k }) (length-map items bare)

pub standing_same : (items : Items) → standing_of (all_bare items) ≡ standing_of items
standing_same items =
    ap (λ root. give_below (all_bare items) (suc root.0) (standing_at_first root)) (last_same items)
    ∙ give_below_same items (suc (last_of items).0) (standing_at_first (last_of items))
