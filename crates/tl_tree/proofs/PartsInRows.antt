-- What stands within a node is in a row: it is among the node's children, or among those of a child that stands nowhere itself.
use Rattle.std.specs.Prelude.{◌≡◌, ℕ, ◌+◌, Bool, true, false, List, [], ◌∷◌, ◌++◌, length, Option, if◌then◌else◌}
use Rattle.std.specs.Option.{option_to_list}
use Rattle.std.proofs.Common.{refl, sym, ap, subst, ◌∙◌, append_assoc}
use Rattle.std.proofs.lemmas.List.{append-nil}
use Rattle.tl_base.specs.declared.ids.NodeId.{NodeId}
use Rattle.tl_tree.specs.declared.node.Expression as of_expressions
use Rattle.tl_tree.specs.declared.node.Expression.TheVariants as expressions
use Rattle.tl_tree.specs.declared.node.Statement as of_statements
use Rattle.tl_tree.specs.declared.node.Statement.TheVariants as statements
use Rattle.tl_tree.specs.declared.node.TerraExpression as of_terra_expressions
use Rattle.tl_tree.specs.declared.node.TerraExpression.TheVariants as terra_expressions
use Rattle.tl_tree.specs.declared.node.TerraStatement as of_terra_statements
use Rattle.tl_tree.specs.declared.node.TerraStatement.TheVariants as terra_statements
use Rattle.tl_tree.specs.declared.node.Piece as of_pieces
use Rattle.tl_tree.specs.declared.node.Piece.TheVariants as pieces
use Rattle.tl_tree.specs.declared.scope.Scope.{Scope}
use Rattle.tl_tree.specs.Item.{Item}
use Rattle.tl_tree.specs.Item as kept
use Rattle.tl_tree.specs.Nodes.{item_at}
use Rattle.tl_tree.specs.Code.{Items, statements_of, statements_at, path_names_of, names_method, if_any}
use Rattle.tl_tree.specs.Children.{children_of, of_expression, of_statement, of_terra_expression, of_terra_statement, of_piece}
use Rattle.tl_tree.specs.Scopes.{Within, Part, plain, is_name, unless_name, first_only, path_use, within_function, within_terra_function}
use Rattle.tl_tree.specs.Scopes.{within_expression, within_statement, within_terra_expression, within_terra_statement, within_piece}
use Rattle.tl_tree.specs.Scopes.{within_item, within, all_in, in_order, parts, declared_at, declarations}
use Rattle.tl_tree.proofs.Rows.{Row, Thins, none, joined, instead, any}

-- the nodes that stand within a node
abbrev pub standing_in : Within → List NodeId
standing_in w = w.around ++ (w.statements ++ w.behind)

abbrev ThinsTo : Items → List NodeId → Within → Type 0
ThinsTo items ns w = Thins items ns (standing_in w)

same : (items : Items) (ns : List NodeId) → Thins items ns ns
same items ns a b r = r

alone : (items : Items) (ns ms : List NodeId) → Thins items ns ms → Thins items ns (ms ++ [])
alone items ns ms f a b r = subst (λ l. Row items a b l) (sym (append-nil ms)) (f a b r)

all_plain : (items : Items) (ns : List NodeId) → ThinsTo items ns (plain ns)
all_plain items ns = alone items ns ns (same items ns)

keep : (items : Items) (n : NodeId) (ks ls : List NodeId) → Thins items ks ls → Thins items (n ∷ ks) (n ∷ ls)
keep items n ks ls f = joined items (n ∷ []) (n ∷ []) ks ls (same items (n ∷ [])) f

leave : (items : Items) (n : NodeId) (ks ls : List NodeId) → Thins items ks ls → Thins items (n ∷ ks) ls
leave items n ks ls f = joined items (n ∷ []) [] ks ls (none items (n ∷ [])) f

leave_plain : (items : Items) (n : NodeId) (ks : List NodeId) → ThinsTo items (n ∷ ks) (plain ks)
leave_plain items n ks = leave items n ks (ks ++ []) (all_plain items ks)

swap : (items : Items) (n : NodeId) (ms ks ls : List NodeId) → Thins items (n ∷ []) ms → Thins items ks ls → Thins items (n ∷ ks) (ms ++ ls)
swap items n ms ks ls f g = joined items (n ∷ []) ms ks ls f g

-- ---- nodes that stand nowhere, with some that do below them

of_block : (items : Items) (item : Item) → Thins items (children_of item) (statements_of item)
of_block items (kept.Piece (pieces.Block ns)) = same items ns
of_block items item = none items (children_of item)

block : (items : Items) (n : NodeId) → Thins items (n ∷ []) (statements_at items n)
block items n = instead items n (statements_at items n) (of_block items (item_at items n))

first : (items : Items) (ns ks : List NodeId) → Thins items (ns ++ ks) (first_only ns)
first items [] ks = none items ks
first items (n ∷ ns) ks = keep items n (ns ++ ks) [] (none items (ns ++ ks))

of_path : (items : Items) (item : Item) → Thins items (children_of item) (first_only (path_names_of item))
of_path items (kept.Piece (pieces.Path names method)) = first items names (option_to_list method)
of_path items item = none items (children_of item)

path : (items : Items) (n : NodeId) → Thins items (n ∷ []) (path_use items n)
path items n = instead items n (path_use items n) (of_path items (item_at items n))

unless_by : (items : Items) (n : NodeId) (b : Bool) → Thins items (n ∷ []) (if b then [] else n ∷ [])
unless_by items n true = none items (n ∷ [])
unless_by items n false = same items (n ∷ [])

unless : (items : Items) (n : NodeId) → Thins items (n ∷ []) (unless_name items n)
unless items n = unless_by items n (is_name (item_at items n))

block_alone : (items : Items) (n : NodeId) → Thins items (n ∷ []) (statements_at items n ++ [])
block_alone items n = alone items (n ∷ []) (statements_at items n) (block items n)

function : (items : Items) (n body : NodeId) (ns around : List NodeId) (method : Bool) → Thins items ns around → (item : Item) → item_at items body ≡ item
    → ThinsTo items (ns ++ body ∷ []) (within_function items n around method item)
function items n body ns around method f (kept.Piece (pieces.Body names variadic b)) e =
    joined items ns around (body ∷ []) (statements_at items b ++ []) f
    (instead items body (statements_at items b ++ [])
    (subst (λ i. Thins items (children_of i) (statements_at items b ++ [])) (sym e)
    (joined items names [] (b ∷ []) (statements_at items b ++ []) (none items names) (block_alone items b))))
function items n body ns around method f item e = joined items ns around (body ∷ []) [] f (none items (body ∷ []))

terra_row : (items : Items) (parameters : List NodeId) (result : Option NodeId) (b : NodeId)
    → Thins items (parameters ++ (option_to_list result ++ b ∷ [])) (parameters ++ (if_any result ++ (statements_at items b ++ [])))
terra_row items parameters result b =
    let all = statements_at items b ++ [] in
    joined items parameters parameters (option_to_list result ++ b ∷ []) (if_any result ++ all) (same items parameters)
    (joined items (option_to_list result) (if_any result) (b ∷ []) all (any items result) (block_alone items b))

terra_parts : (items : Items) (parameters : List NodeId) (result : Option NodeId) (b : NodeId)
    → Thins items (parameters ++ (option_to_list result ++ b ∷ [])) ((parameters ++ if_any result) ++ (statements_at items b ++ []))
terra_parts items parameters result b =
    subst (λ l. Thins items (parameters ++ (option_to_list result ++ b ∷ [])) l)
    (sym (append_assoc parameters (if_any result) (statements_at items b ++ []))) (terra_row items parameters result b)

terra_function : (items : Items) (n body : NodeId) (ns around : List NodeId) (method : Bool) → Thins items ns around → (item : Item) → item_at items body ≡ item
    → ThinsTo items (ns ++ body ∷ []) (within_terra_function items n around method item)
terra_function items n body ns around method f (kept.Piece (pieces.TerraBody place parameters result b)) e =
    let r = if_any result in
    let all = statements_at items b ++ [] in
    let row = parameters ++ (r ++ all) in
    subst (λ l. Thins items (ns ++ body ∷ []) l) (sym (append_assoc (around ++ parameters) r all ∙ append_assoc around parameters (r ++ all)))
    (joined items ns around (body ∷ []) row f
    (instead items body row
    (subst (λ i. Thins items (children_of i) row) (sym e) (terra_row items parameters result b))))
terra_function items n body ns around method f item e = joined items ns around (body ∷ []) [] f (none items (body ∷ []))

-- a loop over numbers, of either language
loop : (items : Items) (name a b : NodeId) (before : List NodeId) (step : Option NodeId) (body : NodeId) → Thins items (name ∷ []) before
    → Thins items (name ∷ a ∷ b ∷ (option_to_list step ++ body ∷ [])) ((before ++ a ∷ b ∷ if_any step) ++ (statements_at items body ++ []))
loop items name a b before step body f =
    let all = statements_at items body ++ [] in
    subst (λ l. Thins items (name ∷ a ∷ b ∷ (option_to_list step ++ body ∷ [])) l) (sym (append_assoc before (a ∷ b ∷ if_any step) all))
    (swap items name before (a ∷ b ∷ (option_to_list step ++ body ∷ [])) (a ∷ b ∷ (if_any step ++ all)) f
    (keep items a (b ∷ (option_to_list step ++ body ∷ [])) (b ∷ (if_any step ++ all))
    (keep items b (option_to_list step ++ body ∷ []) (if_any step ++ all)
    (joined items (option_to_list step) (if_any step) (body ∷ []) all (any items step) (block_alone items body)))))

arms : (items : Items) (ns : List NodeId) (o : Option NodeId) → ThinsTo items (ns ++ option_to_list o) (plain (ns ++ if_any o))
arms items ns o =
    alone items (ns ++ option_to_list o) (ns ++ if_any o)
    (joined items ns ns (option_to_list o) (if_any o) (same items ns) (any items o))

-- ---- each node

expression : (items : Items) (e : of_expressions.Expression) → ThinsTo items (of_expression e) (within_expression e)
expression items (expressions.Select a name) = keep items a (name ∷ []) [] (none items (name ∷ []))
expression items (expressions.Method a name arguments) = keep items a (name ∷ arguments) (arguments ++ []) (leave_plain items name arguments)
expression items e = all_plain items (of_expression e)

statement : (items : Items) (n : NodeId) (s : of_statements.Statement) → ThinsTo items (of_statement s) (within_statement items n s)
statement items n (statements.Repeat body condition) = swap items body (statements_at items body) (condition ∷ []) (condition ∷ []) (block items body) (same items (condition ∷ []))
statement items n (statements.If all otherwise) = arms items all otherwise
statement items n (statements.NumericFor name a b step body) = loop items name a b [] step body (none items (name ∷ []))
statement items n (statements.GenericFor names es body) =
    joined items names [] (es ++ body ∷ []) (es ++ (statements_at items body ++ [])) (none items names)
    (joined items es es (body ∷ []) (statements_at items body ++ []) (same items es) (block_alone items body))
statement items n (statements.Function p body) =
    function items n body (p ∷ []) (path_use items p) (names_method items p) (path items p) (item_at items body) refl
statement items n (statements.LocalFunction name body) = leave_plain items name (body ∷ [])
statement items n (statements.Local names es) = joined items names [] es (es ++ []) (none items names) (all_plain items es)
statement items n (statements.Terra p body) =
    terra_function items n body (p ∷ []) (path_use items p) (names_method items p) (path items p) (item_at items body) refl
statement items n (statements.DeclareTerra p e) =
    alone items (p ∷ e ∷ []) (path_use items p ++ e ∷ []) (swap items p (path_use items p) (e ∷ []) (e ∷ []) (path items p) (same items (e ∷ [])))
statement items n (statements.LocalTerra word name body) = leave_plain items name (body ∷ [])
statement items n (statements.LocalDeclareTerra word name e) = leave_plain items name (e ∷ [])
statement items n (statements.Struct p entries) =
    alone items (p ∷ entries) (path_use items p ++ entries) (swap items p (path_use items p) entries entries (path items p) (same items entries))
statement items n (statements.LocalStruct word name entries) = leave_plain items name entries
statement items n s = all_plain items (of_statement s)

terra_expression : (items : Items) (e : of_terra_expressions.TerraExpression) → ThinsTo items (of_terra_expression e) (within_terra_expression items e)
terra_expression items (terra_expressions.Select a name) =
    keep items a (name ∷ []) (unless_name items name ++ []) (alone items (name ∷ []) (unless_name items name) (unless items name))
terra_expression items (terra_expressions.Method a name arguments) =
    alone items (a ∷ name ∷ arguments) (a ∷ (unless_name items name ++ arguments))
    (keep items a (name ∷ arguments) (unless_name items name ++ arguments)
    (swap items name (unless_name items name) arguments arguments (unless items name) (same items arguments)))
terra_expression items e = all_plain items (of_terra_expression e)

terra_statement : (items : Items) (s : of_terra_statements.TerraStatement) → ThinsTo items (of_terra_statement s) (within_terra_statement items s)
terra_statement items (terra_statements.Repeat body condition) =
    swap items body (statements_at items body) (condition ∷ []) (condition ∷ []) (block items body) (same items (condition ∷ []))
terra_statement items (terra_statements.If all otherwise) = arms items all otherwise
terra_statement items (terra_statements.For name a b step body) = loop items name a b (unless_name items name) step body (unless items name)
terra_statement items s = all_plain items (of_terra_statement s)

piece : (items : Items) (n : NodeId) (p : of_pieces.Piece) → ThinsTo items (of_piece p) (within_piece items n p)
piece items n (pieces.Block ns) = all_plain items ns
piece items n (pieces.Body names variadic b) =
    joined items names [] (b ∷ []) (statements_at items b ++ []) (none items names) (block_alone items b)
piece items n (pieces.Path names method) = none items (names ++ option_to_list method)
piece items n (pieces.NamedField name value) = leave_plain items name (value ∷ [])
piece items n (pieces.Entry name type) = leave_plain items name (type ∷ [])
piece items n (pieces.Quoted b e) =
    swap items b (statements_at items b) (option_to_list e) (if_any e) (block items b) (any items e)
piece items n (pieces.TerraBody place parameters result b) = terra_parts items parameters result b
piece items n (pieces.Parameter place name type) = leave_plain items name (type ∷ [])
piece items n (pieces.Variable place name type) =
    alone items (name ∷ option_to_list type) (unless_name items name ++ if_any type)
    (swap items name (unless_name items name) (option_to_list type) (if_any type) (unless items name) (any items type))
piece items n p = all_plain items (of_piece p)

node : (items : Items) (n : NodeId) (item : Item) → ThinsTo items (children_of item) (within_item items n item)
node items n (kept.Expression place e) = expression items e
node items n (kept.Statement place s) = statement items n s
node items n (kept.TerraExpression place e) = terra_expression items e
node items n (kept.TerraStatement place s) = terra_statement items s
node items n (kept.Piece p) = piece items n p
node items n item = all_plain items (children_of item)

-- ---- parts

abbrev pub nodes_of : List Part → List NodeId
nodes_of [] = []
nodes_of (p ∷ ps) = p.node ∷ nodes_of ps

nodes_append : (ps rs : List Part) → nodes_of (ps ++ rs) ≡ nodes_of ps ++ nodes_of rs
nodes_append [] rs = refl
nodes_append (p ∷ ps) rs = ap (λ l. p.node ∷ l) (nodes_append ps rs)

nodes_all_in : (scope : Scope) (ns : List NodeId) → nodes_of (all_in scope ns) ≡ ns
nodes_all_in scope [] = refl
nodes_all_in scope (n ∷ ns) = ap (λ l. n ∷ l) (nodes_all_in scope ns)

nodes_in_order : (items : Items) (owner : NodeId) (count : ℕ) (ns : List NodeId) → nodes_of (in_order items owner count ns) ≡ ns
nodes_in_order items owner count [] = refl
nodes_in_order items owner count (n ∷ ns) = ap (λ l. n ∷ l) (nodes_in_order items owner (count + length (declared_at items n)) ns)

parts_are : (items : Items) (n : NodeId) (scope : Scope) → nodes_of (parts items n scope) ≡ standing_in (within items n)
parts_are items n scope =
    let w = within items n in
    let inner : Scope = record { owner = n; count = length (declarations items n) } in
    let ordered = in_order items n (length w.names) w.statements in
    let seen = all_in inner w.behind in
    ap nodes_of (append_assoc (all_in scope w.around) ordered seen)
    ∙ nodes_append (all_in scope w.around) (ordered ++ seen)
    ∙ ap (λ l. l ++ nodes_of (ordered ++ seen)) (nodes_all_in scope w.around)
    ∙ ap (λ l. w.around ++ l) (nodes_append ordered seen)
    ∙ ap (λ l. w.around ++ (l ++ nodes_of seen)) (nodes_in_order items n (length w.names) w.statements)
    ∙ ap (λ l. w.around ++ (w.statements ++ l)) (nodes_all_in inner w.behind)

-- the parts of a node stand in a row
pub parts_rowed : (items : Items) (n : NodeId) (scope : Scope) (l : ℕ) → Row items l n.0 (children_of (item_at items n))
    → Row items l n.0 (nodes_of (parts items n scope))
parts_rowed items n scope l r =
    subst (λ ns. Row items l n.0 ns) (sym (parts_are items n scope)) (node items n (item_at items n) l n.0 r)
