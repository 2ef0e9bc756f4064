-- Each child of a node declares a name, is selected with, or is read as code, and is one of the three alone.
use Rattle.std.specs.Prelude.{drop, take}
use Rattle.std.specs.Option.{option_to_list}
use Rattle.std.proofs.Common.{◌≡◌, ℕ, ◌+◌, ◌≤◌, List, [], ◌∷◌, ◌++◌, subst, arith}
use Rattle.tl_base.specs.declared.ids.NodeId.{NodeId}
use Rattle.tl_base.specs.declared.place.Place.{Place}
use Rattle.tl_tree.specs.declared.node.Expression as of_expressions
use Rattle.tl_tree.specs.declared.node.Expression.TheVariants as expressions
use Rattle.tl_tree.specs.declared.node.Statement as of_statements
use Rattle.tl_tree.specs.declared.node.Statement.TheVariants as statements
use Rattle.tl_tree.specs.declared.node.TerraExpression as of_terra_expressions
use Rattle.tl_tree.specs.declared.node.TerraExpression.TheVariants as terra_expressions
use Rattle.tl_tree.specs.declared.node.TerraStatement as of_terra_statements
use Rattle.tl_tree.specs.declared.node.TerraStatement.TheVariants as terra_statements
use Rattle.tl_tree.specs.declared.node.Piece as of_pieces
use Rattle.tl_tree.specs.declared.node.Piece.TheVariants as pieces
use Rattle.tl_tree.specs.Item.{Item}
use Rattle.tl_tree.specs.Item as kept
use Rattle.tl_tree.specs.Nodes.{item_at}
use Rattle.tl_tree.specs.Children.{children_of}
use Rattle.tl_alike.specs.Roles.{selected_by, code_in}
use Rattle.tl_alike.proofs.Intervals.{how_often, often_append, Has, Whole, one_parent, once_a_child, has_number}

-- ---- the children that declare a name

abbrev pub declared_by_statement : of_statements.Statement → List NodeId
declared_by_statement (statements.NumericFor name a b step block) = name ∷ []
declared_by_statement (statements.GenericFor names es block) = names
declared_by_statement (statements.LocalFunction name body) = name ∷ []
declared_by_statement (statements.Local names es) = names
declared_by_statement (statements.LocalTerra word name body) = name ∷ []
declared_by_statement (statements.LocalDeclareTerra word name e) = name ∷ []
declared_by_statement (statements.LocalStruct word name entries) = name ∷ []
declared_by_statement _ = []

abbrev pub declared_by_terra_statement : of_terra_statements.TerraStatement → List NodeId
declared_by_terra_statement (terra_statements.For name a b step block) = name ∷ []
declared_by_terra_statement _ = []

abbrev pub declared_by_piece : of_pieces.Piece → List NodeId
declared_by_piece (pieces.Body names variadic block) = names
declared_by_piece (pieces.Parameter place name type) = name ∷ []
declared_by_piece (pieces.Variable place name type) = name ∷ []
declared_by_piece _ = []

abbrev pub declares : Item → List NodeId
declares (kept.Statement place s) = declared_by_statement s
declares (kept.TerraStatement place s) = declared_by_terra_statement s
declares (kept.Piece p) = declared_by_piece p
declares _ = []

-- ---- each child once

-- as often as a node is a child, it is one that declares, selects or is read
abbrev Counted : NodeId → Item → Type 0
Counted c i = how_often c (children_of i) ≡ how_often c (declares i) + how_often c (selected_by i) + how_often c (code_in i)

of_expression : (c : NodeId) (place : Place) (e : of_expressions.Expression) → Counted c (kept.Expression place e)
of_expression c place (expressions.Select a name) = omega arith
of_expression c place _ = omega arith

of_statement : (c : NodeId) (place : Place) (s : of_statements.Statement) → Counted c (kept.Statement place s)
of_statement c place (statements.GenericFor names es block) = omega (arith, often_append c names (es ++ block ∷ []))
of_statement c place (statements.Local names es) = omega (arith, often_append c names es)
of_statement c place _ = omega arith

of_terra_expression : (c : NodeId) (place : Place) (e : of_terra_expressions.TerraExpression) → Counted c (kept.TerraExpression place e)
of_terra_expression c place (terra_expressions.Select a name) = omega arith
of_terra_expression c place _ = omega arith

of_terra_statement : (c : NodeId) (place : Place) (s : of_terra_statements.TerraStatement) → Counted c (kept.TerraStatement place s)
of_terra_statement c place (terra_statements.For name a b step block) = omega arith
of_terra_statement c place _ = omega arith

of_path : (c : NodeId) (names : List NodeId) (method : List NodeId)
    → how_often c (names ++ method) ≡ how_often c (drop 1 names ++ method) + how_often c (take 1 names)
of_path c [] method = omega arith
of_path c (n ∷ names) method = omega arith

of_piece : (c : NodeId) (p : of_pieces.Piece) → Counted c (kept.Piece p)
of_piece c (pieces.Body names variadic block) = omega (arith, often_append c names (block ∷ []))
of_piece c (pieces.Path names method) = omega (arith, of_path c names (option_to_list method))
of_piece c _ = omega arith

counted : (c : NodeId) (i : Item) → Counted c i
counted c (kept.Expression place e) = of_expression c place e
counted c (kept.Statement place s) = of_statement c place s
counted c (kept.TerraExpression place e) = of_terra_expression c place e
counted c (kept.TerraStatement place s) = of_terra_statement c place s
counted c (kept.Piece p) = of_piece c p
counted c _ = omega arith

-- ---- one role alone

-- a node has it among its children for this
abbrev pub HasParent : List Item → (Item → List NodeId) → NodeId → Type 0
HasParent items role c = (m : NodeId) × Has c (role (item_at items m))

-- two roles of children, which exclude one another
abbrev AreTwo : (Item → List NodeId) → (Item → List NodeId) → Type 0
AreTwo role other = (c : NodeId) (i : Item) → how_often c (role i) + how_often c (other i) ≤ how_often c (children_of i)

never_both : (items : List Item) → Whole items → (role other : Item → List NodeId) → AreTwo role other → (c : NodeId)
    → HasParent items role c → HasParent items other c → ⊥
never_both items whole role other two c p q =
    let m = p.0 in
    let h : Has c (children_of (item_at items m)) = omega (arith, two c (item_at items m), p.1) in
    let k : Has c (children_of (item_at items q.0)) = omega (arith, two c (item_at items q.0), q.1) in
    let there : Has c (other (item_at items m)) =
    subst (λ (x : ℕ). Has c (other (item_at items (record { 0 = x })))) (one_parent items whole q.0 m c k h) q.1 in
    omega (arith, two c (item_at items m), p.1, there, once_a_child items whole m c (has_number items m c h))

-- what is read as code is declared by no node
pub read_or_declared : (items : List Item) → Whole items → (c : NodeId) → HasParent items code_in c → HasParent items declares c → ⊥
read_or_declared items whole c = never_both items whole code_in declares (λ d i. omega (arith, counted d i)) c

-- nor is what is selected
pub selected_or_declared : (items : List Item) → Whole items → (c : NodeId)
    → HasParent items selected_by c → HasParent items declares c → ⊥
selected_or_declared items whole c = never_both items whole selected_by declares (λ d i. omega (arith, counted d i)) c

-- and what is selected is not read as code
pub selected_or_read : (items : List Item) → Whole items → (c : NodeId) → HasParent items selected_by c → HasParent items code_in c → ⊥
selected_or_read items whole c = never_both items whole selected_by code_in (λ d i. omega (arith, counted d i)) c

-- what is selected is a child
pub has_selected : (items : List Item) (m c : NodeId) → Has c (selected_by (item_at items m)) → Has c (children_of (item_at items m))
has_selected items m c h = omega (arith, counted c (item_at items m), h)
