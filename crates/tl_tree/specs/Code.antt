-- What the nodes of a tree hold. A node of another kind has no names, no statements and no parts.
use Rattle.std.specs.Prelude.{ℕ, Bool, true, false, List, [], ◌∷◌, ◌++◌, slice_index_or, Option, Some, None}
use Rattle.tl_base.specs.declared.ids.NodeId.{NodeId}
use Rattle.tl_base.specs.declared.place.Place.{Place}
use Rattle.tl_tree.specs.declared.node.Statement.TheVariants as statements
use Rattle.tl_tree.specs.declared.node.Piece.{Piece}
use Rattle.tl_tree.specs.declared.node.Piece.TheVariants as pieces
use Rattle.tl_tree.specs.Item.{Item}
use Rattle.tl_tree.specs.Item as kept
use Rattle.tl_tree.specs.Nodes.{item_at}

-- The nodes of a tree in the order of the text.
abbrev pub Items : Type 0
Items = List Item

abbrev pub node_zero : NodeId
node_zero = record { 0 = 0 }

abbrev pub node_in : List NodeId → ℕ → NodeId
node_in ns i = slice_index_or ns i node_zero

abbrev pub name_of : Item → List ℕ
name_of (kept.Name place offset text) = text
name_of _ = []

abbrev pub name_at : Items → NodeId → List ℕ
name_at items n = name_of (item_at items n)

-- the place of a piece that has one
abbrev pub place_of_piece : Piece → Place
place_of_piece (pieces.TerraBody place parameters result block) = place
place_of_piece (pieces.Parameter place name type) = place
place_of_piece (pieces.SpliceParameter place e) = place
place_of_piece (pieces.Variable place name type) = place
place_of_piece _ = record { line = 0; word = 0 }

abbrev pub place_of : Item → Place
place_of (kept.Name place offset text) = place
place_of (kept.Numeral place text) = place
place_of (kept.Literal place text) = place
place_of (kept.Expression place e) = place
place_of (kept.Statement place s) = place
place_of (kept.TerraExpression place e) = place
place_of (kept.TerraStatement place s) = place
place_of (kept.Piece p) = place_of_piece p

abbrev pub place_at : Items → NodeId → Place
place_at items n = place_of (item_at items n)

-- the statements of a block
abbrev pub statements_of : Item → List NodeId
statements_of (kept.Piece (pieces.Block ns)) = ns
statements_of _ = []

abbrev pub statements_at : Items → NodeId → List NodeId
statements_at items n = statements_of (item_at items n)

abbrev pub if_any : Option NodeId → List NodeId
if_any (Some n) = n ∷ []
if_any None = []

-- ---- paths

abbrev pub path_names_of : Item → List NodeId
path_names_of (kept.Piece (pieces.Path ns method)) = ns
path_names_of _ = []

abbrev pub path_method_of : Item → Option NodeId
path_method_of (kept.Piece (pieces.Path ns method)) = method
path_method_of _ = None

abbrev pub path_names_at : Items → NodeId → List NodeId
path_names_at items n = path_names_of (item_at items n)

-- the names of a path, with the method's name as the last
abbrev pub path_at : Items → NodeId → List NodeId
path_at items n = path_names_at items n ++ if_any (path_method_of (item_at items n))

abbrev pub is_any : Option NodeId → Bool
is_any (Some n) = true
is_any None = false

-- the path names a method, whose function has the parameter `self` before the others
abbrev pub names_method : Items → NodeId → Bool
names_method items n = is_any (path_method_of (item_at items n))

-- ---- functions of Lua code

-- whether a function has an implicit `self`, its parameters, whether `...` is one more, and its block
pub record Parts : Type 0 where
  pub method : Bool
  pub names : List NodeId
  pub variadic : Bool
  pub block : NodeId

abbrev pub no_parts : Parts
no_parts = record { method = false; names = []; variadic = false; block = node_zero }

abbrev pub body_of : Bool → Item → Parts
body_of method (kept.Piece (pieces.Body names variadic block)) =
    record { method = method; names = names; variadic = variadic; block = block }
body_of method _ = no_parts

-- The node that a function is made with: the statement that defines it under a path, and its body where there is none.
abbrev pub function_of : Items → Item → Parts
function_of items (kept.Statement place (statements.Function path body)) =
    body_of (names_method items path) (item_at items body)
function_of items item = body_of false item

abbrev pub function_at : Items → NodeId → Parts
function_at items n = function_of items (item_at items n)

-- ---- arms of `if`

abbrev pub arm_condition : Item → NodeId
arm_condition (kept.Piece (pieces.Arm condition block)) = condition
arm_condition _ = node_zero

abbrev pub arm_block : Item → NodeId
arm_block (kept.Piece (pieces.Arm condition block)) = block
arm_block _ = node_zero
