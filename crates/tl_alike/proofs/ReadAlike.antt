-- What is read of the nodes of alike trees is the same, where it tells no texts; and names that are used or selected are the same.
use Rattle.std.specs.Prelude.{◌≡◌, Bool, pred, List, [], ◌∷◌, ◌++◌, drop, take, Option, Some, None}
use Rattle.std.specs.List.{All}
use Rattle.std.specs.Option.{option_to_list}
use Rattle.std.proofs.Common.{ℕ, refl, ap, ◌∙◌}
use Rattle.std.proofs.lemmas.List.Elements.{All-head, All-nil}
use Rattle.tl_base.specs.declared.ids.NodeId.{NodeId}
use Rattle.tl_base.specs.declared.place.Place.{Place}
use Rattle.tl_tree.specs.declared.node.Statement.TheVariants as statements
use Rattle.tl_tree.specs.declared.node.Piece.TheVariants as pieces
use Rattle.tl_tree.specs.Item.{Item}
use Rattle.tl_tree.specs.Item as kept
use Rattle.tl_tree.specs.Nodes.{item_at, last_of}
use Rattle.tl_tree.specs.Code.{Items, place_of, place_at, statements_of, statements_at, if_any, path_names_of}
use Rattle.tl_tree.specs.Code.{path_method_of, path_names_at, path_at, is_any, names_method, body_of, function_of, function_at}
use Rattle.tl_tree.specs.Code.{arm_condition, arm_block}
use Rattle.tl_tree.specs.Scopes.{is_name}
use Rattle.tl_alike.specs.Roles.{selected_by, code_in}
use Rattle.tl_alike.specs.Alike.{SameNode, SameName, SameNumeral, SameLiteral, SameItem, HasSameUse, HasSameName, AreAlike}

-- ---- two nodes

-- what is read of a node tells no text of a name, of a numeral or of a literal
pub record TellsNoTexts {X : Type 0} (read : Item → X) : Type 0 where
  pub of_names : (place : Place) (offset other_offset : ℕ) (text other_text : List ℕ)
      → read (kept.Name place offset text) ≡ read (kept.Name place other_offset other_text)
  pub of_numerals : (place : Place) (text other_text : List ℕ) → read (kept.Numeral place text) ≡ read (kept.Numeral place other_text)
  pub of_literals : (place : Place) (text other_text : List ℕ) → read (kept.Literal place text) ≡ read (kept.Literal place other_text)

pub same_read : {X : Type 0} (read : Item → X) → TellsNoTexts read → {a b : Item} → SameNode a b → read a ≡ read b
same_read read silent (SameName place offset other_offset text other_text) =
    silent.of_names place offset other_offset text other_text
same_read read silent (SameNumeral place text other_text numeral value) = silent.of_numerals place text other_text
same_read read silent (SameLiteral place text other_text value) = silent.of_literals place text other_text
same_read read silent (SameItem item) = refl

pub same_place : {a b : Item} → SameNode a b → place_of a ≡ place_of b
same_place h = same_read place_of (record { of_names = λ p o x t u. refl; of_numerals = λ p t u. refl; of_literals = λ p t u. refl }) h

pub same_statements : {a b : Item} → SameNode a b → statements_of a ≡ statements_of b
same_statements h =
    same_read statements_of (record { of_names = λ p o x t u. refl; of_numerals = λ p t u. refl; of_literals = λ p t u. refl }) h

pub same_path_names : {a b : Item} → SameNode a b → path_names_of a ≡ path_names_of b
same_path_names h =
    same_read path_names_of (record { of_names = λ p o x t u. refl; of_numerals = λ p t u. refl; of_literals = λ p t u. refl }) h

pub same_path_method : {a b : Item} → SameNode a b → path_method_of a ≡ path_method_of b
same_path_method h =
    same_read path_method_of (record { of_names = λ p o x t u. refl; of_numerals = λ p t u. refl; of_literals = λ p t u. refl }) h

pub same_body : {a b : Item} → SameNode a b → (method : Bool) → body_of method a ≡ body_of method b
same_body h method =
    same_read (λ i. body_of method i)
    (record { of_names = λ p o x t u. refl; of_numerals = λ p t u. refl; of_literals = λ p t u. refl }) h

pub same_arm_condition : {a b : Item} → SameNode a b → arm_condition a ≡ arm_condition b
same_arm_condition h =
    same_read arm_condition (record { of_names = λ p o x t u. refl; of_numerals = λ p t u. refl; of_literals = λ p t u. refl }) h

pub same_arm_block : {a b : Item} → SameNode a b → arm_block a ≡ arm_block b
same_arm_block h =
    same_read arm_block (record { of_names = λ p o x t u. refl; of_numerals = λ p t u. refl; of_literals = λ p t u. refl }) h

pub same_is_name : {a b : Item} → SameNode a b → is_name a ≡ is_name b
same_is_name h = same_read is_name (record { of_names = λ p o x t u. refl; of_numerals = λ p t u. refl; of_literals = λ p t u. refl }) h

-- ---- names of a path

-- The first name of these is used, and the others are selected.
abbrev pub HasSamePath : Items → Items → List NodeId → Type 0
HasSamePath items other [] = Unit {0}
HasSamePath items other (n ∷ ns) = HasSameUse items other n × All (HasSameName items other) ns

use_of_name : (items other : Items) (n : NodeId) → HasSameName items other n → HasSameUse items other n
use_of_name items other n same none = same

-- the names of a path and of its method
same_path : (items other : Items) (names : List NodeId) (method : Option NodeId) → All (HasSameUse items other) (take 1 names)
    → All (HasSameName items other) (drop 1 names ++ option_to_list method) → HasSamePath items other (names ++ if_any method)
same_path items other [] None uses selects = tt
same_path items other [] (Some m) uses selects =
    (use_of_name items other m (All-head (HasSameName items other) m [] selects), All-nil (HasSameName items other))
same_path items other (n ∷ ns) None uses selects = (All-head (HasSameUse items other) n [] uses, selects)
same_path items other (n ∷ ns) (Some m) uses selects = (All-head (HasSameUse items other) n [] uses, selects)

same_path_of : (items other : Items) (item : Item) → All (HasSameUse items other) (code_in item)
    → All (HasSameName items other) (selected_by item)
    → HasSamePath items other (path_names_of item ++ if_any (path_method_of item))
same_path_of items other (kept.Piece (pieces.Path names method)) uses selects = same_path items other names method uses selects
same_path_of items other _ uses selects = tt

-- ---- alike trees

module _ (items other : Items) (alike : AreAlike items other) where
  pub place_same : (n : NodeId) → place_at items n ≡ place_at other n
  place_same n = same_place (alike.nodes n)

  pub statements_same : (n : NodeId) → statements_at items n ≡ statements_at other n
  statements_same n = same_statements (alike.nodes n)

  pub path_names_same : (n : NodeId) → path_names_at items n ≡ path_names_at other n
  path_names_same n = same_path_names (alike.nodes n)

  pub path_same : (n : NodeId) → path_at items n ≡ path_at other n
  path_same n =
      ap (λ ns. ns ++ if_any (path_method_of (item_at items n))) (same_path_names (alike.nodes n))
      ∙ ap (λ m. path_names_at other n ++ if_any m) (same_path_method (alike.nodes n))

  pub names_method_same : (n : NodeId) → names_method items n ≡ names_method other n
  names_method_same n = ap is_any (same_path_method (alike.nodes n))

  function_of_same : {a b : Item} → SameNode a b → function_of items a ≡ function_of other b
  function_of_same (SameName place offset other_offset text other_text) = refl
  function_of_same (SameNumeral place text other_text numeral value) = refl
  function_of_same (SameLiteral place text other_text value) = refl
  function_of_same (SameItem (kept.Statement place (statements.Function path body))) =
      ap (λ method. body_of method (item_at items body)) (names_method_same path)
      ∙ same_body (alike.nodes body) (names_method other path)
  function_of_same (SameItem item) = refl

  pub function_same : (n : NodeId) → function_at items n ≡ function_at other n
  function_same n = function_of_same (alike.nodes n)

  pub last_same : last_of items ≡ last_of other
  last_same = ap (λ (n : ℕ). record { 0 = pred n }) alike.long

  -- of the path of a statement the first name is used, and the others are selected, that of a method too
  pub path_names_alike : (n : NodeId) → HasSamePath items other (path_at items n)
  path_names_alike n = same_path_of items other (item_at items n) (alike.uses n) (alike.selects n)
