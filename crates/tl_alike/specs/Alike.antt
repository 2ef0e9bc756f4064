-- When the nodes of two trees are alike but for the names of locals, and that those of texts that bind alike are.
use Rattle.std.specs.Prelude.{◌≡◌, ℕ, List, [], None, length}
use Rattle.std.specs.List.{All}
use Rattle.tl_base.specs.declared.ids.NodeId.{NodeId}
use Rattle.tl_base.specs.declared.place.Place.{Place}
use Rattle.tl_lex.specs.Values as literals
use Rattle.tl_tree.specs.Symbols.{numeral_of}
use Rattle.tl_tree.specs.Numbers as numerals
use Rattle.tl_tree.specs.Item.{Item}
use Rattle.tl_tree.specs.Item as kept
use Rattle.tl_tree.specs.Nodes.{item_at, lay}
use Rattle.tl_tree.specs.Tree.{Tree}
use Rattle.tl_tree.specs.Tokens.{finish_of}
use Rattle.tl_tree.specs.Texts.{Reads}
use Rattle.tl_tree.specs.Code.{Items, name_at}
use Rattle.tl_tree.specs.Scopes.{binder}
use Rattle.tl_tree.specs.Binding.{bound}
use Rattle.tl_alike.specs.Roles.{selected_by, code_in, HasKinds}

-- Two nodes are the same, but for the text of a name, and for how a numeral or a literal of one value is written.
pub data SameNode : Item → Item → Type 0 where
  SameName : (place : Place) (offset other_offset : ℕ) (text other_text : List ℕ)
      → SameNode (kept.Name place offset text) (kept.Name place other_offset other_text)
  SameNumeral : (place : Place) (text other_text : List ℕ) → numeral_of text ≡ numeral_of other_text
      → numerals.value_of text ≡ numerals.value_of other_text
      → SameNode (kept.Numeral place text) (kept.Numeral place other_text)
  SameLiteral : (place : Place) (text other_text : List ℕ) → literals.value_of text ≡ literals.value_of other_text
      → SameNode (kept.Literal place text) (kept.Literal place other_text)
  SameItem : (item : Item) → SameNode item item

-- A name that is used: where it finds no local, it is the same name.
abbrev pub HasSameUse : Items → Items → NodeId → Type 0
HasSameUse items other n = binder items n ≡ None → name_at items n ≡ name_at other n

-- A name that is selected is the same name.
abbrev pub HasSameName : Items → Items → NodeId → Type 0
HasSameName items other n = name_at items n ≡ name_at other n

-- The nodes of two trees are alike: each is the same but for names, and finds the same; and of each, the names that are used or selected
-- are the same but for those of locals. Of names that are declared nothing is said.
pub record AreAlike (items other : Items) : Type 0 where
  pub long : length items ≡ length other
  pub nodes : (n : NodeId) → SameNode (item_at items n) (item_at other n)
  pub binders : (n : NodeId) → binder items n ≡ binder other n
  pub uses : (n : NodeId) → All (HasSameUse items other) (code_in (item_at items n))
  pub selects : (n : NodeId) → All (HasSameName items other) (selected_by (item_at items n))
  pub kinds : (n : NodeId) → HasKinds items (item_at items n)

-- The trees of texts that bind alike are alike.
abbrev pub AlikeTextsHaveAlikeTrees : Type 0
AlikeTextsHaveAlikeTrees =
    (a b : List ℕ) (tree other : Tree) → Reads a tree → Reads b other
    → bound (lay tree []) (finish_of a) ≡ bound (lay other []) (finish_of b) → AreAlike (lay tree []) (lay other [])
