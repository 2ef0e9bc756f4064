-- Texts that differ in the names of their locals alone.
use Rattle.std.specs.Prelude.{◌≡◌, ℕ, zero, suc, ◌+◌, ◌==◌, ◌||◌, Bool, true, false, List, [], ◌∷◌, length, Option}
use Rattle.std.specs.Prelude.{Some, None}
use Rattle.tl_base.specs.declared.place.Place.{Place}
use Rattle.tl_base.specs.declared.ids.NodeId.{NodeId}
use Rattle.tl_lex.specs.Values as literals
use Rattle.tl_tree.specs.declared.symbol.Symbol.{Symbol}
use Rattle.tl_tree.specs.Symbols.{numeral_of}
use Rattle.tl_tree.specs.Numbers as numerals
use Rattle.tl_tree.specs.Item.{Item}
use Rattle.tl_tree.specs.Item as kept
use Rattle.tl_tree.specs.Nodes.{lay}
use Rattle.tl_tree.specs.Tree.{Tree}
use Rattle.tl_tree.specs.Tokens.{finish_of}
use Rattle.tl_tree.specs.Texts.{Reads}
use Rattle.tl_tree.specs.Code.{Items}
use Rattle.tl_tree.specs.Scopes.{Found, binder, declarations}

-- A node without the names of locals. Nodes have numbers in order of the text, and a declaration has that of the node
-- that makes it.
pub data BoundItem : Type 0 where
  -- a local's name that is declared, and a use of a local, each with the declaration's number
  Declared Used : Place → ℕ → BoundItem
  -- another name: of a global, a field or a method
  OtherName : Place → List ℕ → BoundItem
  -- a numeral by its suffix and its value, and a literal by its value
  NumberValue : Place → Symbol → ℕ → BoundItem
  TextValue : Place → List ℕ → BoundItem
  -- any other node as it is
  Other : Item → BoundItem

-- what a text's nodes are without the names of locals, and the place of its end
pub record Bound : Type 0 where
  pub items : List BoundItem
  pub finish : Place

abbrev pub is_among : ℕ → List NodeId → Bool
is_among n [] = false
is_among n (d ∷ ds) = (d.0 == n) || is_among n ds

-- a node below this number declares a local of this number
abbrev pub is_declared_below : ℕ → Items → ℕ → Bool
is_declared_below zero items n = false
is_declared_below (suc k) items n = is_among n (declarations items (record { 0 = k })) || is_declared_below k items n

abbrev pub name_alone : Place → List ℕ → Bool → ℕ → BoundItem
name_alone place text true n = Declared place n
name_alone place text false n = OtherName place text

-- a name, by whether it is a use of a local
abbrev pub bound_name : Items → Place → List ℕ → ℕ → Option Found → BoundItem
bound_name items place text n (Some found) = Used place found.declaration.0
bound_name items place text n None = name_alone place text (is_declared_below (length items) items n) n

abbrev pub bound_item : Items → ℕ → Item → BoundItem
bound_item items n (kept.Name place offset text) = bound_name items place text n (binder items (record { 0 = n }))
bound_item items n (kept.Numeral place text) = NumberValue place (numeral_of text) (numerals.value_of text)
bound_item items n (kept.Literal place text) = TextValue place (literals.value_of text)
bound_item items n item = Other item

-- the nodes from a number on
abbrev pub bound_from : Items → ℕ → List Item → List BoundItem
bound_from items n [] = []
bound_from items n (item ∷ more) = bound_item items n item ∷ bound_from items (n + 1) more

abbrev pub bound : Items → Place → Bound
bound items finish = record { items = bound_from items 0 items; finish = finish }

-- Two texts that read, and bind alike: they differ in nothing but the names of locals, in how numerals and literals of
-- one value are written, and in what stands between tokens, as far as places and the grammar don't tell of it.
pub record Alike (a b : List ℕ) : Type 0 where
  pub tree : Tree
  pub other : Tree
  pub reads : Reads a tree
  pub other_reads : Reads b other
  pub is_bound_alike : bound (lay tree []) (finish_of a) ≡ bound (lay other []) (finish_of b)
