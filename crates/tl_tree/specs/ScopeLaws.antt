-- What `Scopes` comes to, as relations on the text.
use Rattle.std.specs.Prelude.{◌≡◌, ℕ, ◌+◌, true, false, List, [], ◌∷◌, ◌++◌, length, flat_map, ⊤, Option, Some, None}
use Rattle.std.specs.Prelude.{if◌then◌else◌}
use Rattle.tl_base.specs.declared.place.Place.{Place}
use Rattle.tl_base.specs.declared.ids.NodeId.{NodeId}
use Rattle.tl_tree.specs.Item as kept
use Rattle.tl_tree.specs.Nodes.{item_at, last_of, lay}
use Rattle.tl_tree.specs.Tree.{Tree}
use Rattle.tl_tree.specs.Texts.{Reads}
use Rattle.tl_tree.specs.Code.{Items}
use Rattle.tl_tree.specs.Binding.{bound}
use Rattle.tl_tree.specs.declared.scope.Scope.{Scope}
use Rattle.tl_tree.specs.Scopes.{Part, Found, within, declared_at, declared_in, sees_itself, parts, outermost, scope_at}
use Rattle.tl_tree.specs.Scopes.{has_name, binder}

-- ---- where nodes stand

-- The node stands there: it is the root, or a part of a node that stands somewhere.
pub data Stands (items : Items) : NodeId → Scope → Type 0 where
  AtRoot : Stands items (last_of items) (outermost (last_of items))
  InNode : (n : NodeId) (scope : Scope) (before : List Part) (part : Part) (after : List Part) → Stands items n scope
      → parts items n scope ≡ before ++ part ∷ after → Stands items part.node part.scope

abbrev pub NodesStand : Items → Type 0
NodesStand items = (n : NodeId) (scope : Scope) → scope_at items n ≡ Some scope → Stands items n scope

-- In the tree of a text it is known of each node that stands somewhere.
abbrev pub KnowsWhereNodesStand : List ℕ → Type 0
KnowsWhereNodesStand text =
    (tree : Tree) → Reads text tree → (n : NodeId) (scope : Scope) → Stands (lay tree []) n scope →
    scope_at (lay tree []) n ≡ Some scope

-- ---- what a name finds

-- none of the declarations has the name
abbrev pub HasNone : Items → List ℕ → List NodeId → Type 0
HasNone items name [] = ⊤
HasNone items name (d ∷ ds) = (has_name items name d ≡ false) × HasNone items name ds

-- The declaration at this position has the name, and none behind it.
pub record IsLast (items : Items) (name : List ℕ) (ds : List NodeId) (position : ℕ)
    (declaration : NodeId) : Type 0 where
  pub before : List NodeId
  pub after : List NodeId
  pub are : ds ≡ before ++ declaration ∷ after
  pub position_is : length before ≡ position
  pub is_named : has_name items name declaration ≡ true
  pub none_after : HasNone items name after

-- What a name finds that stands so many owners inside of where it was written: the last of the names declared so far
-- that is equal to it; where there is none, what it finds around the owner.
pub data Finds (items : Items) (name : List ℕ) : ℕ → Scope → Option Found → Type 0 where
  Here : (depth : ℕ) (scope : Scope) (position : ℕ) (declaration : NodeId)
      → IsLast items name (declared_in items scope) position declaration
      → Finds items name depth scope (Some (record { depth = depth; position = position; declaration = declaration }))
  Around : (depth : ℕ) (scope outer : Scope) (found : Option Found) → HasNone items name (declared_in items scope)
      → scope_at items scope.owner ≡ Some outer → Finds items name (depth + 1) outer found
      → Finds items name depth scope found
  Nowhere : (depth : ℕ) (scope : Scope) → HasNone items name (declared_in items scope)
      → scope_at items scope.owner ≡ None
      → Finds items name depth scope None

-- `binder` is what a name finds from where it stands.
abbrev pub BinderFinds : Items → Type 0
BinderFinds items =
    (n : NodeId) (place : Place) (offset : ℕ) (name : List ℕ) (scope : Scope)
    → item_at items n ≡ kept.Name place offset name
    → scope_at items n ≡ Some scope → Finds items name 0 scope (binder items n)

-- In the tree of a text `binder` is what a name finds from wherever it stands.
abbrev pub FindsBindersOfText : List ℕ → Type 0
FindsBindersOfText text =
    (tree : Tree) → Reads text tree → (n : NodeId) (place : Place) (offset : ℕ) (name : List ℕ) (scope : Scope)
    → item_at (lay tree []) n ≡ kept.Name place offset name → Stands (lay tree []) n scope
    → Finds (lay tree []) name 0 scope (binder (lay tree []) n)

-- a name that stands somewhere, and finds this from there
pub record IsFoundBinder (items : Items) (n : NodeId) (found : Found) : Type 0 where
  pub place : Place
  pub offset : ℕ
  pub name : List ℕ
  pub scope : Scope
  pub is_name : item_at items n ≡ kept.Name place offset name
  pub stands : Stands items n scope
  pub finds : Finds items name 0 scope (Some found)

-- Only a name that stands somewhere has a binder.
abbrev pub OnlyNamesHaveBinders : Items → Type 0
OnlyNamesHaveBinders items = (n : NodeId) (found : Found) → binder items n ≡ Some found → IsFoundBinder items n found

-- ---- what statements see

-- Each statement of an owner sees the names that the owner declares before its block, what the statements before it
-- declare, and what it declares itself where it is a `local function`, `local terra` or `local struct`.
pub record SeesBefore (items : Items) (n : NodeId) (scope : Scope) (before : List NodeId) (s : NodeId) : Type 0 where
  pub front : List Part
  pub part : Part
  pub back : List Part
  pub are_parts : parts items n scope ≡ front ++ part ∷ back
  pub is_statement : part.node ≡ s
  pub sees : declared_in items part.scope
      ≡ (within items n).names ++ flat_map (declared_at items) before
      ++ (if sees_itself (item_at items s) then declared_at items s else [])

abbrev pub StatementsSeeBefore : Items → Type 0
StatementsSeeBefore items =
    (n : NodeId) (scope : Scope) (before : List NodeId) (s : NodeId) (after : List NodeId)
    → (within items n).statements ≡ before ++ s ∷ after → SeesBefore items n scope before s

-- ---- texts that bind alike

-- Where two trees are alike but for the names of locals, each use finds its declaration in both by the same steps.
abbrev pub BoundDetermines : Items → Items → Type 0
BoundDetermines items other =
    (finish end : Place) → bound items finish ≡ bound other end → (n : NodeId) → binder items n ≡ binder other n
