-- The tree of a typed node, among the nodes before it.
use Rattle.std.proofs.Common.{◌≡◌, ℕ, ◌<◌, ◌≤◌, List, ◌∙◌, ap, sym, take, Option, None, slice_get}
use Rattle.std.specs.Prelude.{option_map}
use Rattle.terra_term.specs.declared.typed.Typed.{Typed}
use Rattle.terra_term.specs.Planted.{typed_planted, typed_trees}
use Rattle.terra_term.specs.TypedTerms.{Item}
use Rattle.terra_term.proofs.Trees.{grown-get, get-take, get-past}

-- a node's tree is made of those of the nodes before it
pub tree_at : (ns : List Typed) (i : ℕ) (x : Option Typed)
    → x ≡ slice_get ns i → slice_get (typed_trees ns) i ≡ option_map (typed_planted (take i (typed_trees ns))) x
tree_at ns i x is =
    grown-get typed_planted ns i ∙ ap (λ (y : Option Typed). option_map (typed_planted (take i (typed_trees ns))) y) (sym is)

-- the same among the nodes before a number that is above it
pub tree_below : (ns : List Typed) (below i : ℕ) (x : Option Typed) → i < below
    → x ≡ slice_get ns i → slice_get (take below (typed_trees ns)) i ≡ option_map (typed_planted (take i (typed_trees ns))) x
tree_below ns below i x under is = get-take (typed_trees ns) below i under ∙ tree_at ns i x is

-- there is none past that number
pub none_past : (trees : List Item) (below i : ℕ) → below ≤ i → slice_get (take below trees) i ≡ None
none_past trees below i past = get-past trees below i past
