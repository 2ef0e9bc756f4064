-- A typed node's tree is made of those of the nodes before it.
use Rattle.std.proofs.Common.{◌≡◌, ℕ, List, ◌∙◌, ap, sym, take, Option, slice_get, inl, inr}
use Rattle.std.specs.Prelude.{option_map}
use Rattle.std.proofs.lemmas.Bool.{cases_lt}
use Rattle.terra_term.specs.declared.typed.Typed.{Typed}
use Rattle.terra_term.specs.Planted.{typed_planted, typed_trees}
use Rattle.terra_term.proofs.Trees.{grown-get, get-take, get-past}

pub tree-at : (ns : List Typed) (i : ℕ) → slice_get (typed_trees ns) i ≡ option_map (typed_planted (take i (typed_trees ns))) (slice_get ns i)
tree-at ns i = grown-get typed_planted ns i

-- the tree of a node before a number
pub part-tree : (ns : List Typed) (below i : ℕ) (x : Option Typed) → x ≡ slice_get (take below ns) i → slice_get (take below (typed_trees ns)) i ≡ option_map (typed_planted (take i (typed_trees ns))) x
part-tree ns below i x same =
    elim (cases_lt i below) [
      | inl h ↦ get-take (typed_trees ns) below i h ∙ (tree-at ns i ∙ ap (λ (y : Option Typed). option_map (typed_planted (take i (typed_trees ns))) y) (sym (get-take ns below i h) ∙ sym same))
      | inr h ↦ get-past (typed_trees ns) below i h ∙ ap (λ (y : Option Typed). option_map (typed_planted (take i (typed_trees ns))) y) (sym (get-past ns below i h) ∙ sym same)
    ]
