-- How many nodes and levels terms have, by the sizes that the store keeps: those of their trees.
use Rattle.std.specs.Prelude.{ℕ, List, [], ◌∷◌, unwrap_or}
use Rattle.tl_base.specs.declared.ids.TermId.{TermId}
use Rattle.terra_term.specs.declared.size.Size.{Size}
use Rattle.terra_term.specs.Sizes.{none, leaf, joined, above, capped, names_size, size_of_term, size_of_typed}
use Rattle.exotype.specs.World.{StageState}

-- those of a node with its parts; what isn't there counts as nil
abbrev pub term_size : StageState → TermId → Size
term_size w t = unwrap_or (size_of_term w.store t) leaf

-- those of a typed node with its parts
abbrev pub typed_size : StageState → TermId → Size
typed_size w t = unwrap_or (size_of_typed w.store t) leaf

-- those of nodes side by side
abbrev pub terms_size : StageState → List TermId → Size
terms_size w [] = none
terms_size w (t ∷ ts) = capped (joined (term_size w t) (terms_size w ts))

-- those of a function with so many parameters and this body
abbrev pub function_size : StageState → ℕ → List TermId → Size
function_size w parameters body = capped (above (joined (names_size parameters) (terms_size w body)))
