-- Where the uses of locals find their cells: how many environments outwards, and at which position there.
use Rattle.std.specs.Prelude.{ℕ, Option, option_map}
use Rattle.tl_tree.specs.Scopes.{Found}
-- the binders are those of a tree
pub use Rattle.tl_rename.specs.Answers.{ArePaths}

abbrev pub path_of : Option Found → Option (ℕ × ℕ)
path_of = option_map (λ found. (found.depth, found.position))
