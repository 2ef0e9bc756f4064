-- The declarations of all nodes below a number.
use Rattle.std.specs.Prelude.{ℕ, zero, suc, List, [], ◌∷◌, ◌++◌}
use Rattle.tl_base.specs.declared.ids.NodeId.{NodeId}
use Rattle.tl_tree.specs.Code.{Items}
use Rattle.tl_tree.specs.Scopes.{declarations}

abbrev pub declared_below : Items → ℕ → List (List NodeId)
declared_below items zero = []
declared_below items (suc k) = declared_below items k ++ declarations items (record { 0 = k }) ∷ []
