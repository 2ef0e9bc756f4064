-- What a use's path is.
use Rattle.std.specs.Prelude.{◌≡◌, ℕ, zero, suc, List, [], ◌∷◌, ◌++◌, get_or, Option, None}
use Rattle.tl_base.specs.declared.ids.NodeId.{NodeId}
use Rattle.tl_tree.specs.Code.{Items}
use Rattle.tl_tree.specs.Scopes.{Found, binder}

-- what the nodes below a number find
abbrev pub found_below : Items → ℕ → List (Option Found)
found_below items zero = []
found_below items (suc k) = found_below items k ++ binder items (record { 0 = k }) ∷ []

-- the binders are those of a tree
abbrev pub ArePaths : Items → List (Option Found) → Type 0
ArePaths items binders = (n : NodeId) → get_or binders n.0 None ≡ binder items n
