-- Paths of function definitions.
use Rattle.std.specs.Prelude.{Bool, true, false, List, [], ◌∷◌}
use Rattle.tl_base.specs.declared.ids.NodeId.{NodeId}

-- nothing is left
abbrev pub is_end : List NodeId → Bool
is_end [] = true
is_end (n ∷ ns) = false
