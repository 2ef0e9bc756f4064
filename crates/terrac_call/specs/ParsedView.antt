-- What a value of the program shows of how a source reads.
use Rattle.std.specs.Prelude.{◌≡◌, []}
use Rattle.tl_tree.specs.Tree.{Tree}
use Rattle.tl_tree.specs.Nodes.{lay}
use Rattle.tl_tree.specs.Kinds.{IsWellFormedBlock}
use Rattle.tl_tree.specs.Arena.{items_of, end_of}
use Rattle.terrac_call.specs.declared.parsing.Parsed.{Parsed}
use Rattle.terrac_call.specs.declared.parsing.Parsed.TheVariants as parsed
use Rattle.terrac_call.specs.Due.{Reading, IsRefused, IsTree}

-- the refusal, or a tree whose nodes the value has, is a reading of these
abbrev pub Shows : (Reading → Type 0) → Parsed → Type 0
Shows Is (parsed.Refused kind place) = Is (IsRefused kind place)
Shows Is (parsed.Tree tree) =
    (t : Tree) × Is (IsTree t (end_of tree)) × (items_of tree ≡ lay t []) × IsWellFormedBlock t
