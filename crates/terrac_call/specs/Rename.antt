-- What is due for `rename`: the source with its locals renamed. No line end is added.
use Rattle.std.specs.Prelude.{ℕ, ◌≡◌, List}
use Rattle.tl_base.specs.declared.place.Place.{Place}
use Rattle.tl_tree.specs.Code.{Items}
use Rattle.tl_renaming.specs.Renamed.{renamed}
use Rattle.terrac_call.specs.Due.{Due, given, IsDueOfSource}

-- for a source whose tree has these nodes
abbrev pub IsTreeDue : List ℕ → Items → Place → Due → Type 0
IsTreeDue bytes items finish due = due ≡ given (renamed items bytes)

-- for the bytes of a source
abbrev pub IsRenameDue : List ℕ → Due → Type 0
IsRenameDue bytes due = IsDueOfSource (IsTreeDue bytes) bytes due
