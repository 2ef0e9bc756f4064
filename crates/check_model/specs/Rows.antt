-- Lists as the code keeps them.
use Rattle.std.specs.Prelude.{◌≡◌, List, [], ◌∷◌, Option, Some, None}
use Rattle.tl_base.specs.declared.ids.FnId.{FnId}
use Rattle.tl_base.specs.declared.place.Place.{Place}
use Rattle.check_model.specs.declared.job.Reached.{Reached}

-- what is left once the first item is taken, if there is one
abbrev pub IsTaken : {T : Type 0} → List T → Option T → List T → Type 0
IsTaken old None new = old ≡ []
IsTaken old (Some x) new = old ≡ x ∷ new

-- a function that was reached, as the table of a queue keeps it: a view of the code, which private contracts cite
abbrev pub reached_of : FnId × Option (Place × FnId) → Reached
reached_of e = record { function = e.0; by = e.1 }
