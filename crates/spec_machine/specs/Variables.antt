-- What stands in the place of a variable: the symbols that an escape gave, or a name whose symbol is drawn later.
use Rattle.std.specs.Prelude.{List, [], ◌∷◌, Option, Some, None}
use Rattle.tl_base.specs.declared.ids.SymId.{SymId}
use Rattle.tl_base.specs.declared.ids.TypeId.{TypeId}
use Rattle.tl_base.specs.declared.place.Place.{Place}
use Rattle.spec_model.specs.declared.wanted.Wanted.{Wanted}
use Rattle.spec_model.specs.Statements.{given}

abbrev pub wanted_at : Option (List SymId) → Option TypeId → Place → List Wanted
wanted_at (Some xs) of place = given xs of place
wanted_at None of place = record { symbol = None; of = of; place = place } ∷ []
