-- Where assignments store: the object and the key of a target, which of a local are nil.
use Rattle.std.specs.Prelude.{List, [], ◌∷◌}
use Rattle.lua_value.specs.declared.value.Value.{Value}
use Rattle.lua_value.specs.declared.value.Value.TheVariants as values
use Rattle.lua_eval.specs.declared.direct.Spot.{Spot}
use Rattle.lua_eval.specs.declared.direct.Spot.TheVariants as spots

abbrev pub held_in : Spot → List Value
held_in (spots.Local depth position) = values.Nil ∷ values.Nil ∷ []
held_in (spots.Field table key) = values.Table table ∷ key ∷ []
