-- How plans go on behind an end of another kind than those that they wait for.
use Rattle.std.proofs.Common.{◌≡◌, List, [], refl}
use Rattle.tl_base.specs.declared.place.Place.{Place}
use Rattle.lua_value.specs.declared.value.Value.{Value}
use Rattle.lua_value.specs.declared.value.Value.TheVariants as values
use Rattle.lua_model.specs.declared.end.End.{End}
use Rattle.lua_model.specs.declared.end.End.TheVariants.{One, Many, Fell, Broke, Returned, Raised}
use Rattle.lua_model.specs.Plans.{LuaPlan, on_one, on_all, on_fell}

pub no_statement_ended : (r : End) (out : List Value) (leave : End → LuaPlan) (go : List Value → LuaPlan)
    → ((more : List Value) → r ≡ Fell more → ⊥) → ((more : List Value) → r ≡ Broke more → ⊥)
    → ((vs more : List Value) → r ≡ Returned vs more → ⊥) → ((v : Value) (place : Place) → r ≡ Raised v place → ⊥)
    → on_fell r out leave go ≡ go out
no_statement_ended (One v) out leave go not_fell not_broke not_returned not_raised = refl
no_statement_ended (Many vs) out leave go not_fell not_broke not_returned not_raised = refl
no_statement_ended (Fell more) out leave go not_fell not_broke not_returned not_raised = absurd (not_fell more refl)
no_statement_ended (Broke more) out leave go not_fell not_broke not_returned not_raised = absurd (not_broke more refl)
no_statement_ended (Returned vs more) out leave go not_fell not_broke not_returned not_raised =
    absurd (not_returned vs more refl)
no_statement_ended (Raised v place) out leave go not_fell not_broke not_returned not_raised =
    absurd (not_raised v place refl)

-- an end without a value, where one value is waited for
pub no_value_ended : (r : End) (go : Value → LuaPlan)
    → ((v : Value) → r ≡ One v → ⊥) → ((vs : List Value) → r ≡ Many vs → ⊥) → ((v : Value) (place : Place) → r ≡ Raised v place → ⊥)
    → on_one r go ≡ go values.Nil
no_value_ended (One v) go not_one not_many not_raised = absurd (not_one v refl)
no_value_ended (Many vs) go not_one not_many not_raised = absurd (not_many vs refl)
no_value_ended (Fell out) go not_one not_many not_raised = refl
no_value_ended (Broke out) go not_one not_many not_raised = refl
no_value_ended (Returned vs out) go not_one not_many not_raised = refl
no_value_ended (Raised v place) go not_one not_many not_raised = absurd (not_raised v place refl)

-- an end without values, where all values are waited for
pub no_values_ended : (r : End) (go : List Value → LuaPlan)
    → ((v : Value) → r ≡ One v → ⊥) → ((vs : List Value) → r ≡ Many vs → ⊥) → ((v : Value) (place : Place) → r ≡ Raised v place → ⊥)
    → on_all r go ≡ go []
no_values_ended (One v) go not_one not_many not_raised = absurd (not_one v refl)
no_values_ended (Many vs) go not_one not_many not_raised = absurd (not_many vs refl)
no_values_ended (Fell out) go not_one not_many not_raised = refl
no_values_ended (Broke out) go not_one not_many not_raised = refl
no_values_ended (Returned vs out) go not_one not_many not_raised = refl
no_values_ended (Raised v place) go not_one not_many not_raised = absurd (not_raised v place refl)
