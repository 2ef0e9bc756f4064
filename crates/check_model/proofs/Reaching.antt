-- The functions of a queue as its table keeps them: one is there where its number is.
use Rattle.std.specs.Prelude.{◌≡◌, refl, Bool, true, false, ◌||◌, nat_eq, is_some, List, [], ◌∷◌, map, Option, Some, if◌then◌else◌}
use Rattle.std.specs.Map.{lookup}
use Rattle.tl_base.specs.declared.ids.FnId.{FnId}
use Rattle.tl_base.specs.declared.place.Place.{Place}
use Rattle.check_model.specs.Checks.{was_reached}
use Rattle.check_model.specs.Rows.{reached_of}

abbrev pub is_function : FnId → FnId → Bool
is_function f g = nat_eq f.0 g.0

pub reached_there : (f : FnId) (es : List (FnId × Option (Place × FnId)))
    → was_reached f (map reached_of es) ≡ is_some (lookup (is_function f) es)
reached_there f [] = refl
reached_there f (e ∷ es) = step (nat_eq f.0 e.0.0) (reached_there f es)
  where
    step : (b : Bool) → was_reached f (map reached_of es) ≡ is_some (lookup (is_function f) es)
        → (b || was_reached f (map reached_of es)) ≡ is_some (if b then Some e.1 else lookup (is_function f) es)
    step true h = refl
    step false h = h
