-- The entries of a layout under their names, and as a list.
use Rattle.std.specs.Prelude.{◌≡◌, refl, Bool, true, false, ◌||◌, nat_eq, is_some, List, [], ◌∷◌, map, Option, Some, None, if◌then◌else◌}
use Rattle.std.specs.Map.{lookup, lookup_key}
use Rattle.tl_base.specs.declared.ids.TextId.{TextId}
use Rattle.terra_types.specs.declared.layout.Laid.{Laid}
use Rattle.terra_types.specs.declared.layout.Spot.{Spot}
use Rattle.terra_types.specs.Layouts.{entry_named, is_laid}
use Rattle.terra_types.specs.Spots.{laid_of}

abbrev pub found : Option TextId → Option Spot → Option Laid
found (Some k) (Some s) = Some (laid_of (k, s))
found _ _ = None

abbrev pub named : TextId → TextId → Bool
named field k = nat_eq field.0 k.0

pub entry_named-laid : (field : TextId) (es : List (TextId × Spot)) → entry_named field (map laid_of es) ≡ found (lookup_key (named field) es) (lookup (named field) es)
entry_named-laid field [] = refl
entry_named-laid field (e ∷ es) = step (nat_eq field.0 e.0.0) (entry_named-laid field es)
  where
    step : (b : Bool) → entry_named field (map laid_of es) ≡ found (lookup_key (named field) es) (lookup (named field) es) → (if b then Some (laid_of e) else entry_named field (map laid_of es)) ≡ found (if b then Some e.0 else lookup_key (named field) es) (if b then Some e.1 else lookup (named field) es)
    step true h = refl
    step false h = h

pub is_laid-laid : (field : TextId) (es : List (TextId × Spot)) → is_laid field (map laid_of es) ≡ is_some (lookup (named field) es)
is_laid-laid field [] = refl
is_laid-laid field (e ∷ es) = step (nat_eq field.0 e.0.0) (is_laid-laid field es)
  where
    step : (b : Bool) → is_laid field (map laid_of es) ≡ is_some (lookup (named field) es) → (b || is_laid field (map laid_of es)) ≡ is_some (if b then Some e.1 else lookup (named field) es)
    step true h = refl
    step false h = h
