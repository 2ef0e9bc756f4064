-- Where all ids pass the test, each of them is one of a type.
use Rattle.std.proofs.Common.{ℕ, zero, suc, ◌<◌, ◌≡◌, Bool, true, false, ◌&&◌, ltb, List, [], ◌∷◌, length, Some, slice_get, refl, sym, ap}
use Rattle.std.proofs.lemmas.Bool.Decides.{Decides-ltb}
use Rattle.std.specs.List.{list_all}
use Rattle.tl_base.specs.declared.ids.TypeId.{TypeId}
use Rattle.terra_types.specs.declared.types.TypeForm.{TypeForm}
use Rattle.exotype.specs.Types.{is_type}

both : (a b : Bool) → (a && b) ≡ true → (a ≡ true) × (b ≡ true)
both true true h = (refl, refl)
both true false h = absurd (cc h)
both false b h = absurd (cc h)

pub each_type : (types : List TypeForm) (ids : List TypeId) → list_all (is_type types) ids ≡ true →
    (i : ℕ) (t : TypeId) → slice_get ids i ≡ Some t → t.0 < length types
each_type types [] h i t at = absurd (cc at)
each_type types (x ∷ xs) h zero t at =
    let e : x ≡ t = cc at in
    let first = both (is_type types x) (list_all (is_type types) xs) h in
    rw (← e) ((Decides-ltb (x.0) (length types)).0 first.0)
each_type types (x ∷ xs) h (suc i) t at =
    each_type types xs (both (is_type types x) (list_all (is_type types) xs) h).1 i t at
