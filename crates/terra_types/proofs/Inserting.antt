-- Entries of a table: a new key goes last.
use Rattle.std.specs.Prelude.{◌≡◌, refl, Bool, true, false, is_some, List, [], ◌∷◌, ◌++◌, map, Option, Some, None, if◌then◌else◌}
use Rattle.std.proofs.Common.{sym, ap, true≢false}
use Rattle.std.proofs.lemmas.Option.{none-some}
use Rattle.std.specs.Map.{lookup}
use Rattle.indexmap.specs.IndexMap.{insert_entry}

pub none_at : {A : Type 0} (o : Option A) → is_some o ≡ false → o ≡ None
none_at None h = refl
none_at (Some x) h = absurd (true≢false h)

pub map-push : {A B : Type 0} (f : A → B) (xs : List A) (x : A) → map f (xs ++ x ∷ []) ≡ map f xs ++ f x ∷ []
map-push f [] x = refl
map-push f (y ∷ ys) x = ap (λ l. f y ∷ l) (map-push f ys x)

pub insert-new : {K V : Type 0} (eq : K → K → Bool) (es : List (K × V)) (k : K) (v : V) → lookup (eq k) es ≡ None → insert_entry eq es k v ≡ es ++ (k, v) ∷ []
insert-new eq [] k v h = refl
insert-new eq (e ∷ es) k v h = step (eq k e.0) h (insert-new eq es k v)
  where
    step : (b : Bool) → (if b then Some e.1 else lookup (eq k) es) ≡ None → (lookup (eq k) es ≡ None → insert_entry eq es k v ≡ es ++ (k, v) ∷ []) → (if b then (e.0, v) ∷ es else e ∷ insert_entry eq es k v) ≡ e ∷ (es ++ (k, v) ∷ [])
    step true h ih = absurd (none-some e.1 (sym h))
    step false h ih = ap (λ l. e ∷ l) (ih h)
