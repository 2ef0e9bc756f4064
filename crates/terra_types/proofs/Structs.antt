-- Structs are counted: a new one is none of those that there are.
use Rattle.std.specs.Prelude.{◌≡◌, refl, ℕ, zero, suc, ◌+◌, ◌<◌, ◌≤◌, Bool, true, false, not, ◌==◌, cond, nat_lt, List, [], ◌∷◌, ◌++◌}
use Rattle.std.specs.Prelude.{length, take, position, slice_get, Option, Some, None}
use Rattle.std.proofs.Common.{sym, ◌∙◌, ap, subst, arith}
use Rattle.std.specs.List.{position_or_len}
use Rattle.std.proofs.lemmas.Bool.{le-ltb, eqb-true}
use Rattle.std.proofs.lemmas.Option.{none-some, same_Some}
use Rattle.tl_base.specs.declared.place.Place.{Place}
use Rattle.terra_types.specs.declared.key.TypeKey.{TypeKey}
use Rattle.terra_types.specs.declared.key.TypeKey.TheVariants as keys
use Rattle.terra_types.specs.declared.layout.Layout.{Layout}
use Rattle.terra_types.specs.declared.table.Kept.{Kept}
use Rattle.terra_types.specs.declared.types.TypeForm.{TypeForm}
use Rattle.terra_types.specs.declared.types.TypeForm.TheVariants as forms
use Rattle.terra_types.specs.Holding.{IsHeld}
use Rattle.terra_types.specs.Kept.{AreLawful, forms_in, kept_in, plain, with_kept}
use Rattle.terra_types.specs.Making.{is_same, id_in, id_of, structs_in, with_struct}
use Rattle.terra_types.proofs.Held.{is_struct, counted, held-push}
use Rattle.terra_types.proofs.Inserting.{map-push}
use Rattle.terra_types.proofs.Pushing.{Comes}

pub structs_in-cons : (form : TypeForm) (types : List TypeForm) → structs_in (form ∷ types) ≡ counted (is_struct form) (structs_in types)
structs_in-cons (forms.Integer i) types = refl
structs_in-cons forms.Bool types = refl
structs_in-cons forms.Unit types = refl
structs_in-cons (forms.Pointer t) types = refl
structs_in-cons (forms.Array t n) types = refl
structs_in-cons (forms.Function ps r) types = refl
structs_in-cons (forms.Struct n p l) types = omega arith

counted-most : (b : Bool) (n : ℕ) → counted b n ≤ n + 1
counted-most true n = omega arith
counted-most false n = omega arith

pub structs_in-most : (types : List TypeForm) → structs_in types ≤ length types
structs_in-most [] = omega arith
structs_in-most (f ∷ types) =
    omega (arith, structs_in-cons f types, counted-most (is_struct f) (structs_in types), structs_in-most types)

pub counted-grows : (b : Bool) (m n : ℕ) → m < n → counted b m < counted b n
counted-grows true m n h = omega (arith, h)
counted-grows false m n h = h

pub structs-before : (types : List TypeForm) (i n : ℕ) (p : Place) (l : Option Layout) → slice_get types i ≡ Some (forms.Struct n p l) → structs_in (take i types) < structs_in types
structs-before [] i n p l h = absurd (none-some _ h)
structs-before (f ∷ types) zero n p l h =
    omega (arith, ap (λ g. structs_in (g ∷ types)) (same_Some f (forms.Struct n p l) h))
structs-before (f ∷ types) (suc i) n p l h =
    omega (arith, structs_in-cons f types, structs_in-cons f (take i types), counted-grows (is_struct f) (structs_in (take i types)) (structs_in types) (structs-before types i n p l h))

-- what fails at each element isn't found
all_fail : {A : Type 0} (p : A → Bool) (xs : List A) → ((i : ℕ) (y : A) → slice_get xs i ≡ Some y → p y ≡ false) → position_or_len p xs ≡ length xs
all_fail p [] h = refl
all_fail p (x ∷ xs) h =
    ap (λ b. cond (not b) (1 + position_or_len p xs) 0) (h 0 x refl) ∙ omega (arith, all_fail p xs (λ i y at. h (suc i) y at))

pub not_there : {A : Type 0} (p : A → Bool) (xs : List A) → ((i : ℕ) (y : A) → slice_get xs i ≡ Some y → p y ≡ false) → position p xs ≡ None
not_there p xs h =
    ap (λ n. cond (nat_lt n (length xs)) (Some n) None) (all_fail p xs h) ∙
    ap (λ b. cond b (Some (length xs)) None) (le-ltb (length xs) (length xs) (omega arith))

pub differs : (n m : ℕ) → m < n → (n == m) ≡ false
differs n m h = step (n == m) refl
  where
    step : (b : Bool) → (n == m) ≡ b → b ≡ false
    step true e = absurd (omega (arith, h, eqb-true n m e))
    step false e = refl

new_number : (types : List TypeForm) → AreLawful types → (number : ℕ) (place : Place) → number ≡ structs_in types + 1 → (i : ℕ) (y : TypeForm) → slice_get types i ≡ Some y → is_same (forms.Struct number place None) y ≡ false
new_number types l number place e i (forms.Integer j) at = refl
new_number types l number place e i forms.Bool at = refl
new_number types l number place e i forms.Unit at = refl
new_number types l number place e i (forms.Pointer t) at = refl
new_number types l number place e i (forms.Array t n) at = refl
new_number types l number place e i (forms.Function ps r) at = refl
new_number types l number place e i (forms.Struct m p o) at =
    differs number m (omega (arith, e, l.numbered i m p o at, structs-before types i m p o at))

module _ (es : List (TypeKey × Kept)) (n number : ℕ) (place : Place) (h : IsHeld es n) (e : number ≡ n + 1) where
  abbrev form : TypeForm
  form = forms.Struct number place None

  count : number ≡ structs_in (forms_in es) + 1
  count = e ∙ ap (λ m. m + 1) h.counted

  new_struct-new : position (is_same form) (forms_in es) ≡ None
  new_struct-new = not_there (is_same form) (forms_in es) (new_number (forms_in es) h.kept.lawful number place count)

  struct-comes : Comes (forms_in es) form
  struct-comes =
      record {
        new = new_struct-new;
        below = omega arith;
        numbered = λ m p l same. cc (count, number_of same);
        unsettled = λ m p l same. cc;
      }
    where
      number_of : {m : ℕ} {p : Place} {l : Option Layout} → form ≡ forms.Struct m p l → number ≡ m
      number_of same = cc

  pub held-struct : IsHeld (with_kept es (keys.Struct number) (plain form)) number
  held-struct =
      subst (λ o. IsHeld (kept_in o es (keys.Struct number) (plain form)) number) (sym new_struct-new)
      (subst (λ m. IsHeld (es ++ (keys.Struct number, plain form) ∷ []) m) (sym e) (held-push es n (keys.Struct number) (plain form) h refl refl struct-comes))

  pub struct-id : id_of (forms_in es) form ≡ record { 0 = length (forms_in es) }
  struct-id = ap (λ o. id_in o (forms_in es)) new_struct-new

  pub struct-types : forms_in (with_kept es (keys.Struct number) (plain form)) ≡ with_struct (forms_in es) place
  struct-types =
      ap (λ o. forms_in (kept_in o es (keys.Struct number) (plain form))) new_struct-new ∙
      (map-push (λ x. x.1.form) es (keys.Struct number, plain form) ∙
      ap (λ m. forms_in es ++ forms.Struct m place None ∷ []) count)
