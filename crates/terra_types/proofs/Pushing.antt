-- What the table keeps when a new type is put behind the others.
use Rattle.std.specs.Prelude.{◌≡◌, refl, ℕ, zero, suc, ◌+◌, ◌<◌, ◌≤◌, Bool, true, false, ◌&&◌, ◌==◌, List, [], ◌∷◌, ◌++◌, length, take}
use Rattle.std.specs.Prelude.{position, nat_lt, cond, Option, Some, None, slice_get, ◌⊎◌}
use mathlib.Core.Logic.{inl, inr}
use Rattle.std.proofs.Common.{sym, ◌∙◌, ap, subst, arith, eq-eqb, true≢false}
use Rattle.std.specs.List.{position_or_len}
use Rattle.std.proofs.lemmas.Bool.{ltb-false}
use Rattle.std.proofs.lemmas.List.Sums.{fails_before_first}
use Rattle.std.proofs.lemmas.Option.{none-some, same_Some, slice_get_within, slice_get-map, get_or_from_slice_get}
use Rattle.std.specs.Option.{option_map}
use Rattle.tl_base.specs.declared.ids.TypeId.{TypeId}
use Rattle.tl_base.specs.declared.place.Place.{Place}
use Rattle.terra_types.specs.declared.key.TypeKey.{TypeKey}
use Rattle.terra_types.specs.declared.layout.Layout.{Layout}
use Rattle.terra_types.specs.declared.table.Kept.{Kept}
use Rattle.terra_types.specs.declared.types.Integer.TheVariants.{Int8, Int16, Int32, Int64, Uint8, Uint16, Uint32, Uint64}
use Rattle.terra_types.specs.declared.types.TypeForm.{TypeForm}
use Rattle.terra_types.specs.declared.types.TypeForm.TheVariants as forms
use Rattle.terra_types.specs.Kept.{AllFit, Fits, AreKept, AreLawful, forms_in, elements_in, elements_for}
use Rattle.terra_types.specs.Sizes.{Within, settled}
use Rattle.terra_types.specs.Elements.{elements_of}
use Rattle.terra_types.proofs.Keys.{length-forms}
use Rattle.terra_types.specs.Making.{is_same, same_types, structs_in}
use Rattle.terra_types.specs.Opening.{NamesBelow}
use Rattle.terra_types.proofs.Growing.{get-left}
use Rattle.terra_types.proofs.Inserting.{map-push}

-- ---- lists

-- an element of a list with one more is among the first, or the last
pub data Where {A : Type 0} (xs : List A) (x : A) (i : ℕ) (y : A) : Type 0 where
  before : i < length xs → slice_get xs i ≡ Some y → Where xs x i y
  last : i ≡ length xs → x ≡ y → Where xs x i y

pub where-push : {A : Type 0} (xs : List A) (x : A) (i : ℕ) (y : A) → slice_get (xs ++ x ∷ []) i ≡ Some y → Where xs x i y
where-push [] x zero y h = last refl (same_Some x y h)
where-push [] x (suc i) y h = absurd (none-some y h)
where-push (z ∷ xs) x zero y h = before (omega arith) h
where-push (z ∷ xs) x (suc i) y h = step (where-push xs x i y h)
  where
    step : Where xs x i y → Where (z ∷ xs) x (suc i) y
    step (before lt at) = before (omega (arith, lt)) at
    step (last e same) = last (ap suc e) same

-- what holds of the last holds of each, unless it is among the first
pub come : {A : Type 0} (P : A → Type 0) (xs : List A) (x : A) → P x → (i : ℕ) (y : A) → Where xs x i y →
    (slice_get xs i ≡ Some y) ⊎ P y
come P xs x p i y (before lt at) = inl at
come P xs x p i y (last same is) = inr (subst P is p)

take-push : {A : Type 0} (xs : List A) (x : A) (i : ℕ) → i ≤ length xs → take i (xs ++ x ∷ []) ≡ take i xs
take-push [] x zero h = refl
take-push [] x (suc i) h = absurd (omega (arith, h))
take-push (z ∷ xs) x zero h = refl
take-push (z ∷ xs) x (suc i) h = ap (λ l. z ∷ l) (take-push xs x i (omega (arith, h)))

take-all : {A : Type 0} (xs : List A) → take (length xs) xs ≡ xs
take-all [] = refl
take-all (x ∷ xs) = ap (λ l. x ∷ l) (take-all xs)

-- ---- forms are the same as themselves, and one that isn't found is none of the list

nat_self : (n : ℕ) → (n == n) ≡ true
nat_self n = eq-eqb n n refl

types_self : (ts : List TypeId) → same_types ts ts ≡ true
types_self [] = refl
types_self (t ∷ ts) = ap (λ b. b && same_types ts ts) (nat_self t.0) ∙ types_self ts

pub is_same-self : (f : TypeForm) → is_same f f ≡ true
is_same-self (forms.Integer Int8) = refl
is_same-self (forms.Integer Int16) = refl
is_same-self (forms.Integer Int32) = refl
is_same-self (forms.Integer Int64) = refl
is_same-self (forms.Integer Uint8) = refl
is_same-self (forms.Integer Uint16) = refl
is_same-self (forms.Integer Uint32) = refl
is_same-self (forms.Integer Uint64) = refl
is_same-self forms.Bool = refl
is_same-self forms.Unit = refl
is_same-self (forms.Pointer t) = nat_self t.0
is_same-self (forms.Array t n) = ap (λ b. b && (n == n)) (nat_self t.0) ∙ nat_self n
is_same-self (forms.Function ps r) = ap (λ b. b && (r.0 == r.0)) (types_self ps) ∙ nat_self r.0
is_same-self (forms.Struct n p l) = nat_self n

none_past : (n m : ℕ) → cond (nat_lt n m) (Some n) None ≡ None → m ≤ n
none_past n m h = step (nat_lt n m) refl h
  where
    step : (b : Bool) → nat_lt n m ≡ b → cond b (Some n) None ≡ None → m ≤ n
    step true e h = absurd (none-some n (sym h))
    step false e h = ltb-false n m e

pub not_found : {A : Type 0} (p : A → Bool) (xs : List A) → position p xs ≡ None → (i : ℕ) (y : A) → slice_get xs i ≡ Some y → p y ≡ false
not_found p xs h i y at =
    ap p (sym (get_or_from_slice_get xs i y y at)) ∙
    fails_before_first p xs i y (omega (arith, none_past (position_or_len p xs) (length xs) h, slice_get_within xs i y at))

-- ---- what the table keeps

-- a form that may come behind others
pub record Comes (types : List TypeForm) (form : TypeForm) : Type 0 where
  pub new : position (is_same form) types ≡ None
  pub below : NamesBelow (length types) form
  pub numbered : (number : ℕ) (place : Place) (layout : Option Layout) → form ≡ forms.Struct number place layout → number ≡ structs_in types + 1
  pub unsettled : (number : ℕ) (place : Place) (layout : Layout) → form ≡ forms.Struct number place (Some layout) → ⊥

alone-push : (types : List TypeForm) (form : TypeForm) → AreLawful types → Comes types form → (i j : ℕ) (t : TypeForm) → Where types form i t → Where types form j t → i ≡ j
alone-push types form l c i j t (before lt at) (before lu au) = l.alone i j t at au
alone-push types form l c i j t (before lt at) (last e same) =
    absurd (true≢false (sym (is_same-self form) ∙ not_found (is_same form) types c.new i form (at ∙ ap Some (sym same))))
alone-push types form l c i j t (last e same) (before lu au) =
    absurd (true≢false (sym (is_same-self form) ∙ not_found (is_same form) types c.new j form (au ∙ ap Some (sym same))))
alone-push types form l c i j t (last e same) (last f also) = e ∙ sym f

before-push : (types : List TypeForm) (form : TypeForm) → AreLawful types → Comes types form → (i : ℕ) (t : TypeForm) → Where types form i t → NamesBelow i t
before-push types form l c i t (before lt at) = l.before i t at
before-push types form l c i t (last e same) =
    subst (λ n. NamesBelow n t) (sym e) (subst (λ f. NamesBelow (length types) f) same c.below)

numbered-push : (types : List TypeForm) (form : TypeForm) → AreLawful types → Comes types form → (i number : ℕ) (place : Place) (layout : Option Layout) → Where types form i (forms.Struct number place layout) → number ≡ structs_in (take i (types ++ form ∷ [])) + 1
numbered-push types form l c i number place layout (before lt at) =
    l.numbered i number place layout at ∙ ap (λ ts. structs_in ts + 1) (sym (take-push types form i (omega (arith, lt))))
numbered-push types form l c i number place layout (last e same) =
    c.numbered number place layout same ∙
    ap (λ ts. structs_in ts + 1) (sym (ap (λ n. take n (types ++ form ∷ [])) e ∙ (take-push types form (length types) (omega arith) ∙ take-all types)))

limited-push : (types : List TypeForm) (form : TypeForm) → AreLawful types → Comes types form → (i number : ℕ) (place : Place) (layout : Layout) → Where types form i (forms.Struct number place (Some layout)) → Within (settled layout)
limited-push types form l c i number place layout (before lt at) = l.limited i number place layout at
limited-push types form l c i number place layout (last e same) = absurd (c.unsettled number place layout same)

pub lawful-push : (types : List TypeForm) (form : TypeForm) → AreLawful types → Comes types form → AreLawful (types ++ form ∷ [])
lawful-push types form l c =
    record {
      alone = λ i j t at also. alone-push types form l c i j t (where-push types form i t at) (where-push types form j t also);
      before = λ i t at. before-push types form l c i t (where-push types form i t at);
      numbered = λ i n p o at. numbered-push types form l c i n p o (where-push types form i (forms.Struct n p o) at);
      limited = λ i n p o at. limited-push types form l c i n p o (where-push types form i (forms.Struct n p (Some o)) at);
    }

-- ---- entries

pub fit-push : (es : List (TypeKey × Kept)) (e : TypeKey × Kept) → AllFit es → Fits e.0 e.1.form → AllFit (es ++ e ∷ [])
fit-push [] e fit f = (f, tt)
fit-push (x ∷ es) e fit f = (fit.0, fit-push es e fit.1 f)

-- what is kept of an array's elements reads earlier types alone
elements-push : (es : List (TypeKey × Kept)) (e : TypeKey × Kept) (n : ℕ) (form : TypeForm) → n ≤ length es → NamesBelow n form → elements_for (es ++ e ∷ []) form ≡ elements_for es form
elements-push es e n (forms.Array t m) h below =
    ap (λ o. Some (elements_of t m (elements_in o))) (get-left es (e ∷ []) t.0 (omega (arith, h, below)))
elements-push es e n (forms.Integer i) h below = refl
elements-push es e n forms.Bool h below = refl
elements-push es e n forms.Unit h below = refl
elements-push es e n (forms.Pointer t) h below = refl
elements-push es e n (forms.Function ps r) h below = refl
elements-push es e n (forms.Struct m p l) h below = refl

pub form-at : (es : List (TypeKey × Kept)) (i : ℕ) (e : TypeKey × Kept) → slice_get es i ≡ Some e → slice_get (forms_in es) i ≡ Some e.1.form
form-at es i e at = slice_get-map (λ e. e.1.form) es i ∙ ap (option_map (λ e. e.1.form)) at

elements-at-push : (es : List (TypeKey × Kept)) (e : TypeKey × Kept) → AreKept es → NamesBelow (length es) e.1.form → e.1.elements ≡ elements_for es e.1.form → (i : ℕ) (x : TypeKey × Kept) → Where es e i x → x.1.elements ≡ elements_for (es ++ e ∷ []) x.1.form
elements-at-push es e k below own i x (before lt at) =
    k.elements i x at ∙ sym (elements-push es e i x.1.form (omega (arith, lt)) (k.lawful.before i x.1.form (form-at es i x at)))
elements-at-push es e k below own i x (last h same) =
    subst (λ y. y.1.elements ≡ elements_for (es ++ e ∷ []) y.1.form) same
    (own ∙ sym (elements-push es e (length es) e.1.form (omega arith) below))

pub kept-push : (es : List (TypeKey × Kept)) (e : TypeKey × Kept) → AreKept es → Fits e.0 e.1.form → e.1.elements ≡ elements_for es e.1.form → Comes (forms_in es) e.1.form → AreKept (es ++ e ∷ [])
kept-push es e k fits own c =
    record {
      fitting = fit-push es e k.fitting fits;
      elements = λ i x at. elements-at-push es e k (subst (λ n. NamesBelow n e.1.form) (sym (length-forms es)) c.below) own i x (where-push es e i x at);
      lawful = subst AreLawful (sym (map-push (λ e. e.1.form) es e)) (lawful-push (forms_in es) e.1.form k.lawful c);
    }
