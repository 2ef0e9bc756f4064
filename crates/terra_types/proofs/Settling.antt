-- What holds of the table stays when a struct gets its layout.
use Rattle.std.specs.Prelude.{◌≡◌, refl, ℕ, zero, suc, ◌+◌, ◌-◌, ◌<◌, ◌≤◌, Bool, true, false, not, ◌&&◌, IsTrue, ◌⊎◌, List, [], ◌∷◌, ◌++◌}
use Rattle.std.specs.Prelude.{length, map, take, slice_get, slice_set, unwrap_or, Option, Some, None}
use Rattle.std.proofs.Common.{sym, ◌∙◌, ap, subst, inl, inr, arith, true≢false}
use Rattle.std.specs.Option.{option_map}
use Rattle.std.proofs.lemmas.Option.{none-some, same_Some, slice_get-map}
use Rattle.std.proofs.Math.Dec.{leb}
use Rattle.std.proofs.lemmas.Bool.Decides.{leb_tells}
use Rattle.indexmap.specs.Layout.{set_value_at}
use Rattle.tl_base.specs.declared.ids.TypeId.{TypeId}
use Rattle.tl_base.specs.declared.place.Place.{Place}
use Rattle.terra_types.specs.declared.key.TypeKey.{TypeKey}
use Rattle.terra_types.specs.declared.layout.Layout.{Layout}
use Rattle.terra_types.specs.declared.table.Kept.{Kept}
use Rattle.terra_types.specs.declared.types.TypeForm.{TypeForm}
use Rattle.terra_types.specs.declared.types.TypeForm.TheVariants as forms
use Rattle.terra_types.specs.Elements.{elements_of}
use Rattle.terra_types.specs.Holding.{IsHeld}
use Rattle.terra_types.specs.Kept.{AllFit, AreLawful, Fits, bare, elements_for, elements_in, forms_in, laid_in, with_laid}
use Rattle.terra_types.specs.Making.{is_unsettled, awaits_layout, structs_in, with_layout, with_settled}
use Rattle.terra_types.specs.Opening.{NamesBelow, opening_types}
use Rattle.terra_types.specs.Sizes.{Within, settled}
use Rattle.terra_types.proofs.Growing.{get-left}
use Rattle.terra_types.proofs.Held.{is_struct, counted}
use Rattle.terra_types.proofs.Pushing.{form-at}
use Rattle.terra_types.proofs.Structs.{structs_in-cons, counted-grows}

-- ---- lists with another element

data Changed {A : Type 0} (xs : List A) (i : ℕ) (x : A) (j : ℕ) (y : A) : Type 0 where
  here : j ≡ i → x ≡ y → Changed xs i x j y
  there : slice_get xs j ≡ Some y → Changed xs i x j y

changed : {A : Type 0} (xs : List A) (i : ℕ) (x : A) (j : ℕ) (y : A) → slice_get (slice_set xs i x) j ≡ Some y → Changed xs i x j y
changed [] i x j y h = there h
changed (z ∷ xs) zero x zero y h = here refl (same_Some x y h)
changed (z ∷ xs) zero x (suc j) y h = there h
changed (z ∷ xs) (suc i) x zero y h = there h
changed (z ∷ xs) (suc i) x (suc j) y h = step (changed xs i x j y h)
  where
    step : Changed xs i x j y → Changed (z ∷ xs) (suc i) x (suc j) y
    step (here e same) = here (ap suc e) same
    step (there at) = there at

set-right : {A : Type 0} (xs ys : List A) (i : ℕ) (x : A) → length xs ≤ i → slice_set (xs ++ ys) i x ≡ xs ++ slice_set ys (i - length xs) x
set-right [] ys i x h = ap (λ n. slice_set ys n x) (omega arith)
set-right (z ∷ xs) ys zero x h = absurd (omega (arith, h))
set-right (z ∷ xs) ys (suc i) x h =
    ap (λ l. z ∷ l) (set-right xs ys i x (omega (arith, h)) ∙ ap (λ n. xs ++ slice_set ys n x) (omega arith))

-- ---- structs are counted as before

structs_in-set : (types : List TypeForm) (i n : ℕ) (p : Place) (l o : Option Layout) (k : ℕ) → slice_get types i ≡ Some (forms.Struct n p l) → structs_in (take k (slice_set types i (forms.Struct n p o))) ≡ structs_in (take k types)
structs_in-set [] i n p l o k h = absurd (none-some _ h)
structs_in-set (f ∷ types) i n p l o zero h = refl
structs_in-set (f ∷ types) zero n p l o (suc k) h = ap (λ g. structs_in (g ∷ take k types)) (sym (same_Some f (forms.Struct n p l) h))
structs_in-set (f ∷ types) (suc i) n p l o (suc k) h =
    structs_in-cons f (take k (slice_set types i (forms.Struct n p o))) ∙
    (ap (counted (is_struct f)) (structs_in-set types i n p l o k h) ∙ sym (structs_in-cons f (take k types)))

structs_in-settled : (types : List TypeForm) (i n : ℕ) (p : Place) (l o : Option Layout) → slice_get types i ≡ Some (forms.Struct n p l) → structs_in (slice_set types i (forms.Struct n p o)) ≡ structs_in types
structs_in-settled [] i n p l o h = absurd (none-some _ h)
structs_in-settled (f ∷ types) zero n p l o h = ap (λ g. structs_in (g ∷ types)) (sym (same_Some f (forms.Struct n p l) h))
structs_in-settled (f ∷ types) (suc i) n p l o h =
    structs_in-cons f (slice_set types i (forms.Struct n p o)) ∙
    (ap (counted (is_struct f)) (structs_in-settled types i n p l o h) ∙ sym (structs_in-cons f types))

structs-between : (types : List TypeForm) (i k n : ℕ) (p : Place) (l : Option Layout) → i < k → slice_get types i ≡ Some (forms.Struct n p l) → structs_in (take i types) < structs_in (take k types)
structs-between [] i k n p l lt h = absurd (none-some _ h)
structs-between (f ∷ types) i zero n p l lt h = absurd (omega (arith, lt))
structs-between (f ∷ types) zero (suc k) n p l lt h =
    omega (arith, ap (λ g. structs_in (g ∷ take k types)) (same_Some f (forms.Struct n p l) h))
structs-between (f ∷ types) (suc i) (suc k) n p l lt h =
    omega (arith, structs_in-cons f (take i types), structs_in-cons f (take k types), counted-grows (is_struct f) (structs_in (take i types)) (structs_in (take k types)) (structs-between types i k n p l (omega (arith, lt)) h))

data Order (a b : ℕ) : Type 0 where
  less : a < b → Order a b
  equal : a ≡ b → Order a b
  more : b < a → Order a b

compare_to : (a b : ℕ) → Order a b
compare_to a b = elim (leb_tells a b) [ inl h ↦ by (leb_tells b a) h.1 | inr h ↦ more (h.1) ]
  where
    by : ((leb b a ≡ true) × (b ≤ a)) ⊎ ((leb b a ≡ false) × (a < b)) → a ≤ b → Order a b
    by (inl k) h = equal (omega (arith, h, k.1))
    by (inr k) h = less (k.1)

-- two structs of one number are one
same_number : (types : List TypeForm) → AreLawful types → (i j n : ℕ) (p q : Place) (l o : Option Layout) → slice_get types i ≡ Some (forms.Struct n p l) → slice_get types j ≡ Some (forms.Struct n q o) → i ≡ j
same_number types a i j n p q l o h k = by (compare_to i j)
  where
    count : structs_in (take i types) ≡ structs_in (take j types)
    count = omega (arith, a.numbered i n p l h, a.numbered j n q o k)

    by : Order i j → i ≡ j
    by (less lt) = absurd (omega (arith, count, structs-between types i j n p l lt h))
    by (equal e) = e
    by (more gt) = absurd (omega (arith, count, structs-between types j i n q o gt k))

-- ---- the types

module _ (types : List TypeForm) (i n : ℕ) (p : Place) (layout : Layout) (a : AreLawful types) (at : slice_get types i ≡ Some (forms.Struct n p None)) (within : Within (settled layout)) where
  abbrev form : TypeForm
  form = forms.Struct n p (Some layout)

  abbrev after : List TypeForm
  after = slice_set types i form

  alone-set : (j k : ℕ) (g : TypeForm) → Changed types i form j g → Changed types i form k g → j ≡ k
  alone-set j k g (here e same) (here f also) = e ∙ sym f
  alone-set j k g (here e same) (there au) = e ∙ same_number types a i k n p p None (Some layout) at (au ∙ ap Some (sym same))
  alone-set j k g (there au) (here f also) = sym (f ∙ same_number types a i j n p p None (Some layout) at (au ∙ ap Some (sym also)))
  alone-set j k g (there au) (there av) = a.alone j k g au av

  before-set : (j : ℕ) (g : TypeForm) → Changed types i form j g → NamesBelow j g
  before-set j g (here e same) = subst (NamesBelow j) same (omega arith)
  before-set j g (there au) = a.before j g au

  numbered-set : (j number : ℕ) (place : Place) (l : Option Layout) → Changed types i form j (forms.Struct number place l) → number ≡ structs_in (take j after) + 1
  numbered-set j number place l (here e same) =
      number_of same ∙ (a.numbered i n p None at ∙ (ap (λ m. structs_in (take m types) + 1) (sym e) ∙ ap (λ m. m + 1) (sym (structs_in-set types i n p None (Some layout) j at))))
    where
      number_of : form ≡ forms.Struct number place l → number ≡ n
      number_of same = cc
  numbered-set j number place l (there au) =
      a.numbered j number place l au ∙ ap (λ m. m + 1) (sym (structs_in-set types i n p None (Some layout) j at))

  limited-set : (j number : ℕ) (place : Place) (l : Layout) → Changed types i form j (forms.Struct number place (Some l)) → Within (settled l)
  limited-set j number place l (here e same) = subst (λ k. Within (settled k)) (layout_of_form same) within
    where
      layout_of_form : form ≡ forms.Struct number place (Some l) → layout ≡ l
      layout_of_form same = cc
  limited-set j number place l (there au) = a.limited j number place l au

  pub lawful-set : AreLawful after
  lawful-set =
      record {
        alone = λ j k g au av. alone-set j k g (changed types i form j g au) (changed types i form k g av);
        before = λ j g au. before-set j g (changed types i form j g au);
        numbered = λ j m q l au. numbered-set j m q l (changed types i form j (forms.Struct m q l) au);
        limited = λ j m q l au. limited-set j m q l (changed types i form j (forms.Struct m q (Some l)) au);
      }

-- none of the types that are there from the begin is a struct
abbrev all_plain : List TypeForm → Bool
all_plain [] = true
all_plain (f ∷ fs) = not (is_struct f) && all_plain fs

plain_at : (types : List TypeForm) (i n : ℕ) (p : Place) (l : Option Layout) → all_plain types ≡ true → slice_get types i ≡ Some (forms.Struct n p l) → ⊥
plain_at [] i n p l h at = none-some _ at
plain_at (f ∷ fs) zero n p l h at =
    true≢false (sym h ∙ ap (λ g. not (is_struct g) && all_plain fs) (same_Some f (forms.Struct n p l) at))
plain_at (f ∷ fs) (suc i) n p l h at = plain_at fs i n p l (second (is_struct f) (all_plain fs) h) at
  where
    second : (a b : Bool) → (not a && b) ≡ true → b ≡ true
    second true b h = absurd (true≢false (sym h))
    second false b h = h

behind_opening : (later : List TypeForm) (i n : ℕ) (p : Place) (l : Option Layout) → slice_get (opening_types ++ later) i ≡ Some (forms.Struct n p l) → length opening_types ≤ i
behind_opening later i n p l at = by (compare_to i (length opening_types))
  where
    by : Order i (length opening_types) → length opening_types ≤ i
    by (less lt) = absurd (plain_at opening_types i n p l refl (sym (get-left opening_types later i lt) ∙ at))
    by (equal e) = omega (arith, e)
    by (more gt) = omega (arith, gt)

-- ---- entries

forms_in-set : (es : List (TypeKey × Kept)) (i : ℕ) (w : Kept) → forms_in (set_value_at es i w) ≡ slice_set (forms_in es) i w.form
forms_in-set [] i w = refl
forms_in-set (e ∷ es) zero w = refl
forms_in-set (e ∷ es) (suc i) w = ap (λ l. e.1.form ∷ l) (forms_in-set es i w)

fit-set : (es : List (TypeKey × Kept)) (i : ℕ) (w : Kept) → AllFit es → ((e : TypeKey × Kept) → slice_get es i ≡ Some e → Fits e.0 e.1.form → Fits e.0 w.form) → AllFit (set_value_at es i w)
fit-set [] i w fit h = tt
fit-set (e ∷ es) zero w fit h = (h e refl fit.0, fit.1)
fit-set (e ∷ es) (suc i) w fit h = (fit.0, fit-set es i w fit.1 h)

elements-set : (es : List (TypeKey × Kept)) (i : ℕ) (e : TypeKey × Kept) (w : Kept) (j : ℕ) → slice_get es i ≡ Some e → w.elements ≡ e.1.elements → elements_in (slice_get (set_value_at es i w) j) ≡ elements_in (slice_get es j)
elements-set [] i e w j at same = refl
elements-set (x ∷ es) zero e w zero at same = same ∙ ap (λ y. y.1.elements) (sym (same_Some x e at))
elements-set (x ∷ es) zero e w (suc j) at same = refl
elements-set (x ∷ es) (suc i) e w zero at same = refl
elements-set (x ∷ es) (suc i) e w (suc j) at same = elements-set es i e w j at same

elements_for-set : (es others : List (TypeKey × Kept)) → ((j : ℕ) → elements_in (slice_get others j) ≡ elements_in (slice_get es j)) → (form : TypeForm) → elements_for others form ≡ elements_for es form
elements_for-set es others h (forms.Array t n) = ap (λ o. Some (elements_of t n o)) (h t.0)
elements_for-set es others h (forms.Integer i) = refl
elements_for-set es others h forms.Bool = refl
elements_for-set es others h forms.Unit = refl
elements_for-set es others h (forms.Pointer t) = refl
elements_for-set es others h (forms.Function ps r) = refl
elements_for-set es others h (forms.Struct n p l) = refl

data ChangedEntry (es : List (TypeKey × Kept)) (i : ℕ) (w : Kept) (j : ℕ) (x : TypeKey × Kept) : Type 0 where
  at_place : j ≡ i → w ≡ x.1 → ChangedEntry es i w j x
  elsewhere : slice_get es j ≡ Some x → ChangedEntry es i w j x

changed_entry : (es : List (TypeKey × Kept)) (i : ℕ) (w : Kept) (j : ℕ) (x : TypeKey × Kept) → slice_get (set_value_at es i w) j ≡ Some x → ChangedEntry es i w j x
changed_entry [] i w j x h = elsewhere h
changed_entry (e ∷ es) zero w zero x h = at_place refl (ap (λ y. y.1) (same_Some _ x h))
changed_entry (e ∷ es) zero w (suc j) x h = elsewhere h
changed_entry (e ∷ es) (suc i) w zero x h = elsewhere h
changed_entry (e ∷ es) (suc i) w (suc j) x h = step (changed_entry es i w j x h)
  where
    step : ChangedEntry es i w j x → ChangedEntry (e ∷ es) (suc i) w (suc j) x
    step (at_place f same) = at_place (ap suc f) same
    step (elsewhere at) = elsewhere at

-- ---- the whole table

module _ (es : List (TypeKey × Kept)) (count : ℕ) (i n : ℕ) (p : Place) (layout : Layout) (e : TypeKey × Kept) (h : IsHeld es count) (at : slice_get es i ≡ Some e) (is : e.1.form ≡ forms.Struct n p None) (within : Within (settled layout)) where
  abbrev changed_kept : Kept
  changed_kept = record e.1 { form = forms.Struct n p (Some layout) }

  abbrev types_at : slice_get (forms_in es) i ≡ Some (forms.Struct n p None)
  types_at = form-at es i e at ∙ ap Some is

  elements-held : (j : ℕ) (x : TypeKey × Kept) → ChangedEntry es i changed_kept j x → x.1.elements ≡ elements_for (set_value_at es i changed_kept) x.1.form
  elements-held j x (at_place f same) =
      subst (λ k. k.elements ≡ elements_for (set_value_at es i changed_kept) k.form) same (h.kept.elements i e at ∙ ap (elements_for es) is)
  elements-held j x (elsewhere found) =
      h.kept.elements j x found ∙ sym (elements_for-set es (set_value_at es i changed_kept) (λ k. elements-set es i e changed_kept k at refl) x.1.form)

  held-settled : IsHeld (set_value_at es i changed_kept) count
  held-settled =
      record {
        opened = (
          slice_set h.opened.0 (i - length opening_types) (forms.Struct n p (Some layout)),
          forms_in-set es i changed_kept ∙
              (ap (λ types. slice_set types i (forms.Struct n p (Some layout))) h.opened.1 ∙
              set-right opening_types h.opened.0 i (forms.Struct n p (Some layout)) (behind_opening h.opened.0 i n p None (ap (λ types. slice_get types i) (sym h.opened.1) ∙ types_at))),
        );
        kept = record {
          fitting = fit-set es i changed_kept h.kept.fitting (λ x there fits. fits ∙ ap bare (ap (λ y. y.1.form) (same_Some x e (sym there ∙ at)) ∙ is));
          elements = λ j x there. elements-held j x (changed_entry es i changed_kept j x there);
          lawful = subst AreLawful (sym (forms_in-set es i changed_kept)) (lawful-set (forms_in es) i n p layout h.kept.lawful types_at within);
        };
        counted = h.counted ∙ sym (ap structs_in (forms_in-set es i changed_kept) ∙ structs_in-settled (forms_in es) i n p None (Some layout) types_at);
      }

-- a struct that awaits its layout
awaiting : (form : TypeForm) → IsTrue (awaits_layout form) → (n : ℕ) × ((p : Place) × (form ≡ forms.Struct n p None))
awaiting (forms.Integer i) h = absurd (true≢false (sym h))
awaiting forms.Bool h = absurd (true≢false (sym h))
awaiting forms.Unit h = absurd (true≢false (sym h))
awaiting (forms.Pointer t) h = absurd (true≢false (sym h))
awaiting (forms.Array t n) h = absurd (true≢false (sym h))
awaiting (forms.Function ps r) h = absurd (true≢false (sym h))
awaiting (forms.Struct n p (Some l)) h = absurd (true≢false (sym h))
awaiting (forms.Struct n p None) h = (n, (p, refl))

module _ (es : List (TypeKey × Kept)) (count : ℕ) (t : TypeId) (layout : Layout) (h : IsHeld es count) (unsettled : IsTrue (is_unsettled (forms_in es) t)) (within : Within (settled layout)) where
  unsettled_at : (o : Option (TypeKey × Kept)) → slice_get es t.0 ≡ o → IsTrue (awaits_layout (unwrap_or (option_map (λ e. e.1.form) o) forms.Unit))
  unsettled_at o at = subst (λ x. IsTrue (awaits_layout (unwrap_or x forms.Unit))) (slice_get-map (λ e. e.1.form) es t.0 ∙ ap (option_map (λ e. e.1.form)) at) unsettled

  pub held-laid : IsHeld (with_laid es t layout) count
  held-laid = step (slice_get es t.0) refl
    where
      step : (o : Option (TypeKey × Kept)) → slice_get es t.0 ≡ o → IsHeld (laid_in o es t layout) count
      step None at = absurd (true≢false (sym (unsettled_at None at)))
      step (Some e) at =
          let found = awaiting e.1.form (unsettled_at (Some e) at) in
          subst (λ f. IsHeld (set_value_at es t.0 (record e.1 { form = f })) count) (sym (ap (λ f. with_layout f layout) found.1.1))
          (held-settled es count t.0 found.0 found.1.0 layout e h at found.1.1 within)

  pub forms-laid : forms_in (with_laid es t layout) ≡ with_settled (forms_in es) t (Some layout)
  forms-laid = step (slice_get es t.0) refl
    where
      step : (o : Option (TypeKey × Kept)) → slice_get es t.0 ≡ o → forms_in (laid_in o es t layout) ≡ with_settled (forms_in es) t (Some layout)
      step None at = absurd (true≢false (sym (unsettled_at None at)))
      step (Some e) at =
          forms_in-set es t.0 (record e.1 { form = with_layout e.1.form layout }) ∙
          ap (λ o. slice_set (forms_in es) t.0 (with_layout (unwrap_or o forms.Unit) layout)) (sym (form-at es t.0 e at))

-- ---- what the code writes

pub with_laid-none : (es : List (TypeKey × Kept)) (t : TypeId) (layout : Layout) → None ≡ slice_get (map (λ e. e.1) es) t.0 → es ≡ with_laid es t layout
with_laid-none es t layout none = step (slice_get es t.0) refl
  where
    step : (o : Option (TypeKey × Kept)) → slice_get es t.0 ≡ o → es ≡ laid_in o es t layout
    step None at = refl
    step (Some e) at = absurd (none-some e.1 (none ∙ (slice_get-map (λ e. e.1) es t.0 ∙ ap (option_map (λ e. e.1)) at)))

pub with_laid-same : (es : List (TypeKey × Kept)) (t : TypeId) (layout : Layout) (kept : Kept) → Some kept ≡ slice_get (map (λ e. e.1) es) t.0 → with_layout kept.form layout ≡ kept.form → set_value_at es t.0 kept ≡ with_laid es t layout
with_laid-same es t layout kept some same = step (slice_get es t.0) refl
  where
    step : (o : Option (TypeKey × Kept)) → slice_get es t.0 ≡ o → set_value_at es t.0 kept ≡ laid_in o es t layout
    step None at = absurd (none-some kept (sym (some ∙ (slice_get-map (λ e. e.1) es t.0 ∙ ap (option_map (λ e. e.1)) at))))
    step (Some e) at =
        let is : kept ≡ e.1 = same_Some kept e.1 (some ∙ (slice_get-map (λ e. e.1) es t.0 ∙ ap (option_map (λ e. e.1)) at)) in
        ap (λ f. set_value_at es t.0 (record kept { form = f })) (sym same) ∙
        ap (λ k. set_value_at es t.0 (record k { form = with_layout k.form layout })) is

pub with_layout-plain : (form : TypeForm) (layout : Layout) → ((n : ℕ) (p : Place) (l : Option Layout) → form ≡ forms.Struct n p l → ⊥) → with_layout form layout ≡ form
with_layout-plain (forms.Integer i) layout h = refl
with_layout-plain forms.Bool layout h = refl
with_layout-plain forms.Unit layout h = refl
with_layout-plain (forms.Pointer t) layout h = refl
with_layout-plain (forms.Array t n) layout h = refl
with_layout-plain (forms.Function ps r) layout h = refl
with_layout-plain (forms.Struct n p l) layout h = absurd (h n p l refl)
