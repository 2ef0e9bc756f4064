-- The table of types: a view of the code, which private contracts cite.
use Rattle.std.specs.Prelude.{◌≡◌, ℕ, ◌+◌, List, [], ◌∷◌, ◌++◌, map, take, position, slice_get, Option, Some, None}
use Rattle.std.specs.Option.{option_map}
use Rattle.indexmap.specs.Layout.{set_value_at}
use Rattle.tl_base.specs.declared.place.Place.{Place}
use Rattle.tl_base.specs.declared.ids.TypeId.{TypeId}
use Rattle.terra_types.specs.declared.elements.Elements.{Elements}
use Rattle.terra_types.specs.declared.key.TypeKey.{TypeKey}
use Rattle.terra_types.specs.declared.key.TypeKey.TheVariants as keys
use Rattle.terra_types.specs.declared.layout.Layout.{Layout}
use Rattle.terra_types.specs.declared.table.Kept.{Kept}
use Rattle.terra_types.specs.declared.types.TypeForm.{TypeForm}
use Rattle.terra_types.specs.declared.types.TypeForm.TheVariants as forms
use Rattle.terra_types.specs.declared.measure.Measure.{Measure}
use Rattle.terra_types.specs.Elements.{elements_of, spread}
use Rattle.terra_types.specs.Making.{is_same, structs_in, with_layout}
use Rattle.terra_types.specs.Opening.{NamesBelow}
use Rattle.terra_types.specs.Sizes.{Within, settled, for_some, measured}

abbrev pub forms_in : List (TypeKey × Kept) → List TypeForm
forms_in entries = map (λ e. e.1.form) entries

-- ---- keys

abbrev origin : Place
origin = record { line = 1; word = 1 }

-- a form of a key; of a struct only its number counts
abbrev pub form_of_key : TypeKey → TypeForm
form_of_key (keys.Integer i) = forms.Integer i
form_of_key keys.Bool = forms.Bool
form_of_key keys.Unit = forms.Unit
form_of_key (keys.Pointer t) = forms.Pointer t
form_of_key (keys.Array t n) = forms.Array t n
form_of_key (keys.Function params result) = forms.Function params.items result
form_of_key (keys.Struct number) = forms.Struct number origin None

abbrev pub bare : TypeForm → TypeForm
bare (forms.Struct number place layout) = forms.Struct number origin None
bare form = form

abbrev pub Fits : TypeKey → TypeForm → Type 0
Fits key form = form_of_key key ≡ bare form

abbrev pub AllFit : List (TypeKey × Kept) → Type 0
AllFit [] = Unit {0}
AllFit (e ∷ es) = Fits e.0 e.1.form × AllFit es

-- ---- what is there after a type is asked for

abbrev pub kept_in : Option ℕ → List (TypeKey × Kept) → TypeKey → Kept → List (TypeKey × Kept)
kept_in (Some place) entries key kept = entries
kept_in None entries key kept = entries ++ (key, kept) ∷ []

abbrev pub with_kept : List (TypeKey × Kept) → TypeKey → Kept → List (TypeKey × Kept)
with_kept entries key kept = kept_in (position (is_same kept.form) (forms_in entries)) entries key kept

-- what is kept of a type that is no array
abbrev pub plain : TypeForm → Kept
plain form = record { form = form; elements = None }

-- ---- elements

abbrev pub elements_in : Option (TypeKey × Kept) → Option Elements
elements_in None = None
elements_in (Some e) = e.1.elements

-- what is kept of the elements of a type
abbrev pub elements_at : List (TypeKey × Kept) → TypeId → Option Elements
elements_at entries t = elements_in (slice_get entries t.0)

abbrev pub elements_for : List (TypeKey × Kept) → TypeForm → Option Elements
elements_for entries (forms.Array t n) = Some (elements_of t n (elements_at entries t))
elements_for entries form = None

-- ---- measures, as they are read

-- what is kept of a type
abbrev pub kept_at : List (TypeKey × Kept) → TypeId → Option Kept
kept_at entries t = option_map (λ e. e.1) (slice_get entries t.0)

abbrev pub own_measure : Kept → Option Measure
own_measure kept = measured [] kept.form

abbrev pub by_elements : List (TypeKey × Kept) → Kept → Option Elements → Option Measure
by_elements entries kept None = own_measure kept
by_elements entries kept (Some x) = for_some (for_some (kept_at entries x.of) own_measure) (spread x)

abbrev pub kept_measure : List (TypeKey × Kept) → TypeId → Option Measure
kept_measure entries t = for_some (kept_at entries t) (λ kept. by_elements entries kept kept.elements)

-- ---- what is there after a struct gets its layout

abbrev pub laid_in : Option (TypeKey × Kept) → List (TypeKey × Kept) → TypeId → Layout → List (TypeKey × Kept)
laid_in None entries t layout = entries
laid_in (Some e) entries t layout = set_value_at entries t.0 (record e.1 { form = with_layout e.1.form layout })

abbrev pub with_laid : List (TypeKey × Kept) → TypeId → Layout → List (TypeKey × Kept)
with_laid entries t layout = laid_in (slice_get entries t.0) entries t layout

-- ---- what the table keeps: as `AreTypes`, but for the types that are there from the begin

pub record AreLawful (types : List TypeForm) : Type 0 where
  pub alone : (i j : ℕ) (t : TypeForm) → slice_get types i ≡ Some t → slice_get types j ≡ Some t → i ≡ j
  pub before : (i : ℕ) (t : TypeForm) → slice_get types i ≡ Some t → NamesBelow i t
  pub numbered : (i number : ℕ) (place : Place) (layout : Option Layout) →
      slice_get types i ≡ Some (forms.Struct number place layout) → number ≡ structs_in (take i types) + 1
  pub limited : (i number : ℕ) (place : Place) (layout : Layout) →
      slice_get types i ≡ Some (forms.Struct number place (Some layout)) → Within (settled layout)

pub record AreKept (entries : List (TypeKey × Kept)) : Type 0 where
  pub fitting : AllFit entries
  pub elements : (i : ℕ) (e : TypeKey × Kept) → slice_get entries i ≡ Some e → e.1.elements ≡ elements_for entries e.1.form
  pub lawful : AreLawful (forms_in entries)
