-- The types that are there from the begin, and what every list of types keeps.
use Rattle.std.specs.Prelude.{◌≡◌, ℕ, ◌+◌, ◌<◌, ◌≤◌, List, [], ◌∷◌, ◌++◌, take, Option, Some, slice_get}
use Rattle.tl_base.specs.declared.place.Place.{Place}
use Rattle.tl_base.specs.declared.ids.TypeId.{TypeId}
use Rattle.terra_types.specs.declared.types.Integer.TheVariants.{Int8, Int16, Int32, Int64, Uint8, Uint16, Uint32, Uint64}
use Rattle.terra_types.specs.declared.types.TypeForm.{TypeForm}
use Rattle.terra_types.specs.declared.types.TypeForm.TheVariants as forms
use Rattle.terra_types.specs.declared.layout.Layout.{Layout}
use Rattle.terra_types.specs.Sizes.{Within, settled}
use Rattle.terra_types.specs.Making.{structs_in}

-- integers, the smallest first and those with a sign before those without; bool; unit; and a pointer to int8, the type of texts
abbrev pub opening_types : List TypeForm
opening_types =
    forms.Integer Int8 ∷ forms.Integer Int16 ∷ forms.Integer Int32 ∷ forms.Integer Int64 ∷
    forms.Integer Uint8 ∷ forms.Integer Uint16 ∷ forms.Integer Uint32 ∷ forms.Integer Uint64 ∷
    forms.Bool ∷ forms.Unit ∷ forms.Pointer (record { 0 = 0 }) ∷ []

abbrev pub int32 : TypeId
int32 = record { 0 = 2 }

abbrev pub int64 : TypeId
int64 = record { 0 = 3 }

abbrev pub uint8 : TypeId
uint8 = record { 0 = 4 }

abbrev pub uint64 : TypeId
uint64 = record { 0 = 7 }

abbrev pub boolean : TypeId
boolean = record { 0 = 8 }

abbrev pub unit : TypeId
unit = record { 0 = 9 }

abbrev pub rawstring : TypeId
rawstring = record { 0 = 10 }

abbrev pub NamesBelow : ℕ → TypeForm → Type 0
NamesBelow n (forms.Pointer t) = t.0 < n
NamesBelow n (forms.Array t m) = t.0 < n
NamesBelow n (forms.Function params result) = ((i : ℕ) (t : TypeId) → slice_get params i ≡ Some t → t.0 < n) × (result.0 < n)
NamesBelow n _ = 1 ≤ 1

-- What every list of types keeps: equal types have equal ids, and a type is made of types that were there before it. A struct
-- has a number of its own, counted from 1, so it equals no other; and a layout that is settled is within the limit.
pub record AreTypes (types : List TypeForm) : Type 0 where
  pub opened : (later : List TypeForm) × (types ≡ opening_types ++ later)
  pub alone : (i j : ℕ) (t : TypeForm) → slice_get types i ≡ Some t → slice_get types j ≡ Some t → i ≡ j
  pub before : (i : ℕ) (t : TypeForm) → slice_get types i ≡ Some t → NamesBelow i t
  pub numbered : (i number : ℕ) (place : Place) (layout : Option Layout) →
      slice_get types i ≡ Some (forms.Struct number place layout) → number ≡ structs_in (take i types) + 1
  pub limited : (i number : ℕ) (place : Place) (layout : Layout) →
      slice_get types i ≡ Some (forms.Struct number place (Some layout)) → Within (settled layout)
