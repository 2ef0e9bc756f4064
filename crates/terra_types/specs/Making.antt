-- Types as they are made: a type is kept once, and each struct is a type of its own.
use Rattle.std.specs.Prelude.{ℕ, suc, ◌+◌, Bool, true, false, ◌==◌, ◌&&◌, not, List, [], ◌∷◌, ◌++◌, length, position, slice_get, slice_set}
use Rattle.std.specs.Prelude.{unwrap_or, Option, Some, None}
use Rattle.tl_base.specs.declared.place.Place.{Place}
use Rattle.tl_base.specs.declared.ids.TypeId.{TypeId}
use Rattle.terra_types.specs.declared.types.Integer.{Integer}
use Rattle.terra_types.specs.declared.types.TypeForm.{TypeForm}
use Rattle.terra_types.specs.declared.types.TypeForm.TheVariants as forms
use Rattle.terra_types.specs.declared.layout.Layout.{Layout}
use Rattle.terra_types.specs.declared.layout.Settled.{Settled}
use Rattle.terra_types.specs.declared.layout.Settled.TheVariants.{Done, Bad}
use Rattle.terra_types.specs.Sizes.{bytes_of, is_signed}

abbrev pub same_type : TypeId → TypeId → Bool
same_type a b = a.0 == b.0

abbrev pub same_types : List TypeId → List TypeId → Bool
same_types [] [] = true
same_types (a ∷ more) (b ∷ others) = same_type a b && same_types more others
same_types _ _ = false

abbrev same_sign : Bool → Bool → Bool
same_sign true b = b
same_sign false b = not b

abbrev same_integer : Integer → Integer → Bool
same_integer i j = (bytes_of i == bytes_of j) && same_sign (is_signed i) (is_signed j)

-- two forms are one type where they are made of the same parts; a struct is told from all others by its number
abbrev pub is_same : TypeForm → TypeForm → Bool
is_same (forms.Integer i) (forms.Integer j) = same_integer i j
is_same forms.Bool forms.Bool = true
is_same forms.Unit forms.Unit = true
is_same (forms.Pointer t) (forms.Pointer u) = same_type t u
is_same (forms.Array t n) (forms.Array u m) = same_type t u && (n == m)
is_same (forms.Function ps r) (forms.Function qs s) = same_types ps qs && same_type r s
is_same (forms.Struct n p l) (forms.Struct m q k) = n == m
is_same _ _ = false

-- the id of a type: its place in the list where it stands there, and else the place behind the others
abbrev pub id_in : Option ℕ → List TypeForm → TypeId
id_in (Some place) types = record { 0 = place }
id_in None types = record { 0 = length types }

abbrev pub types_in : Option ℕ → List TypeForm → TypeForm → List TypeForm
types_in (Some place) types form = types
types_in None types form = types ++ form ∷ []

abbrev pub id_of : List TypeForm → TypeForm → TypeId
id_of types form = id_in (position (is_same form) types) types

-- the types after one is asked for: it comes last where it is new
abbrev pub with_form : List TypeForm → TypeForm → List TypeForm
with_form types form = types_in (position (is_same form) types) types form

-- structs are counted from 1
abbrev pub structs_in : List TypeForm → ℕ
structs_in [] = 0
structs_in (forms.Struct number place layout ∷ types) = suc (structs_in types)
structs_in (form ∷ types) = structs_in types

-- a new struct, made at a place
abbrev pub new_struct_form : List TypeForm → Place → TypeForm
new_struct_form types place = forms.Struct (structs_in types + 1) place None

abbrev pub with_struct : List TypeForm → Place → List TypeForm
with_struct types place = types ++ new_struct_form types place ∷ []

-- ---- layouts are settled once

abbrev pub awaits_layout : TypeForm → Bool
awaits_layout (forms.Struct number place None) = true
awaits_layout _ = false

-- a struct whose layout isn't settled
abbrev pub is_unsettled : List TypeForm → TypeId → Bool
is_unsettled types t = awaits_layout (unwrap_or (slice_get types t.0) forms.Unit)

abbrev pub with_layout : TypeForm → Layout → TypeForm
with_layout (forms.Struct number place before) layout = forms.Struct number place (Some layout)
with_layout form layout = form

-- the types after a struct's entries are given: it has its layout, and where they are bad nothing is changed
abbrev pub with_settled : List TypeForm → TypeId → Option Layout → List TypeForm
with_settled types t (Some layout) =
    slice_set types t.0 (with_layout (unwrap_or (slice_get types t.0) forms.Unit) layout)
with_settled types t None = types

abbrev pub settled_answer : Option Layout → Settled
settled_answer (Some layout) = Done
settled_answer None = Bad
