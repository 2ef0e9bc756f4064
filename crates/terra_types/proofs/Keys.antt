-- What tells types apart in the table is what tells them apart.
use Rattle.std.specs.Prelude.{◌≡◌, refl, ℕ, ◌+◌, suc, Bool, ◌&&◌, not, cond, List, [], ◌∷◌, ◌++◌, length, position, nat_lt, Some, None}
use Rattle.std.proofs.Common.{◌∙◌, ap}
use Rattle.std.specs.List.{position_or_len}
use Rattle.std.specs.Map.{keys_of}
use Rattle.tl_base.specs.declared.ids.TypeId.{TypeId}
use Rattle.terra_types.specs.declared.key.TypeKey.{TypeKey}
use Rattle.terra_types.specs.declared.key.TypeKey.TheVariants as keys
use Rattle.terra_types.specs.declared.table.Kept.{Kept}
use Rattle.terra_types.specs.declared.types.Integer.{Integer}
use Rattle.terra_types.specs.declared.types.Integer.TheVariants.{Int8, Int16, Int32, Int64, Uint8, Uint16, Uint32, Uint64}
use Rattle.terra_types.specs.declared.types.TypeForm.{TypeForm}
use Rattle.terra_types.specs.declared.types.TypeForm.TheVariants as forms
use Rattle.terra_types.specs.contracts.key.TypeKeyPartialEq.TheImpl as KeyEq
use Rattle.tl_base.specs.contracts.ids.TypeIdPartialEq.TheImpl as IdEq
use Rattle.std.specs.Cmp.Lexicographic.{pointwise}
use Rattle.terra_types.specs.Making.{is_same, same_types, id_in, id_of}
use Rattle.terra_types.specs.Kept.{form_of_key, bare, AllFit, Fits, forms_in, kept_in, with_kept}

-- the table's own test of keys
abbrev pub key_eq : TypeKey → TypeKey → Bool
key_eq = KeyEq.ghosts.eq

same_ids : (ts us : List TypeId) → pointwise IdEq.ghosts.eq ts us ≡ same_types ts us
same_ids [] [] = refl
same_ids [] (u ∷ us) = refl
same_ids (t ∷ ts) [] = refl
same_ids (t ∷ ts) (u ∷ us) = ap (λ b. IdEq.ghosts.eq t u && b) (same_ids ts us)

integers : (i j : Integer) → key_eq (keys.Integer i) (keys.Integer j) ≡ is_same (forms.Integer i) (forms.Integer j)
integers Int8 Int8 = refl
integers Int8 Int16 = refl
integers Int8 Int32 = refl
integers Int8 Int64 = refl
integers Int8 Uint8 = refl
integers Int8 Uint16 = refl
integers Int8 Uint32 = refl
integers Int8 Uint64 = refl
integers Int16 Int8 = refl
integers Int16 Int16 = refl
integers Int16 Int32 = refl
integers Int16 Int64 = refl
integers Int16 Uint8 = refl
integers Int16 Uint16 = refl
integers Int16 Uint32 = refl
integers Int16 Uint64 = refl
integers Int32 Int8 = refl
integers Int32 Int16 = refl
integers Int32 Int32 = refl
integers Int32 Int64 = refl
integers Int32 Uint8 = refl
integers Int32 Uint16 = refl
integers Int32 Uint32 = refl
integers Int32 Uint64 = refl
integers Int64 Int8 = refl
integers Int64 Int16 = refl
integers Int64 Int32 = refl
integers Int64 Int64 = refl
integers Int64 Uint8 = refl
integers Int64 Uint16 = refl
integers Int64 Uint32 = refl
integers Int64 Uint64 = refl
integers Uint8 Int8 = refl
integers Uint8 Int16 = refl
integers Uint8 Int32 = refl
integers Uint8 Int64 = refl
integers Uint8 Uint8 = refl
integers Uint8 Uint16 = refl
integers Uint8 Uint32 = refl
integers Uint8 Uint64 = refl
integers Uint16 Int8 = refl
integers Uint16 Int16 = refl
integers Uint16 Int32 = refl
integers Uint16 Int64 = refl
integers Uint16 Uint8 = refl
integers Uint16 Uint16 = refl
integers Uint16 Uint32 = refl
integers Uint16 Uint64 = refl
integers Uint32 Int8 = refl
integers Uint32 Int16 = refl
integers Uint32 Int32 = refl
integers Uint32 Int64 = refl
integers Uint32 Uint8 = refl
integers Uint32 Uint16 = refl
integers Uint32 Uint32 = refl
integers Uint32 Uint64 = refl
integers Uint64 Int8 = refl
integers Uint64 Int16 = refl
integers Uint64 Int32 = refl
integers Uint64 Int64 = refl
integers Uint64 Uint8 = refl
integers Uint64 Uint16 = refl
integers Uint64 Uint32 = refl
integers Uint64 Uint64 = refl

-- two keys are equal exactly where their types are the same
pub key_eq-same : (a b : TypeKey) → key_eq a b ≡ is_same (form_of_key a) (form_of_key b)
key_eq-same (keys.Integer a0) (keys.Integer b0) = integers a0 b0
key_eq-same (keys.Integer a0) keys.Bool = refl
key_eq-same (keys.Integer a0) keys.Unit = refl
key_eq-same (keys.Integer a0) (keys.Pointer b0) = refl
key_eq-same (keys.Integer a0) (keys.Array b0 b1) = refl
key_eq-same (keys.Integer a0) (keys.Function b0 b1) = refl
key_eq-same (keys.Integer a0) (keys.Struct b0) = refl
key_eq-same keys.Bool (keys.Integer b0) = refl
key_eq-same keys.Bool keys.Bool = refl
key_eq-same keys.Bool keys.Unit = refl
key_eq-same keys.Bool (keys.Pointer b0) = refl
key_eq-same keys.Bool (keys.Array b0 b1) = refl
key_eq-same keys.Bool (keys.Function b0 b1) = refl
key_eq-same keys.Bool (keys.Struct b0) = refl
key_eq-same keys.Unit (keys.Integer b0) = refl
key_eq-same keys.Unit keys.Bool = refl
key_eq-same keys.Unit keys.Unit = refl
key_eq-same keys.Unit (keys.Pointer b0) = refl
key_eq-same keys.Unit (keys.Array b0 b1) = refl
key_eq-same keys.Unit (keys.Function b0 b1) = refl
key_eq-same keys.Unit (keys.Struct b0) = refl
key_eq-same (keys.Pointer a0) (keys.Integer b0) = refl
key_eq-same (keys.Pointer a0) keys.Bool = refl
key_eq-same (keys.Pointer a0) keys.Unit = refl
key_eq-same (keys.Pointer a0) (keys.Pointer b0) = refl
key_eq-same (keys.Pointer a0) (keys.Array b0 b1) = refl
key_eq-same (keys.Pointer a0) (keys.Function b0 b1) = refl
key_eq-same (keys.Pointer a0) (keys.Struct b0) = refl
key_eq-same (keys.Array a0 a1) (keys.Integer b0) = refl
key_eq-same (keys.Array a0 a1) keys.Bool = refl
key_eq-same (keys.Array a0 a1) keys.Unit = refl
key_eq-same (keys.Array a0 a1) (keys.Pointer b0) = refl
key_eq-same (keys.Array a0 a1) (keys.Array b0 b1) = refl
key_eq-same (keys.Array a0 a1) (keys.Function b0 b1) = refl
key_eq-same (keys.Array a0 a1) (keys.Struct b0) = refl
key_eq-same (keys.Function a0 a1) (keys.Integer b0) = refl
key_eq-same (keys.Function a0 a1) keys.Bool = refl
key_eq-same (keys.Function a0 a1) keys.Unit = refl
key_eq-same (keys.Function a0 a1) (keys.Pointer b0) = refl
key_eq-same (keys.Function a0 a1) (keys.Array b0 b1) = refl
key_eq-same (keys.Function a0 a1) (keys.Function b0 b1) = ap (λ b. b && IdEq.ghosts.eq a1 b1) (same_ids a0.items b0.items)
key_eq-same (keys.Function a0 a1) (keys.Struct b0) = refl
key_eq-same (keys.Struct a0) (keys.Integer b0) = refl
key_eq-same (keys.Struct a0) keys.Bool = refl
key_eq-same (keys.Struct a0) keys.Unit = refl
key_eq-same (keys.Struct a0) (keys.Pointer b0) = refl
key_eq-same (keys.Struct a0) (keys.Array b0 b1) = refl
key_eq-same (keys.Struct a0) (keys.Function b0 b1) = refl
key_eq-same (keys.Struct a0) (keys.Struct b0) = refl

-- where a struct was made, and its layout, tell it from no other
pub is_same-bare : (f g : TypeForm) → is_same (bare f) (bare g) ≡ is_same f g
is_same-bare (forms.Integer a0) (forms.Integer b0) = refl
is_same-bare (forms.Integer a0) forms.Bool = refl
is_same-bare (forms.Integer a0) forms.Unit = refl
is_same-bare (forms.Integer a0) (forms.Pointer b0) = refl
is_same-bare (forms.Integer a0) (forms.Array b0 b1) = refl
is_same-bare (forms.Integer a0) (forms.Function b0 b1) = refl
is_same-bare (forms.Integer a0) (forms.Struct b0 b1 b2) = refl
is_same-bare forms.Bool (forms.Integer b0) = refl
is_same-bare forms.Bool forms.Bool = refl
is_same-bare forms.Bool forms.Unit = refl
is_same-bare forms.Bool (forms.Pointer b0) = refl
is_same-bare forms.Bool (forms.Array b0 b1) = refl
is_same-bare forms.Bool (forms.Function b0 b1) = refl
is_same-bare forms.Bool (forms.Struct b0 b1 b2) = refl
is_same-bare forms.Unit (forms.Integer b0) = refl
is_same-bare forms.Unit forms.Bool = refl
is_same-bare forms.Unit forms.Unit = refl
is_same-bare forms.Unit (forms.Pointer b0) = refl
is_same-bare forms.Unit (forms.Array b0 b1) = refl
is_same-bare forms.Unit (forms.Function b0 b1) = refl
is_same-bare forms.Unit (forms.Struct b0 b1 b2) = refl
is_same-bare (forms.Pointer a0) (forms.Integer b0) = refl
is_same-bare (forms.Pointer a0) forms.Bool = refl
is_same-bare (forms.Pointer a0) forms.Unit = refl
is_same-bare (forms.Pointer a0) (forms.Pointer b0) = refl
is_same-bare (forms.Pointer a0) (forms.Array b0 b1) = refl
is_same-bare (forms.Pointer a0) (forms.Function b0 b1) = refl
is_same-bare (forms.Pointer a0) (forms.Struct b0 b1 b2) = refl
is_same-bare (forms.Array a0 a1) (forms.Integer b0) = refl
is_same-bare (forms.Array a0 a1) forms.Bool = refl
is_same-bare (forms.Array a0 a1) forms.Unit = refl
is_same-bare (forms.Array a0 a1) (forms.Pointer b0) = refl
is_same-bare (forms.Array a0 a1) (forms.Array b0 b1) = refl
is_same-bare (forms.Array a0 a1) (forms.Function b0 b1) = refl
is_same-bare (forms.Array a0 a1) (forms.Struct b0 b1 b2) = refl
is_same-bare (forms.Function a0 a1) (forms.Integer b0) = refl
is_same-bare (forms.Function a0 a1) forms.Bool = refl
is_same-bare (forms.Function a0 a1) forms.Unit = refl
is_same-bare (forms.Function a0 a1) (forms.Pointer b0) = refl
is_same-bare (forms.Function a0 a1) (forms.Array b0 b1) = refl
is_same-bare (forms.Function a0 a1) (forms.Function b0 b1) = refl
is_same-bare (forms.Function a0 a1) (forms.Struct b0 b1 b2) = refl
is_same-bare (forms.Struct a0 a1 a2) (forms.Integer b0) = refl
is_same-bare (forms.Struct a0 a1 a2) forms.Bool = refl
is_same-bare (forms.Struct a0 a1 a2) forms.Unit = refl
is_same-bare (forms.Struct a0 a1 a2) (forms.Pointer b0) = refl
is_same-bare (forms.Struct a0 a1 a2) (forms.Array b0 b1) = refl
is_same-bare (forms.Struct a0 a1 a2) (forms.Function b0 b1) = refl
is_same-bare (forms.Struct a0 a1 a2) (forms.Struct b0 b1 b2) = refl

-- a type is found by its key
test_is : (key : TypeKey) (form : TypeForm) (other : TypeKey) (g : TypeForm) → Fits key form → Fits other g → key_eq key other ≡ is_same form g
test_is key form other g h k =
    key_eq-same key other ∙ (ap (λ f. is_same f (form_of_key other)) h ∙ (ap (is_same (bare form)) k ∙ is_same-bare form g))

place_or_end : (key : TypeKey) (form : TypeForm) (es : List (TypeKey × Kept)) → Fits key form → AllFit es → position_or_len (key_eq key) (keys_of es) ≡ position_or_len (is_same form) (forms_in es)
place_or_end key form [] h fit = refl
place_or_end key form (e ∷ es) h fit =
    ap (λ b. cond (not b) (1 + position_or_len (key_eq key) (keys_of es)) 0) (test_is key form e.0 e.1.form h fit.0) ∙
    ap (λ n. cond (not (is_same form e.1.form)) (1 + n) 0) (place_or_end key form es h fit.1)

pub length-forms : (es : List (TypeKey × Kept)) → length es ≡ length (forms_in es)
length-forms [] = refl
length-forms (e ∷ es) = ap suc (length-forms es)

length-columns : (es : List (TypeKey × Kept)) → length (keys_of es) ≡ length (forms_in es)
length-columns [] = refl
length-columns (e ∷ es) = ap suc (length-columns es)

pub place-keys : (key : TypeKey) (form : TypeForm) (es : List (TypeKey × Kept)) → Fits key form → AllFit es → position (key_eq key) (keys_of es) ≡ position (is_same form) (forms_in es)
place-keys key form es h fit =
    ap (λ n. cond (nat_lt n (length (keys_of es))) (Some n) None) (place_or_end key form es h fit) ∙
    ap (λ n. cond (nat_lt (position_or_len (is_same form) (forms_in es)) n) (Some (position_or_len (is_same form) (forms_in es))) None) (length-columns es)

-- ---- what the table answers

module _ (key : TypeKey) (kept : Kept) (es : List (TypeKey × Kept)) (fits : Fits key kept.form) (fit : AllFit es) where
  pub found-id : (i : ℕ) → Some i ≡ position (key_eq key) (keys_of es) → record { 0 = i } ≡ id_of (forms_in es) kept.form
  found-id i at = ap (λ o. id_in o (forms_in es)) (at ∙ place-keys key kept.form es fits fit)

  pub found-kept : (i : ℕ) → Some i ≡ position (key_eq key) (keys_of es) → es ≡ with_kept es key kept
  found-kept i at = ap (λ o. kept_in o es key kept) (at ∙ place-keys key kept.form es fits fit)

  pub new-id : None ≡ position (key_eq key) (keys_of es) → (n : ℕ) → n ≡ length es → record { 0 = n } ≡ id_of (forms_in es) kept.form
  new-id at n len =
      ap (λ n. record { 0 = n }) (len ∙ length-forms es) ∙ ap (λ o. id_in o (forms_in es)) (at ∙ place-keys key kept.form es fits fit)

  pub new-kept : None ≡ position (key_eq key) (keys_of es) → es ++ (key, kept) ∷ [] ≡ with_kept es key kept
  new-kept at = ap (λ o. kept_in o es key kept) (at ∙ place-keys key kept.form es fits fit)
