-- The tests of operations stay passed where types are kept and what is called keeps its type.
use Rattle.std.proofs.Common.{◌≡◌, ℕ, zero, suc, ◌+◌, ◌≤◌, Bool, true, false, List, [], ◌∷◌, Option, Some, None, refl, sym, ap, ◌∙◌, arith}
use Rattle.std.proofs.Common.{slice_get}
use Rattle.std.specs.Prelude.{◌&&◌, ◌⊎◌, nat_eq, nat_le, nat_lt, unwrap_or, is_some, if◌then◌else◌}
use mathlib.Core.Logic.{inl, inr}
use Rattle.std.proofs.lemmas.Bool.{and_parts, and_from, eqb-true, le-leb, or_cases}
use Rattle.tl_base.specs.declared.place.Place.{Place}
use Rattle.tl_base.specs.declared.ids.FnId.{FnId}
use Rattle.tl_base.specs.declared.ids.TypeId.{TypeId}
use Rattle.lua_value.specs.declared.primitive.Primitive.{Primitive}
use Rattle.lua_value.specs.declared.primitive.Primitive.TheVariants.{PutByte, Write, Alloc}
use Rattle.terra_words.specs.declared.words.BinaryOperator.{BinaryOperator}
use Rattle.terra_types.specs.declared.layout.Laid.{Laid}
use Rattle.terra_types.specs.declared.measure.Measure.{Measure}
use Rattle.terra_types.specs.declared.types.TypeForm.{TypeForm}
use Rattle.terra_types.specs.declared.types.TypeForm.TheVariants as forms
use Rattle.terra_types.specs.Keeping.{KeepsTypes}
use Rattle.terra_types.specs.Opening.{AreTypes, int64, uint8}
use Rattle.terra_types.specs.Sizes.{measure_of, size_of}
use Rattle.terra_types.specs.Layouts.{entries_in, entries_of}
use Rattle.terra_term.specs.declared.lists.TypedName.{TypedName}
use Rattle.terra_term.specs.declared.operators.Constant.{Constant}
use Rattle.terra_term.specs.declared.operators.Constant.TheVariants as constants
use Rattle.terra_term.specs.declared.operators.Operation.{Operation}
use Rattle.terra_term.specs.declared.operators.Operation.TheVariants as operations
use Rattle.terra_term.specs.Stores.{Contents, callable_of}
use Rattle.terra_term.specs.Events.{events_of, operation_events}
use Rattle.terra_term.specs.TypedTerms.{typed, Constant'}
use Rattle.terra_term.specs.WellTyped.{same, form_at, integer_form, pointer_form, function_form, struct_form, is_struct, is_integer}
use Rattle.terra_term.specs.WellTyped.{is_pointer, is_function, points_in, points_to, array_in, is_array_of, has_layout, small, is_usable}
use Rattle.terra_term.specs.WellTyped.{has_entry, bytes_at, entry_of, follows_in, all_usable, has_type, function_type_in, calls_in}
use Rattle.terra_term.specs.WellTyped.{is_word_of, constant_typed, compares, comparable, shifts, binary_typed, converts, primitive_typed}
use Rattle.terra_term.specs.WellTyped.{target_in, is_sized, step_typed, entries_typed, first_type, second_type, has_operands, others}
use Rattle.terra_term.specs.WellTyped.{operation_typed, names_laid_out, are_bounds}
use Rattle.check_sound.proofs.Tests.{no, keep, keep_or, stay, three, same-id}
use Rattle.check_sound.proofs.Shapes.{form-stays, stays-is, struct-stays, measure-kept, size-kept}
use Rattle.check_sound.proofs.Naming.{Names}

-- ---- the tests

-- an entry of a struct lies within it
abbrev pub Lies : List TypeForm → Type 0
Lies types =
    (t : TypeId) (i : ℕ) (l : Laid) → slice_get (entries_of types t) i ≡ Some l →
    (n : ℕ) × ((size_of types l.of ≡ Some n) × (l.offset + n ≤ unwrap_or (size_of types t) 0))

record Found (ls : List Laid) (offset : ℕ) (t : TypeId) : Type 0 where
  place : ℕ
  laid : Laid
  at : slice_get ls place ≡ Some laid
  starts : laid.offset ≡ offset
  is : laid.of ≡ t

entry-at : (ls : List Laid) (offset : ℕ) (t : TypeId) → has_entry ls offset t ≡ true → Found ls offset t
entry-at [] offset t h = absurd (no h)
entry-at (l ∷ ls) offset t h =
    by (λ later. entry-at ls offset t later) (or_cases (nat_eq l.offset offset && same l.of t)
    (has_entry ls offset t) h)
  where
    by : (has_entry ls offset t ≡ true → Found ls offset t) →
        ((nat_eq l.offset offset && same l.of t) ≡ true) ⊎ (has_entry ls offset t ≡ true) → Found (l ∷ ls) offset t
    by behind (inl here) =
        let p = and_parts (nat_eq l.offset offset) (same l.of t) here in
        record { place = zero; laid = l; at = refl; starts = eqb-true l.offset offset p.0; is = same-id l.of t p.1 }
    by behind (inr later) =
        let f = behind later in
        record { place = suc f.place; laid = f.laid; at = f.at; starts = f.starts; is = f.is }

keep_if : (t a b x y : Bool) → (a ≡ true → x ≡ true) → (b ≡ true → y ≡ true) → (if t then a else b) ≡ true →
    (if t then x else y) ≡ true
keep_if true a b x y f g h = f h
keep_if false a b x y f g h = g h

some-kept : (o p : Option Measure) → ((m : Measure) → o ≡ Some m → p ≡ Some m) → is_some o ≡ true → is_some p ≡ true
some-kept None p f h = absurd (no h)
some-kept (Some m) p f h = ap is_some (f m refl)

small-kept : (o p : Option ℕ) → ((m : ℕ) → o ≡ Some m → p ≡ Some m) → small o ≡ true → small p ≡ true
small-kept None p f h = absurd (no h)
small-kept (Some m) p f h = ap small (f m refl) ∙ h

sized-kept : (o p : Option ℕ) → ((m : ℕ) → o ≡ Some m → p ≡ Some m) → nat_lt 0 (unwrap_or o 0) ≡ true →
    nat_lt 0 (unwrap_or p 0) ≡ true
sized-kept None p f h = absurd (no h)
sized-kept (Some m) p f h = ap (λ q. nat_lt 0 (unwrap_or q 0)) (f m refl) ∙ h

module _ (c d : Contents) (k : KeepsTypes c.types d.types) (a : AreTypes c.types) (b : AreTypes d.types)
    (lies : Lies d.types) where
  pub integer-stays : (t : TypeId) → is_integer c t ≡ true → is_integer d t ≡ true
  integer-stays t h = stays-is c.types d.types k integer_form refl (λ n p. refl) t h

  pub pointer-stays : (t : TypeId) → is_pointer c t ≡ true → is_pointer d t ≡ true
  pointer-stays t h = stays-is c.types d.types k pointer_form refl (λ n p. refl) t h

  pub pointer-same : (t : TypeId) → is_pointer c t ≡ true → form_at d t ≡ form_at c t
  pointer-same t h = form-stays c.types d.types k pointer_form refl (λ n p. refl) t h

  pub function-stays : (t : TypeId) → is_function c t ≡ true → is_function d t ≡ true
  function-stays t h = stays-is c.types d.types k function_form refl (λ n p. refl) t h

  struct-is : (t : TypeId) → is_struct c t ≡ true → is_struct d t ≡ true
  struct-is t h = struct-stays c.types d.types k struct_form refl (λ n p l e. refl) t h

  pub points-stays : (p t : TypeId) → points_to c p t ≡ true → points_to d p t ≡ true
  points-stays p t h = stays-is c.types d.types k (λ f. points_in f t) refl (λ n q. refl) p h

  pub array-stays : (x t : TypeId) → is_array_of c x t ≡ true → is_array_of d x t ≡ true
  array-stays x t h = stays-is c.types d.types k (λ f. array_in f t) refl (λ n q. refl) x h

  pub layout-stays : (t : TypeId) → has_layout c t ≡ true → has_layout d t ≡ true
  layout-stays t h = some-kept (measure_of c.types t) (measure_of d.types t)
      (λ m e. measure-kept c.types d.types k a b t m e) h

  pub usable-stays : (t : TypeId) → is_usable c t ≡ true → is_usable d t ≡ true
  usable-stays t h = small-kept (size_of c.types t) (size_of d.types t) (λ m e. size-kept c.types d.types k a b t m e) h

  sized-stays : (t : TypeId) → nat_lt 0 (bytes_at c t) ≡ true → nat_lt 0 (bytes_at d t) ≡ true
  sized-stays t h = sized-kept (size_of c.types t) (size_of d.types t) (λ m e. size-kept c.types d.types k a b t m e) h

  pub entry-lies : (s : TypeId) (offset : ℕ) (t : TypeId) → has_entry (entries_of d.types s) offset t ≡ true →
      entry_of d s offset t ≡ true
  entry-lies s offset t h =
      let found = entry-at (entries_of d.types s) offset t h in
      let in_it = lies s found.place found.laid found.at in
      let size : bytes_at d t ≡ in_it.0 = ap (λ x. unwrap_or (size_of d.types x) 0) (sym found.is) ∙
      ap (λ o. unwrap_or o 0) in_it.1.0 in
      let within : offset + bytes_at d t ≤ bytes_at d s = omega (arith, size, found.starts, in_it.1.1) in
      and_from (has_entry (entries_of d.types s) offset t) (nat_le (offset + bytes_at d t) (bytes_at d s)) h
      (le-leb (offset + bytes_at d t) (bytes_at d s) within)

  pub entry-stays : (s : TypeId) (offset : ℕ) (t : TypeId) → entry_of c s offset t ≡ true → entry_of d s offset t ≡ true
  entry-stays s offset t h =
      let p = and_parts (has_entry (entries_of c.types s) offset t) (nat_le (offset + bytes_at c t) (bytes_at c s)) h in
      entry-lies s offset t (stays-is c.types d.types k (λ f. has_entry (entries_in f) offset t) refl
      (λ n q. refl) s p.0)

  follows-form : (form : TypeForm) (offset : ℕ) (t : TypeId) → follows_in c form offset t ≡ true →
      follows_in d form offset t ≡ true
  follows-form (forms.Pointer s) offset t h = entry-stays s offset t h
  follows-form (forms.Integer i) offset t h = absurd (no h)
  follows-form forms.Bool offset t h = absurd (no h)
  follows-form forms.Unit offset t h = absurd (no h)
  follows-form (forms.Array u n) offset t h = absurd (no h)
  follows-form (forms.Function ps r) offset t h = absurd (no h)
  follows-form (forms.Struct n p l) offset t h = absurd (no h)

  pub follows-stays : (p : TypeId) (offset : ℕ) (t : TypeId) → follows_in c (form_at c p) offset t ≡ true →
      follows_in d (form_at d p) offset t ≡ true
  follows-stays p offset t h =
      ap (λ f. follows_in d f offset t) (form-stays c.types d.types k (λ f. follows_in c f offset t) refl
      (λ n q. refl) p h) ∙
      follows-form (form_at c p) offset t h

  pub all-usable : (ts : List TypeId) → all_usable c ts ≡ true → all_usable d ts ≡ true
  all-usable [] h = refl
  all-usable (t ∷ ts) h = keep _ _ _ _ (usable-stays t) (all-usable ts) h

  entries-stay : (of : TypeId) (os : List ℕ) (ts : List TypeId) → entries_typed c of os ts ≡ true →
      entries_typed d of os ts ≡ true
  entries-stay of [] [] h = refl
  entries-stay of (o ∷ os) (t ∷ ts) h = keep _ _ _ _ (entry-stays of o t) (entries-stay of os ts) h
  entries-stay of [] (t ∷ ts) h = absurd (no h)
  entries-stay of (o ∷ os) [] h = absurd (no h)

  pub names-laid : (xs : List TypedName) → names_laid_out c xs ≡ true → names_laid_out d xs ≡ true
  names-laid [] h = refl
  names-laid (x ∷ xs) h = keep _ _ _ _ (layout-stays x.of) (names-laid xs) h

  pub bounds-stay : (t : TypeId) (ts : List TypeId) → are_bounds c t ts ≡ true → are_bounds d t ts ≡ true
  bounds-stay t [] h = absurd (no h)
  bounds-stay t (x ∷ []) h = absurd (no h)
  bounds-stay t (x ∷ y ∷ []) h = keep _ _ _ _ (keep _ _ _ _ (integer-stays t) (stay _)) (stay _) h
  bounds-stay t (x ∷ y ∷ z ∷ []) h = keep _ _ _ _ (keep _ _ _ _ (keep _ _ _ _ (integer-stays t) (stay _)) (stay _))
      (stay _) h
  bounds-stay t (x ∷ y ∷ z ∷ u ∷ ts) h = absurd (no h)

  -- what is called has the same type
  abbrev pub Agrees : FnId → Type 0
  Agrees f = (ps : List TypeId) (r : TypeId) → has_type ps r (callable_of c f) ≡ true →
      has_type ps r (callable_of d f) ≡ true

  value-form : (form : TypeForm) (f : FnId) → Agrees f → function_type_in form (callable_of c f) ≡ true →
      function_type_in form (callable_of d f) ≡ true
  value-form (forms.Function ps r) f g h = g ps r h
  value-form (forms.Integer i) f g h = absurd (no h)
  value-form forms.Bool f g h = absurd (no h)
  value-form forms.Unit f g h = absurd (no h)
  value-form (forms.Array u n) f g h = absurd (no h)
  value-form (forms.Pointer u) f g h = absurd (no h)
  value-form (forms.Struct n p l) f g h = absurd (no h)

  pub constant-stays : (at : Place) (of : TypeId) (x : Constant) →
      ((f : FnId) → Names f (events_of (typed at of (Constant' x))) → Agrees f) →
      constant_typed c of x ≡ true → constant_typed d of x ≡ true
  constant-stays at of (constants.Number word) g h = stays-is c.types d.types k (λ f. is_word_of f word) refl
      (λ n q. refl) of h
  constant-stays at of (constants.Truth t) g h = h
  constant-stays at of constants.Nil g h = keep_or _ _ _ _ (pointer-stays of) (function-stays of) h
  constant-stays at of (constants.Static address) g h = h
  constant-stays at of (constants.FnValue f) g h =
      ap (λ form. function_type_in form (callable_of d f))
      (form-stays c.types d.types k (λ form. function_type_in form (callable_of c f)) refl (λ n q. refl) of h) ∙
      value-form (form_at c of) f (g f (inl refl)) h

  comparable-stays : (op : BinaryOperator) (t : TypeId) → comparable c op t ≡ true → comparable d op t ≡ true
  comparable-stays op t h =
      keep_or _ _ _ _ (keep_or _ _ _ _ (integer-stays t) (pointer-stays t))
      (keep _ _ _ _ (stay _) (keep_or _ _ _ _ (stay _) (function-stays t))) h

  binary-stays : (op : BinaryOperator) (x y of : TypeId) → binary_typed c op x y of ≡ true →
      binary_typed d op x y of ≡ true
  binary-stays op x y of h =
      keep_if (compares op) _ _ _ _
      (keep _ _ _ _ (keep _ _ _ _ (stay _) (comparable-stays op x)) (stay _))
      (keep _ _ _ _ (keep _ _ _ _ (integer-stays x) (stay _)) (keep_if (shifts op) _ _ _ _ (integer-stays y) (stay _)))
      h

  converts-stays : (from to : TypeId) → converts c from to ≡ true → converts d from to ≡ true
  converts-stays from to h =
      keep _ _ _ _ (stay _)
      (keep_or _ _ _ _
      (keep _ _ _ _ (integer-stays from) (keep_or _ _ _ _ (integer-stays to)
      (keep_or _ _ _ _ (stay _) (pointer-stays to))))
      (keep_or _ _ _ _
      (keep _ _ _ _ (stay _) (integer-stays to))
      (keep_or _ _ _ _
      (keep _ _ _ _ (pointer-stays from) (keep_or _ _ _ _ (pointer-stays to) (integer-stays to)))
      (keep _ _ _ _ (function-stays from) (integer-stays to))))) h

  primitive-stays : (p : Primitive) (ts : List TypeId) (of : TypeId) → primitive_typed c p ts of ≡ true →
      primitive_typed d p ts of ≡ true
  primitive-stays PutByte [] of h = absurd (no h)
  primitive-stays PutByte (x ∷ []) of h = h
  primitive-stays PutByte (x ∷ y ∷ ts) of h = absurd (no h)
  primitive-stays Write [] of h = absurd (no h)
  primitive-stays Write (x ∷ []) of h = absurd (no h)
  primitive-stays Write (x ∷ y ∷ []) of h = keep _ _ _ _ (keep _ _ _ _ (points-stays x uint8) (stay _)) (stay _) h
  primitive-stays Write (x ∷ y ∷ z ∷ ts) of h = absurd (no h)
  primitive-stays Alloc [] of h = absurd (no h)
  primitive-stays Alloc (x ∷ []) of h = keep _ _ _ _ (stay _) (points-stays of uint8) h
  primitive-stays Alloc (x ∷ y ∷ ts) of h = absurd (no h)

  step-stays : (p i of : TypeId) → step_typed c p i of ≡ true → step_typed d p i of ≡ true
  step-stays p i of h =
      let w = and_parts (same p of && is_pointer c of && is_integer c i) (has_layout c (target_in (form_at c of))) h in
      let v = three (same p of) (is_pointer c of) (is_integer c i) w.0 in
      and_from (same p of && is_pointer d of && is_integer d i) (has_layout d (target_in (form_at d of)))
      (keep _ _ _ _ (keep _ _ _ _ (stay _) (pointer-stays of)) (integer-stays i) w.0)
      (layout-stays (target_in (form_at d of)) (ap (λ f. has_layout c (target_in f)) (pointer-same of v.1) ∙ w.1))

  difference-stays : (n : Bool) (x y of : TypeId) → (n && same x y && is_pointer c x && is_sized c x &&
      same of int64) ≡ true →
      (n && same x y && is_pointer d x && is_sized d x && same of int64) ≡ true
  difference-stays n x y of h =
      let w = and_parts (n && same x y && is_pointer c x && is_sized c x) (same of int64) h in
      let v = and_parts (n && same x y && is_pointer c x) (is_sized c x) w.0 in
      let u = and_parts (n && same x y) (is_pointer c x) v.0 in
      and_from (n && same x y && is_pointer d x && is_sized d x) (same of int64)
      (and_from (n && same x y && is_pointer d x) (is_sized d x)
      (and_from (n && same x y) (is_pointer d x) u.0 (pointer-stays x u.1))
      (sized-stays (target_in (form_at d x)) (ap (λ f. nat_lt 0 (bytes_at c (target_in f))) (pointer-same x u.1) ∙
      v.1)))
      w.1

  pub operation-stays : (at : Place) (op : Operation) (ts : List TypeId) (of : TypeId) →
      ((f : FnId) → Names f (operation_events at op) → Agrees f) → operation_typed c op ts of ≡ true →
      operation_typed d op ts of ≡ true
  operation-stays at operations.Negate ts of g h = keep _ _ _ _ (stay _) (integer-stays of) h
  operation-stays at operations.Not ts of g h = keep _ _ _ _ (stay _) (keep_or _ _ _ _ (integer-stays of) (stay _)) h
  operation-stays at (operations.Binary op) ts of g h =
      keep _ _ _ _ (stay _) (binary-stays op (first_type ts) (second_type ts) of) h
  operation-stays at operations.StepForward ts of g h =
      keep _ _ _ _ (stay _) (step-stays (first_type ts) (second_type ts) of) h
  operation-stays at operations.StepBack ts of g h = keep _ _ _ _ (stay _)
      (step-stays (first_type ts) (second_type ts) of) h
  operation-stays at operations.Difference ts of g h = difference-stays (has_operands 2 ts) (first_type ts)
      (second_type ts) of h
  operation-stays at operations.Convert ts of g h = keep _ _ _ _ (stay _) (converts-stays (first_type ts) of) h
  operation-stays at (operations.Extract offset) ts of g h =
      keep _ _ _ _ (stay _) (entry-stays (first_type ts) offset of) h
  operation-stays at (operations.Call f) ts of g h = g f (inl refl) ts of h
  operation-stays at (operations.Primitive p) ts of g h = primitive-stays p ts of h
  operation-stays at operations.CallValue ts of g h =
      stays-is c.types d.types k (λ f. calls_in f (others ts) of) refl (λ n q. refl) (first_type ts) h
  operation-stays at (operations.Construct offsets) ts of g h =
      keep _ _ _ _ (keep _ _ _ _ (struct-is of) (usable-stays of)) (entries-stay of offsets ts) h
