-- The parts that have none: memory, operations, declarations and assignments.
use Rattle.std.proofs.Common.{◌≡◌, ℕ, zero, suc, ◌+◌, ◌<◌, Bool, true, false, List, [], ◌∷◌, Option, Some, None, refl, sym, ◌∙◌, arith}
use Rattle.std.specs.Prelude.{◌&&◌, nat_eq, nat_lt, if◌then◌else◌}
use Rattle.std.proofs.lemmas.Bool.{ltb-true}
use Rattle.tl_base.specs.declared.place.Place.{Place}
use Rattle.tl_base.specs.declared.ids.TypeId.{TypeId}
use Rattle.tl_base.specs.declared.ids.FnId.{FnId}
use Rattle.terra_memory.specs.Region as regions
use Rattle.terra_memory.specs.Region.{range_of}
use Rattle.terra_words.specs.Words.{divides, is_negative}
use Rattle.terra_words.specs.Runs.{Value, word, number, value_at, put_bytes}
use Rattle.terra_types.specs.declared.types.TypeForm.{TypeForm}
use Rattle.terra_types.specs.declared.types.TypeForm.TheVariants as forms
use Rattle.terra_term.specs.declared.operators.Operation.{Operation}
use Rattle.terra_term.specs.declared.operators.Operation.TheVariants as operations
use Rattle.lua_value.specs.declared.primitive.Primitive.{Primitive}
use Rattle.lua_value.specs.declared.primitive.Primitive.TheVariants.{PutByte, Write, Alloc}
use Rattle.terra_term.specs.declared.lists.TypedName.{TypedName}
use Rattle.terra_term.specs.TypedTerms.{Expression, typed, Constant', Variable, Global, Operate, Both, Either, Dereference, Select, Follow}
use Rattle.terra_term.specs.TypedTerms.{Element, Index, Address, Decay, Let, Expressions, no_more, then_one}
use Rattle.terra_term.specs.Stores.{Callable, callable_of}
use Rattle.terra_term.specs.WellTyped as typing
use Rattle.terra_term.specs.WellTyped.{same, with_names}
use Rattle.terra_types.specs.Opening.{int64}
use Rattle.terra_meaning.specs.Values.{bytes_at, encoded, form_at, target_of}
use Rattle.terra_meaning.specs.Frames.{Home, by_value, in_frame, home_at}
use Rattle.terra_meaning.specs.Laws.{shape, CallsKeep}
use Rattle.terra_meaning.specs.Running.{Held, held, lies, State, Got, Gives, Ends, next, with_value, with_variable, found}
use Rattle.terra_meaning.specs.Meaning.{Call, read, written, stored, Wanted, the_value, the_address, reached, variable, print_range}
use Rattle.terra_meaning.specs.Meaning.{primitive, has_type, called_value, entry, behind, type_at, first_of, in_elements, operated}
use Rattle.terra_meaning.specs.Meaning.{declared_at, declared, declared_all, held_symbol, assigned, assigned_all}
use Rattle.terra_meaning.proofs.Scoping.{keeps-stored, keeps-assigned-all}
use Rattle.tac_lower.proofs.Typing.{no, five}
use Rattle.terra_sound.proofs.Covering.{Covers, Sound, Leaves, covers-new, sound-if, leaves-kept, leaves-next}

-- calls of functions that are there aren't stuck, and leave their caller's variables
pub record CallsSound (c : Call) : Type 0 where
  pub keep : CallsKeep c
  pub sound : (f : FnId) (k : Callable) (vs : List Value) (at : Place) (s : State) → callable_of c.store f ≡ Some k → Sound (c.call f vs at s)

-- ---- memory

sound-read : (types : List TypeForm) (at : Place) (of : TypeId) (s : State) (o : Option (List ℕ)) → Sound (read types at of s o)
sound-read types at of s None = refl
sound-read types at of s (Some bs) = tt

sound-written : (at : Place) (s : State) (o : Option regions.Contents) → Sound (written at s o)
sound-written at s None = refl
sound-written at s (Some r) = tt

pub sound-stored : (types : List TypeForm) (at : Place) (of : TypeId) (a : ℕ) (v : Value) (s : State) → Sound (stored types at of a v s)
sound-stored types at of a v s = sound-written at s (put_bytes s.region a (encoded types of v))

pub sound-reached : (types : List TypeForm) (want : Wanted) (at : Place) (of : TypeId) (a : ℕ) (s : State) →
    Sound (reached types want at of a s)
sound-reached types the_value at of a s = sound-read types at of s (range_of s.region a (bytes_at types of))
sound-reached types the_address at of a s = tt

pub sound-variable : (types : List TypeForm) (want : Wanted) (at : Place) (of : TypeId) (is : Held) (s : State) →
    Sound (variable types want at of (Some is) s)
sound-variable types want at of (held v) s = tt
sound-variable types want at of (lies a) s = sound-reached types want at of a s

-- ---- operations

sound-range : (at : Place) (s : State) (o : Option (List ℕ)) → Sound (print_range at s o)
sound-range at s None = refl
sound-range at s (Some bs) = tt

sound-primitive : (at : Place) (p : Primitive) (vs : List Value) (s : State) → Sound (primitive at p vs s)
sound-primitive at PutByte vs s = tt
sound-primitive at Write vs s =
    sound-if (is_negative (number (value_at vs 1))) (Ends _)
    (print_range at s (range_of s.region (number (value_at vs 0)) (number (value_at vs 1)))) refl
    (sound-range at s (range_of s.region (number (value_at vs 0)) (number (value_at vs 1))))
sound-primitive at Alloc vs s = tt

sound-elements : (apart size : ℕ) (s : State) → 0 < size → Sound (in_elements apart size s)
sound-elements apart zero s h = absurd (omega (arith, h))
sound-elements apart (suc size) s h = tt

-- what a pointer to elements of some bytes points to
has-bytes : (types : List TypeForm) (f : TypeForm) → typing.pointer_form f ≡ true →
    nat_lt 0 (bytes_at types (typing.target_in f)) ≡ true → 0 < bytes_at types (target_of (f ∷ []) (record { 0 = 0 }))
has-bytes types (forms.Pointer t) h e = ltb-true 0 (bytes_at types t) e
has-bytes types (forms.Integer i) h e = absurd (no h)
has-bytes types forms.Bool h e = absurd (no h)
has-bytes types forms.Unit h e = absurd (no h)
has-bytes types (forms.Array s n) h e = absurd (no h)
has-bytes types (forms.Function ps r) h e = absurd (no h)
has-bytes types (forms.Struct n p l) h e = absurd (no h)

no-type : (form : TypeForm) → has_type form None ≡ false
no-type (forms.Integer i) = refl
no-type forms.Bool = refl
no-type forms.Unit = refl
no-type (forms.Pointer t) = refl
no-type (forms.Array t n) = refl
no-type (forms.Function params result) = refl
no-type (forms.Struct n place layout) = refl

sound-tested : (b : Bool) (x y : Got Value) → (b ≡ true → Sound x) → Sound y → Sound (if b then x else y)
sound-tested true x y h k = h refl
sound-tested false x y h k = k

sound-called : (c : Call) → CallsSound c → (at : Place) (of : TypeForm) (o : Option FnId) (vs : List Value) (s : State) →
    Sound (called_value c at of o vs s)
sound-called c h at of None vs s = refl
sound-called c h at of (Some f) vs s =
    sound-tested (has_type of (callable_of c.store f)) (c.call f vs at s) (Ends _) (by (callable_of c.store f) refl) refl
  where
    by : (o : Option Callable) → callable_of c.store f ≡ o → has_type of o ≡ true → Sound (c.call f vs at s)
    by (Some k) e t = h.sound f k vs at s e
    by None e t = absurd (no (sym (no-type of) ∙ t))

there : (c : Call) (f : FnId) (ts : List TypeId) (of : TypeId) → typing.has_type ts of (callable_of c.store f) ≡ true →
    (k : Callable) × (callable_of c.store f ≡ Some k)
there c f ts of = by (callable_of c.store f)
  where
    by : (o : Option Callable) → typing.has_type ts of o ≡ true → (k : Callable) × (o ≡ Some k)
    by (Some k) t = (k, refl)
    by None t = absurd (no t)

pub sound-operated : (c : Call) → CallsSound c → (at : Place) (of : TypeId) (op : Operation) (ts : List TypeId) (vs : List Value)
    (s : State) → typing.operation_typed c.store op ts of ≡ true → Sound (operated c at of op ts vs s)
sound-operated c h at of operations.Negate ts vs s t = tt
sound-operated c h at of operations.Not ts vs s t = tt
sound-operated c h at of (operations.Binary op) ts vs s t =
    sound-if (divides op && nat_eq (number (value_at vs 1)) 0) (Ends _) (Gives _ s) refl tt
sound-operated c h at of operations.StepForward ts vs s t = tt
sound-operated c h at of operations.StepBack ts vs s t = tt
sound-operated c h at of operations.Difference ts vs s t =
    let p = five (typing.has_operands 2 ts) (same (typing.first_type ts) (typing.second_type ts))
    (typing.is_pointer c.store (typing.first_type ts)) (typing.is_sized c.store (typing.first_type ts)) (same of int64) t in
    sound-elements _ (bytes_at c.store.types (target_of c.store.types (type_at ts 0))) s
    (has-bytes c.store.types (form_at c.store.types (type_at ts 0)) p.2 p.3)
sound-operated c h at of operations.Convert ts vs s t = tt
sound-operated c h at of (operations.Extract offset) ts vs s t = tt
sound-operated c h at of (operations.Call f) ts vs s t = let k = there c f ts of t in h.sound f k.0 vs at s k.1
sound-operated c h at of (operations.Primitive p) ts vs s t = sound-primitive at p vs s
sound-operated c h at of operations.CallValue ts vs s t =
    sound-called c h at (form_at c.store.types (type_at ts 0)) (entry c.entries (number (value_at vs 0))) (behind vs) s
sound-operated c h at of (operations.Construct offsets) ts vs s t = tt

-- ---- declarations and assignments

leaves-home : (c : Call) (at : Place) (x : TypedName) (v : Option Value) (h : Home) (names : List TypedName) (s : State) →
    Covers names (shape s.variables) → Leaves (x ∷ names) (declared_at c at x v h s)
leaves-home c at x None by_value names s k = covers-new x names _ (shape s.variables) refl k
leaves-home c at x (Some v) by_value names s k = covers-new x names _ (shape s.variables) refl k
leaves-home c at x None (in_frame offset) names s k = covers-new x names _ (shape s.variables) refl k
leaves-home c at x (Some v) (in_frame offset) names s k =
    leaves-next names (x ∷ names) (stored c.store.types at x.of (c.base + offset) v s)
    (λ _ s'. Gives (word 0) (with_variable x.symbol (lies (c.base + offset)) s'))
    (leaves-kept names (shape s.variables) (stored c.store.types at x.of (c.base + offset) v s)
    (keeps-stored c.store.types at x.of (c.base + offset) v s) (sound-stored c.store.types at x.of (c.base + offset) v s) k)
    (λ _ t k2. covers-new x names _ (shape t.variables) refl k2)

pub leaves-declared : (c : Call) (at : Place) (x : TypedName) (v : Option Value) (k : ℕ) (names : List TypedName) (s : State) →
    Covers names (shape s.variables) → Leaves (x ∷ names) (declared c at x v k s)
leaves-declared c at x v k names s h = leaves-home c at x v (home_at c.homes k) names s h

pub leaves-declared-all : (c : Call) (at : Place) (xs : List TypedName) (vs : List Value) (k : ℕ) (names : List TypedName) (s : State) →
    Covers names (shape s.variables) → Leaves (with_names xs names) (declared_all c at xs vs k s)
leaves-declared-all c at [] vs k names s h = h
leaves-declared-all c at (x ∷ xs) vs k names s h =
    leaves-next (x ∷ names) (with_names xs (x ∷ names)) (declared c at x (first_of vs) k s)
    (λ _ s'. declared_all c at xs (behind vs) (suc k) s') (leaves-declared c at x (first_of vs) k names s h)
    (λ _ t. leaves-declared-all c at xs (behind vs) (suc k) (x ∷ names) t)

sound-assigned : (types : List TypeForm) (e : Expression) (a v : Value) (s : State) → Sound (assigned types e a v s)
sound-assigned types (typed at of (Variable x)) a v s =
    sound-if (held_symbol (found x s)) (Gives (word 0) (with_value x (number v) s)) (stored types at of (number a) v s) tt
    (sound-stored types at of (number a) v s)
sound-assigned types (typed at of (Constant' k)) a v s = sound-stored types at of (number a) v s
sound-assigned types (typed at of (Global g)) a v s = sound-stored types at of (number a) v s
sound-assigned types (typed at of (Operate op es)) a v s = sound-stored types at of (number a) v s
sound-assigned types (typed at of (Both x y)) a v s = sound-stored types at of (number a) v s
sound-assigned types (typed at of (Either x y)) a v s = sound-stored types at of (number a) v s
sound-assigned types (typed at of (Dereference p)) a v s = sound-stored types at of (number a) v s
sound-assigned types (typed at of (Select offset e)) a v s = sound-stored types at of (number a) v s
sound-assigned types (typed at of (Follow offset e)) a v s = sound-stored types at of (number a) v s
sound-assigned types (typed at of (Element x i)) a v s = sound-stored types at of (number a) v s
sound-assigned types (typed at of (Index x i)) a v s = sound-stored types at of (number a) v s
sound-assigned types (typed at of (Address e)) a v s = sound-stored types at of (number a) v s
sound-assigned types (typed at of (Decay e)) a v s = sound-stored types at of (number a) v s
sound-assigned types (typed at of (Let b e)) a v s = sound-stored types at of (number a) v s

sound-next : {A B : Type 0} (x : Got A) (go : A → State → Got B) → Sound x → ((a : A) (t : State) → Sound (go a t)) → Sound (next x go)
sound-next (Gives a t) go h k = k a t
sound-next (Ends r) go h k = h

sound-assigned-all : (types : List TypeForm) (es : Expressions) (places vs : List Value) (s : State) →
    Sound (assigned_all types es places vs s)
sound-assigned-all types no_more places vs s = tt
sound-assigned-all types (then_one e es) places vs s =
    sound-next (assigned types e (value_at places 0) (value_at vs 0) s) (λ _ s'. assigned_all types es (behind places) (behind vs) s')
    (sound-assigned types e (value_at places 0) (value_at vs 0) s) (λ _ t. sound-assigned-all types es (behind places) (behind vs) t)

pub leaves-assigned : (types : List TypeForm) (es : Expressions) (places vs : List Value) (names : List TypedName) (s : State) →
    Covers names (shape s.variables) → Leaves names (assigned_all types es places vs s)
leaves-assigned types es places vs names s h =
    leaves-kept names (shape s.variables) (assigned_all types es places vs s) (keeps-assigned-all types es places vs s)
    (sound-assigned-all types es places vs s) h
