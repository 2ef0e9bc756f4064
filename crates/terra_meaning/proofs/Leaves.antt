-- The parts of a program that count nothing themselves, at a larger count.
use Rattle.std.proofs.Common.{◌≡◌, ℕ, zero, suc, ◌+◌, List, [], ◌∷◌, Option, Some, None, refl}
use Rattle.std.specs.Prelude.{◌%◌, ◌&&◌, nat_eq, if◌then◌else◌}
use Rattle.tl_base.specs.declared.place.Place.{Place}
use Rattle.tl_base.specs.declared.ids.TypeId.{TypeId}
use Rattle.tl_base.specs.declared.ids.FnId.{FnId}
use Rattle.tl_base.specs.declared.ids.SymId.{SymId}
use Rattle.terra_memory.specs.Region as regions
use Rattle.terra_memory.specs.Region.{range_of, alloc_of}
use Rattle.terra_words.specs.declared.words.BinaryOperator.{BinaryOperator}
use Rattle.terra_words.specs.declared.words.FaultKind.{FaultKind}
use Rattle.terra_words.specs.declared.words.FaultKind.TheVariants.{BadAddress, DivZero, BadCall}
use Rattle.terra_words.specs.declared.words.Width.{Width}
use Rattle.terra_words.specs.Words.{applied, divides, is_negative}
use Rattle.tl_base.specs.Outside.{IsFront}
use Rattle.terra_words.specs.Runs.{Value, word, number, value_at, put_bytes}
use Rattle.terra_types.specs.declared.types.TypeForm.{TypeForm}
use Rattle.terra_term.specs.declared.operators.Operation.{Operation}
use Rattle.terra_term.specs.declared.operators.Operation.TheVariants as operations
use Rattle.lua_value.specs.declared.primitive.Primitive.{Primitive}
use Rattle.lua_value.specs.declared.primitive.Primitive.TheVariants.{PutByte, Write, Alloc}
use Rattle.terra_term.specs.declared.lists.TypedName.{TypedName}
use Rattle.terra_term.specs.TypedTerms.{Expression, typed, Constant', Variable, Global, Operate, Both, Either, Dereference, Select, Follow}
use Rattle.terra_term.specs.TypedTerms.{Element, Index, Address, Decay, Let, Expressions, no_more, then_one}
use Rattle.terra_term.specs.Stores.{callable_of}
use Rattle.terra_meaning.specs.Values.{bytes_at, encoded, form_at, target_of}
use Rattle.terra_meaning.specs.Frames.{Home, by_value, in_frame, home_at}
use Rattle.terra_meaning.specs.Running.{Held, held, lies, State, Got, Gives, fault, stuck, with_variable, found, with_value}
use Rattle.terra_meaning.specs.Meaning.{Call, read, loaded, written, stored, Wanted, the_value, the_address, reached, variable, binary}
use Rattle.terra_meaning.specs.Meaning.{printed, print_range, primitive, called_value, has_type, entry, behind, type_at, in_elements}
use Rattle.terra_meaning.specs.Meaning.{operated, declared_at, declared, declared_all, first_of, held_symbol, assigned, assigned_all}
use Rattle.terra_meaning.proofs.Larger.{front-self, front-more, shown, more, Carries, Longer, longer-next, longer-gives, longer-if}

-- a call with another meaning of calls, and with more turns
abbrev pub beyond : Call → (FnId → List Value → Place → State → Got Value) → ℕ → Call
beyond c call turns = record c { call = call; turns = turns }

-- a run's end by what is known before
pub longer-fault : {A : Type 0} (d : ℕ) (kind : FaultKind) (at : Place) → Longer {A = A} d (λ s. fault kind at s)
    (λ s. fault kind at s)
longer-fault d kind at = record { carries = λ s. refl; grows = λ s. front-self s.out }

pub longer-stuck : {A : Type 0} (d : ℕ) → Longer {A = A} d (λ s. stuck s) (λ s. stuck s)
longer-stuck d = record { carries = λ s. refl; grows = λ s. front-self s.out }

-- memory

carries-read : (d : ℕ) (types : List TypeForm) (at : Place) (of : TypeId) (s : State) (o : Option (List ℕ)) →
    Carries d (read types at of s o) (read types at of (more d s) o)
carries-read d types at of s None = refl
carries-read d types at of s (Some bs) = refl

grows-read : (types : List TypeForm) (at : Place) (of : TypeId) (s : State) (o : Option (List ℕ)) → IsFront s.out
    (shown (read types at of s o))
grows-read types at of s None = front-self s.out
grows-read types at of s (Some bs) = front-self s.out

pub longer-loaded : (d : ℕ) (types : List TypeForm) (at : Place) (of : TypeId) (a : ℕ) → Longer d
    (loaded types at of a) (loaded types at of a)
longer-loaded d types at of a = record {
  carries = λ s. carries-read d types at of s (range_of s.region a (bytes_at types of));
  grows = λ s. grows-read types at of s (range_of s.region a (bytes_at types of));
}

carries-written : (d : ℕ) (at : Place) (s : State) (o : Option regions.Contents) → Carries d (written at s o)
    (written at (more d s) o)
carries-written d at s None = refl
carries-written d at s (Some r) = refl

grows-written : (at : Place) (s : State) (o : Option regions.Contents) → IsFront s.out (shown (written at s o))
grows-written at s None = front-self s.out
grows-written at s (Some r) = front-self s.out

pub longer-stored : (d : ℕ) (types : List TypeForm) (at : Place) (of : TypeId) (a : ℕ) (v : Value) → Longer d
    (stored types at of a v) (stored types at of a v)
longer-stored d types at of a v = record {
  carries = λ s. carries-written d at s (put_bytes s.region a (encoded types of v));
  grows = λ s. grows-written at s (put_bytes s.region a (encoded types of v));
}

pub longer-reached : (d : ℕ) (types : List TypeForm) (want : Wanted) (at : Place) (of : TypeId) (a : ℕ) → Longer d
    (reached types want at of a) (reached types want at of a)
longer-reached d types the_value at of a = longer-loaded d types at of a
longer-reached d types the_address at of a = longer-gives d (word a)

at-variable : (d : ℕ) (types : List TypeForm) (want : Wanted) (at : Place) (of : TypeId) (o : Option Held) → Longer d
    (variable types want at of o) (variable types want at of o)
at-variable d types want at of None = longer-stuck d
at-variable d types want at of (Some (held v)) = longer-gives d (word v)
at-variable d types want at of (Some (lies a)) = longer-reached d types want at of a

-- a choice by what the count doesn't change
pub longer-by : {A B : Type 0} (d : ℕ) (pick : State → B) (x y : B → State → Got A) → ((s : State) → pick
    (more d s) ≡ pick s) →
    ((b : B) → Longer d (x b) (y b)) → Longer d (λ s. x (pick s) s) (λ s. y (pick s) s)
longer-by d pick x y same h = record {
  carries = λ s. rw (same s) ((h (pick s)).carries s);
  grows = λ s. (h (pick s)).grows s;
}

pub longer-variable : (d : ℕ) (types : List TypeForm) (want : Wanted) (at : Place) (of : TypeId) (x : SymId) →
    Longer d (λ s. variable types want at of (found x s) s) (λ s. variable types want at of (found x s) s)
longer-variable d types want at of x =
    longer-by d (found x) (variable types want at of) (variable types want at of) (λ s. refl)
    (at-variable d types want at of)

-- operations

longer-binary : (d : ℕ) (at : Place) (w : Width) (op : BinaryOperator) (x y : ℕ) → Longer d (binary at w op x y)
    (binary at w op x y)
longer-binary d at w op x y =
    longer-if d (divides op && nat_eq y 0) (λ s. fault DivZero at s) (λ s. fault DivZero at s)
    (λ s. Gives (word (applied w op x y)) s) (λ s. Gives (word (applied w op x y)) s) (longer-fault d DivZero at)
    (longer-gives d (word (applied w op x y)))

longer-printed : (d : ℕ) (bs : List ℕ) → Longer d (λ s. printed s bs) (λ s. printed s bs)
longer-printed d bs = record { carries = λ s. refl; grows = λ s. front-more s.out bs }

at-range : (d : ℕ) (at : Place) (o : Option (List ℕ)) → Longer d (λ s. print_range at s o) (λ s. print_range at s o)
at-range d at None = longer-fault d BadAddress at
at-range d at (Some bs) = longer-printed d bs

longer-primitive : (d : ℕ) (at : Place) (p : Primitive) (vs : List Value) → Longer d (primitive at p vs)
    (primitive at p vs)
longer-primitive d at PutByte vs = longer-printed d (number (value_at vs 0) % 256 ∷ [])
longer-primitive d at Write vs =
    longer-if d (is_negative (number (value_at vs 1))) (λ s. fault BadAddress at s) (λ s. fault BadAddress at s)
    (λ s. print_range at s (range_of s.region (number (value_at vs 0)) (number (value_at vs 1))))
    (λ s. print_range at s (range_of s.region (number (value_at vs 0)) (number (value_at vs 1))))
    (longer-fault d BadAddress at)
    (longer-by d (λ s. range_of s.region (number (value_at vs 0)) (number (value_at vs 1)))
    (λ o s. print_range at s o) (λ o s. print_range at s o) (λ s. refl) (at-range d at))
longer-primitive d at Alloc vs = record { carries = λ s. refl; grows = λ s. front-self s.out }

longer-elements : (d apart size : ℕ) → Longer d (in_elements apart size) (in_elements apart size)
longer-elements d apart zero = longer-stuck d
longer-elements d apart (suc size) = longer-gives d _

longer-called : (d : ℕ) (c : Call) (call : FnId → List Value → Place → State → Got Value) (turns : ℕ) →
    ((f : FnId) (vs : List Value) (at : Place) → Longer d (c.call f vs at) (call f vs at)) →
    (at : Place) (of : TypeForm) (o : Option FnId) (vs : List Value) → Longer d (called_value c at of o vs)
    (called_value (beyond c call turns) at of o vs)
longer-called d c call turns h at of None vs = longer-fault d BadCall at
longer-called d c call turns h at of (Some f) vs =
    longer-if d (has_type of (callable_of c.store f)) (c.call f vs at) (call f vs at) (λ s. fault BadCall at s)
    (λ s. fault BadCall at s)
    (h f vs at) (longer-fault d BadCall at)

pub longer-operated : (d : ℕ) (c : Call) (call : FnId → List Value → Place → State → Got Value) (turns : ℕ) →
    ((f : FnId) (vs : List Value) (at : Place) → Longer d (c.call f vs at) (call f vs at)) →
    (at : Place) (of : TypeId) (op : Operation) (ts : List TypeId) (vs : List Value) → Longer d
    (operated c at of op ts vs) (operated (beyond c call turns) at of op ts vs)
longer-operated d c call turns h at of operations.Negate ts vs = longer-gives d _
longer-operated d c call turns h at of operations.Not ts vs = longer-gives d _
longer-operated d c call turns h at of (operations.Binary op) ts vs = longer-binary d at _ op _ _
longer-operated d c call turns h at of operations.StepForward ts vs = longer-gives d _
longer-operated d c call turns h at of operations.StepBack ts vs = longer-gives d _
longer-operated d c call turns h at of operations.Difference ts vs = longer-elements d _ (bytes_at c.store.types
    (target_of c.store.types (type_at ts 0)))
longer-operated d c call turns h at of operations.Convert ts vs = longer-gives d _
longer-operated d c call turns h at of (operations.Extract offset) ts vs = longer-gives d _
longer-operated d c call turns h at of (operations.Call f) ts vs = h f vs at
longer-operated d c call turns h at of (operations.Primitive p) ts vs = longer-primitive d at p vs
longer-operated d c call turns h at of operations.CallValue ts vs =
    longer-called d c call turns h at (form_at c.store.types (type_at ts 0)) (entry c.entries (number
    (value_at vs 0))) (behind vs)
longer-operated d c call turns h at of (operations.Construct offsets) ts vs = longer-gives d _

-- declarations and assignments

with-variable : (d : ℕ) (v : Value) (x : SymId) (is : Held) → Longer d (λ s. Gives v (with_variable x is s))
    (λ s. Gives v (with_variable x is s))
with-variable d v x is = record { carries = λ s. refl; grows = λ s. front-self s.out }

longer-declared-at : (d : ℕ) (c : Call) (call : FnId → List Value → Place → State → Got Value) (turns : ℕ)
    (at : Place) (x : TypedName) (v : Option Value) (h : Home) → Longer d (declared_at c at x v h) (declared_at
    (beyond c call turns) at x v h)
longer-declared-at d c call turns at x None by_value = with-variable d (word 0) x.symbol (held 0)
longer-declared-at d c call turns at x (Some v) by_value = with-variable d (word 0) x.symbol (held (number v))
longer-declared-at d c call turns at x None (in_frame offset) = with-variable d (word 0) x.symbol (lies
    (c.base + offset))
longer-declared-at d c call turns at x (Some v) (in_frame offset) =
    longer-next d (stored c.store.types at x.of (c.base + offset) v) (stored c.store.types at x.of (c.base + offset) v)
    (λ _ s'. Gives (word 0) (with_variable x.symbol (lies (c.base + offset)) s')) (λ _ s'. Gives (word 0)
    (with_variable x.symbol (lies (c.base + offset)) s'))
    (longer-stored d c.store.types at x.of (c.base + offset) v) (λ _. with-variable d (word 0) x.symbol (lies
    (c.base + offset)))

pub longer-declared : (d : ℕ) (c : Call) (call : FnId → List Value → Place → State → Got Value) (turns : ℕ)
    (at : Place) (x : TypedName) (v : Option Value) (k : ℕ) → Longer d (declared c at x v k) (declared
    (beyond c call turns) at x v k)
longer-declared d c call turns at x v k = longer-declared-at d c call turns at x v (home_at c.homes k)

pub longer-declared-all : (d : ℕ) (c : Call) (call : FnId → List Value → Place → State → Got Value) (turns : ℕ)
    (at : Place) (xs : List TypedName) (vs : List Value) (k : ℕ) → Longer d (declared_all c at xs vs k) (declared_all
    (beyond c call turns) at xs vs k)
longer-declared-all d c call turns at [] vs k = longer-gives d (word 0)
longer-declared-all d c call turns at (x ∷ xs) vs k =
    longer-next d (declared c at x (first_of vs) k) (declared (beyond c call turns) at x (first_of vs) k)
    (λ _ s'. declared_all c at xs (behind vs) (suc k) s') (λ _ s'. declared_all (beyond c call turns) at xs
    (behind vs) (suc k) s')
    (longer-declared d c call turns at x (first_of vs) k) (λ _. longer-declared-all d c call turns at xs (behind vs)
    (suc k))

longer-assigned-variable : (d : ℕ) (types : List TypeForm) (at : Place) (of : TypeId) (x : SymId) (a v : Value) →
    Longer d (assigned types (typed at of (Variable x)) a v) (assigned types (typed at of (Variable x)) a v)
longer-assigned-variable d types at of x a v =
    longer-by d (λ s. held_symbol (found x s))
    (λ b s. if b then Gives (word 0) (with_value x (number v) s) else stored types at of (number a) v s)
    (λ b s. if b then Gives (word 0) (with_value x (number v) s) else stored types at of (number a) v s) (λ s. refl)
    (λ b. longer-if d b (λ s. Gives (word 0) (with_value x (number v) s)) (λ s. Gives (word 0) (with_value x
    (number v) s))
    (stored types at of (number a) v) (stored types at of (number a) v)
    (record { carries = λ s. refl; grows = λ s. front-self s.out }) (longer-stored d types at of (number a) v))

longer-assigned : (d : ℕ) (types : List TypeForm) (e : Expression) (a v : Value) → Longer d (assigned types e a v)
    (assigned types e a v)
longer-assigned d types (typed at of (Variable x)) a v = longer-assigned-variable d types at of x a v
longer-assigned d types (typed at of (Constant' k)) a v = longer-stored d types at of (number a) v
longer-assigned d types (typed at of (Global g)) a v = longer-stored d types at of (number a) v
longer-assigned d types (typed at of (Operate op es)) a v = longer-stored d types at of (number a) v
longer-assigned d types (typed at of (Both x y)) a v = longer-stored d types at of (number a) v
longer-assigned d types (typed at of (Either x y)) a v = longer-stored d types at of (number a) v
longer-assigned d types (typed at of (Dereference p)) a v = longer-stored d types at of (number a) v
longer-assigned d types (typed at of (Select offset e)) a v = longer-stored d types at of (number a) v
longer-assigned d types (typed at of (Follow offset e)) a v = longer-stored d types at of (number a) v
longer-assigned d types (typed at of (Element x i)) a v = longer-stored d types at of (number a) v
longer-assigned d types (typed at of (Index x i)) a v = longer-stored d types at of (number a) v
longer-assigned d types (typed at of (Address e)) a v = longer-stored d types at of (number a) v
longer-assigned d types (typed at of (Decay e)) a v = longer-stored d types at of (number a) v
longer-assigned d types (typed at of (Let b e)) a v = longer-stored d types at of (number a) v

pub longer-assigned-all : (d : ℕ) (types : List TypeForm) (es : Expressions) (places vs : List Value) → Longer d
    (assigned_all types es places vs) (assigned_all types es places vs)
longer-assigned-all d types no_more places vs = longer-gives d (word 0)
longer-assigned-all d types (then_one e es) places vs =
    longer-next d (assigned types e (value_at places 0) (value_at vs 0)) (assigned types e (value_at places 0)
    (value_at vs 0))
    (λ _ s'. assigned_all types es (behind places) (behind vs) s') (λ _ s'. assigned_all types es (behind places)
    (behind vs) s')
    (longer-assigned d types e (value_at places 0) (value_at vs 0)) (λ _. longer-assigned-all d types es
    (behind places) (behind vs))
