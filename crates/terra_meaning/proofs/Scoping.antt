-- How parts of a program leave the variables in scope: with the symbols and places that they had. This file has the
-- ways in which parts are put together, and the parts that have none; `Scopes` goes through the terms.
use Rattle.std.proofs.Common.{◌≡◌, ℕ, zero, suc, ◌+◌, Bool, true, false, List, [], ◌∷◌, ◌++◌, length, drop, Option, Some, None, refl, ap}
use Rattle.std.proofs.Common.{sym, ◌∙◌, arith, subst, append_assoc}
use Rattle.std.specs.Prelude.{◌-◌, ◌&&◌, nat_eq, if◌then◌else◌}
use Rattle.tl_base.specs.declared.place.Place.{Place}
use Rattle.tl_base.specs.declared.ids.TypeId.{TypeId}
use Rattle.tl_base.specs.declared.ids.SymId.{SymId}
use Rattle.tl_base.specs.declared.ids.FnId.{FnId}
use Rattle.terra_memory.specs.Region as regions
use Rattle.terra_memory.specs.Region.{range_of, alloc_of}
use Rattle.terra_words.specs.declared.words.Width.{Width}
use Rattle.terra_words.specs.Words.{divides, is_negative, wrapped}
use Rattle.terra_words.specs.Runs.{Value, word, number, value_at, put_bytes}
use Rattle.terra_types.specs.declared.types.TypeForm.{TypeForm}
use Rattle.terra_term.specs.declared.operators.Operation.{Operation}
use Rattle.terra_term.specs.declared.operators.Operation.TheVariants as operations
use Rattle.lua_value.specs.declared.primitive.Primitive.{Primitive}
use Rattle.lua_value.specs.declared.primitive.Primitive.TheVariants.{PutByte, Write, Alloc}
use Rattle.terra_term.specs.declared.lists.TypedName.{TypedName}
use Rattle.terra_term.specs.TypedTerms.{Expression, typed, Constant', Variable, Global, Operate, Both, Either, Dereference, Select, Follow}
use Rattle.terra_term.specs.TypedTerms.{Element, Index, Address, Decay, Let, Expressions, no_more, then_one}
use Rattle.terra_term.specs.Stores.{callable_of}
use Rattle.terra_meaning.specs.Values.{bytes_at, encoded, form_at, target_of}
use Rattle.terra_meaning.specs.Frames.{Home, by_value, in_frame, home_at}
use Rattle.terra_meaning.specs.Laws.{Shape, address_in, shape_of, shape, Has, Over, HasUnder, Keeps, Adds, CallsKeep}
use Rattle.terra_meaning.specs.Running as running
use Rattle.terra_meaning.specs.Running.{Held, held, lies, State, Got, Gives, Ends, next, fault, counted_from, counted, leaving, scoped}
use Rattle.terra_meaning.specs.Running.{with_variable, find, found, set, with_value}
use Rattle.terra_meaning.specs.Meaning.{Call, read, written, stored, Wanted, the_value, the_address, reached, variable, print_range}
use Rattle.terra_meaning.specs.Meaning.{primitive, called_value, has_type, entry, behind, type_at, in_elements, operated, declared_at}
use Rattle.terra_meaning.specs.Meaning.{declared, declared_all, first_of, held_symbol, assigned, assigned_all, Way, goes_on, breaks}
use Rattle.terra_meaning.specs.Meaning.{gives_back, along, turned, rounds, runs, for_rounds}

over-then : (a b c : List Shape) → Over a b → Over b c → Over a c
over-then a b c x y = (y.0 ++ x.0, rw (y.1, x.1) (sym (append_assoc y.0 x.0 a)))

pub adds : {A : Type 0} (sh : List Shape) (x : Got A) → Has sh x → HasUnder sh x
adds sh (Gives a t) h = ([], h)
adds sh (Ends r) h = tt

pub keeps-next : {A B : Type 0} (sh : List Shape) (x : Got A) (go : A → State → Got B) → Has sh x → ((a : A) → Keeps
    (go a)) → Has sh (next x go)
keeps-next sh (Gives a t) go h k = subst (λ z. Has z (go a t)) h (k a t)
keeps-next sh (Ends r) go h k = tt

under-then : {A : Type 0} (a b : List Shape) (x : Got A) → Over a b → HasUnder b x → HasUnder a x
under-then a b (Gives v t) o h = over-then a b (shape t.variables) o h
under-then a b (Ends r) o h = tt

pub adds-next : {A B : Type 0} (sh : List Shape) (x : Got A) (go : A → State → Got B) → HasUnder sh x → ((a : A) →
    Adds (go a)) → HasUnder sh (next x go)
adds-next sh (Gives a t) go h k = under-then sh (shape t.variables) (go a t) h (k a t)
adds-next sh (Ends r) go h k = tt

-- a scope's end
length-shape : (vs : List running.Variable) → length (shape vs) ≡ length vs
length-shape [] = refl
length-shape (v ∷ vs) = ap suc (length-shape vs)

shape-drop : (n : ℕ) (vs : List running.Variable) → shape (drop n vs) ≡ drop n (shape vs)
shape-drop zero vs = refl
shape-drop (suc n) [] = refl
shape-drop (suc n) (v ∷ vs) = shape-drop n vs

drop-front : (front sh : List Shape) → drop (length front) (front ++ sh) ≡ sh
drop-front [] sh = refl
drop-front (x ∷ front) sh = drop-front front sh

length-both : (front sh : List Shape) → length (front ++ sh) ≡ length front + length sh
length-both [] sh = omega arith
length-both (x ∷ front) sh = let e : length (front ++ sh) ≡ length front + length sh = length-both front sh in omega
    (arith, e)

dropped : (vs ws : List running.Variable) → Over (shape vs) (shape ws) → shape (drop
    (length ws - length vs) ws) ≡ shape vs
dropped vs ws o =
    let long : length ws ≡ length o.0 + length vs = sym (length-shape ws) ∙ ap length o.1 ∙ length-both o.0
    (shape vs) ∙ ap (λ n. length o.0 + n) (length-shape vs) in
    let n : length ws - length vs ≡ length o.0 = omega (arith, long) in
    shape-drop (length ws - length vs) ws ∙ ap (λ k. drop k (shape ws)) n ∙ ap (drop
    (length o.0)) o.1 ∙ drop-front o.0 (shape vs)

pub keeps-leaving : {A : Type 0} (vs : List running.Variable) (x : Got A) → HasUnder (shape vs) x → Has (shape vs)
    (leaving (length vs) x)
keeps-leaving vs (Gives a t) h = dropped vs t.variables h
keeps-leaving vs (Ends r) h = tt

-- choices, counts and loops
pub keeps-if : {A : Type 0} (sh : List Shape) (b : Bool) (x y : Got A) → Has sh x → Has sh y → Has sh
    (if b then x else y)
keeps-if sh true x y h k = h
keeps-if sh false x y h k = k

pub adds-if : {A : Type 0} (sh : List Shape) (b : Bool) (x y : Got A) → HasUnder sh x → HasUnder sh y → HasUnder sh
    (if b then x else y)
adds-if sh true x y h k = h
adds-if sh false x y h k = k

keeps-counted : {A : Type 0} (n : ℕ) (s : State) (go : State → Got A) → Keeps go → Has (shape s.variables)
    (counted_from n s go)
keeps-counted zero s go h = tt
keeps-counted (suc n) s go h = h (record s { left = n })

pub adds-along : (way : Way) (s : State) (go : State → Got Way) → Adds go → HasUnder (shape s.variables)
    (along way s go)
adds-along goes_on s go h = h s
adds-along breaks s go h = ([], refl)
adds-along (gives_back v) s go h = ([], refl)

keeps-turned : (way : Way) → (go : State → Got Way) → Keeps go → Keeps (λ s. turned way s go)
keeps-turned goes_on go h s = keeps-counted s.left s go h
keeps-turned breaks go h s = refl
keeps-turned (gives_back v) go h s = refl

pub keeps-rounds : (n : ℕ) (round : State → Got Way) → Keeps round → Keeps (rounds n round)
keeps-rounds zero round h s = tt
keeps-rounds (suc n) round h s =
    keeps-next (shape s.variables) (round s) (λ way s'. turned way s' (rounds n round)) (h s) (λ way. keeps-turned way
    (rounds n round) (keeps-rounds n round h))

pub keeps-for : (n : ℕ) (w : Width) (limit step : ℕ) (round : ℕ → State → Got Way) → ((i : ℕ) → Keeps (round i)) →
    (i : ℕ) → Keeps (for_rounds n w limit step round i)
keeps-for zero w limit step round h i s = tt
keeps-for (suc n) w limit step round h i s =
    keeps-if (shape s.variables) (runs w i limit step) (next (round i s) (λ way s'. turned way s'
    (for_rounds n w limit step round (wrapped w (i + step))))) (Gives goes_on s)
    (keeps-next (shape s.variables) (round i s) (λ way s'. turned way s' (for_rounds n w limit step round (wrapped w
    (i + step)))) (h i s)
    (λ way. keeps-turned way (for_rounds n w limit step round (wrapped w (i + step)))
    (keeps-for n w limit step round h (wrapped w (i + step)))))
    refl

-- memory

at-read : (types : List TypeForm) (at : Place) (of : TypeId) (s : State) (o : Option (List ℕ)) → Has
    (shape s.variables) (read types at of s o)
at-read types at of s None = tt
at-read types at of s (Some bs) = refl

at-written : (at : Place) (s : State) (o : Option regions.Contents) → Has (shape s.variables) (written at s o)
at-written at s None = tt
at-written at s (Some r) = refl

pub keeps-stored : (types : List TypeForm) (at : Place) (of : TypeId) (a : ℕ) (v : Value) → Keeps
    (stored types at of a v)
keeps-stored types at of a v s = at-written at s (put_bytes s.region a (encoded types of v))

pub keeps-reached : (types : List TypeForm) (want : Wanted) (at : Place) (of : TypeId) (a : ℕ) → Keeps
    (reached types want at of a)
keeps-reached types the_value at of a s = at-read types at of s (range_of s.region a (bytes_at types of))
keeps-reached types the_address at of a s = refl

pub keeps-variable : (types : List TypeForm) (want : Wanted) (at : Place) (of : TypeId) (o : Option Held) → Keeps
    (variable types want at of o)
keeps-variable types want at of None s = tt
keeps-variable types want at of (Some (held v)) s = refl
keeps-variable types want at of (Some (lies a)) s = keeps-reached types want at of a s

-- operations

at-range : (at : Place) (s : State) (o : Option (List ℕ)) → Has (shape s.variables) (print_range at s o)
at-range at s None = tt
at-range at s (Some bs) = refl

keeps-primitive : (at : Place) (p : Primitive) (vs : List Value) → Keeps (primitive at p vs)
keeps-primitive at PutByte vs s = refl
keeps-primitive at Write vs s =
    keeps-if (shape s.variables) (is_negative (number (value_at vs 1))) (Ends _) (print_range at s (range_of s.region
    (number (value_at vs 0)) (number (value_at vs 1)))) tt
    (at-range at s (range_of s.region (number (value_at vs 0)) (number (value_at vs 1))))
keeps-primitive at Alloc vs s = refl

keeps-elements : (apart size : ℕ) → Keeps (in_elements apart size)
keeps-elements apart zero s = tt
keeps-elements apart (suc size) s = refl

keeps-called : (c : Call) → CallsKeep c → (at : Place) (of : TypeForm) (o : Option FnId) (vs : List Value) → Keeps
    (called_value c at of o vs)
keeps-called c h at of None vs s = tt
keeps-called c h at of (Some f) vs s = keeps-if (shape s.variables) (has_type of (callable_of c.store f))
    (c.call f vs at s) (Ends _) (h f vs at s) tt

pub keeps-operated : (c : Call) → CallsKeep c → (at : Place) (of : TypeId) (op : Operation) (ts : List TypeId)
    (vs : List Value) → Keeps (operated c at of op ts vs)
keeps-operated c h at of operations.Negate ts vs s = refl
keeps-operated c h at of operations.Not ts vs s = refl
keeps-operated c h at of (operations.Binary op) ts vs s =
    keeps-if (shape s.variables) (divides op && nat_eq (number (value_at vs 1)) 0) (Ends _) (Gives _ s) tt refl
keeps-operated c h at of operations.StepForward ts vs s = refl
keeps-operated c h at of operations.StepBack ts vs s = refl
keeps-operated c h at of operations.Difference ts vs s = keeps-elements _ (bytes_at c.store.types
    (target_of c.store.types (type_at ts 0))) s
keeps-operated c h at of operations.Convert ts vs s = refl
keeps-operated c h at of (operations.Extract offset) ts vs s = refl
keeps-operated c h at of (operations.Call f) ts vs s = h f vs at s
keeps-operated c h at of (operations.Primitive p) ts vs s = keeps-primitive at p vs s
keeps-operated c h at of operations.CallValue ts vs s =
    keeps-called c h at (form_at c.store.types (type_at ts 0)) (entry c.entries (number (value_at vs 0))) (behind vs) s
keeps-operated c h at of (operations.Construct offsets) ts vs s = refl

-- declarations and assignments

at-home : (c : Call) (at : Place) (x : TypedName) (v : Option Value) (h : Home) → Adds (declared_at c at x v h)
at-home c at x None by_value s = (_ ∷ [], refl)
at-home c at x (Some v) by_value s = (_ ∷ [], refl)
at-home c at x None (in_frame offset) s = (_ ∷ [], refl)
at-home c at x (Some v) (in_frame offset) s =
    adds-next (shape s.variables) (stored c.store.types at x.of (c.base + offset) v s) (λ _ s'. Gives (word 0)
    (with_variable x.symbol (lies (c.base + offset)) s'))
    (adds (shape s.variables) (stored c.store.types at x.of (c.base + offset) v s) (keeps-stored c.store.types at x.of
    (c.base + offset) v s)) (λ _ t. (_ ∷ [], refl))

pub adds-declared : (c : Call) (at : Place) (x : TypedName) (v : Option Value) (k : ℕ) → Adds (declared c at x v k)
adds-declared c at x v k s = at-home c at x v (home_at c.homes k) s

pub adds-declared-all : (c : Call) (at : Place) (xs : List TypedName) (vs : List Value) (k : ℕ) → Adds
    (declared_all c at xs vs k)
adds-declared-all c at [] vs k s = ([], refl)
adds-declared-all c at (x ∷ xs) vs k s =
    adds-next (shape s.variables) (declared c at x (first_of vs) k s) (λ _ s'. declared_all c at xs (behind vs)
    (suc k) s')
    (adds-declared c at x (first_of vs) k s) (λ _. adds-declared-all c at xs (behind vs) (suc k))

held-place : (n : ℕ) (is : Held) → held_symbol (Some is) ≡ true → address_in (held n) ≡ address_in is
held-place n (held m) h = refl
held-place n (lies a) h = absurd (grind (arith, h))

at-set : (x : SymId) (n : ℕ) (v : running.Variable) (vs : List running.Variable) →
    (held_symbol (find x vs) ≡ true → shape (set x (held n) vs) ≡ shape vs) → (b : Bool) →
    held_symbol (if b then Some v.is else find x vs) ≡ true →
    shape (if b then record v { is = held n } ∷ vs else v ∷ set x (held n) vs) ≡ shape (v ∷ vs)
at-set x n v vs rest true h = ap (λ (p : Option ℕ). record { symbol = v.symbol; place = p } ∷ shape vs)
    (held-place n v.is h)
at-set x n v vs rest false h = ap (λ (l : List Shape). shape_of v ∷ l) (rest h)

shape-set : (x : SymId) (n : ℕ) (vs : List running.Variable) → held_symbol (find x vs) ≡ true →
    shape (set x (held n) vs) ≡ shape vs
shape-set x n [] h = refl
shape-set x n (v ∷ vs) h = at-set x n v vs (shape-set x n vs) (nat_eq x.0 v.symbol.0) h

at-assigned : (types : List TypeForm) (at : Place) (of : TypeId) (x : SymId) (a v : Value) (s : State) (b : Bool) →
    held_symbol (found x s) ≡ b →
    Has (shape s.variables) (if b then Gives (word 0) (with_value x (number v) s) else stored types at of
    (number a) v s)
at-assigned types at of x a v s true e = shape-set x (number v) s.variables e
at-assigned types at of x a v s false e = keeps-stored types at of (number a) v s

keeps-assigned : (types : List TypeForm) (e : Expression) (a v : Value) → Keeps (assigned types e a v)
keeps-assigned types (typed at of (Variable x)) a v s = at-assigned types at of x a v s (held_symbol (found x s)) refl
keeps-assigned types (typed at of (Constant' k)) a v s = keeps-stored types at of (number a) v s
keeps-assigned types (typed at of (Global g)) a v s = keeps-stored types at of (number a) v s
keeps-assigned types (typed at of (Operate op es)) a v s = keeps-stored types at of (number a) v s
keeps-assigned types (typed at of (Both x y)) a v s = keeps-stored types at of (number a) v s
keeps-assigned types (typed at of (Either x y)) a v s = keeps-stored types at of (number a) v s
keeps-assigned types (typed at of (Dereference p)) a v s = keeps-stored types at of (number a) v s
keeps-assigned types (typed at of (Select offset e)) a v s = keeps-stored types at of (number a) v s
keeps-assigned types (typed at of (Follow offset e)) a v s = keeps-stored types at of (number a) v s
keeps-assigned types (typed at of (Element x i)) a v s = keeps-stored types at of (number a) v s
keeps-assigned types (typed at of (Index x i)) a v s = keeps-stored types at of (number a) v s
keeps-assigned types (typed at of (Address e)) a v s = keeps-stored types at of (number a) v s
keeps-assigned types (typed at of (Decay e)) a v s = keeps-stored types at of (number a) v s
keeps-assigned types (typed at of (Let b e)) a v s = keeps-stored types at of (number a) v s

pub keeps-assigned-all : (types : List TypeForm) (es : Expressions) (places vs : List Value) → Keeps
    (assigned_all types es places vs)
keeps-assigned-all types no_more places vs s = refl
keeps-assigned-all types (then_one e es) places vs s =
    keeps-next (shape s.variables) (assigned types e (value_at places 0) (value_at vs 0) s)
    (λ _ s'. assigned_all types es (behind places) (behind vs) s')
    (keeps-assigned types e (value_at places 0) (value_at vs 0) s) (λ _. keeps-assigned-all types es (behind places)
    (behind vs))
