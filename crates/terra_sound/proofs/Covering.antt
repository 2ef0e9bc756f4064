-- What covers the names in scope and isn't stuck, and the ways in which parts of a program are put together. `Leaves` goes through the
-- parts that have none, and `Sound` through the terms.
use Rattle.std.proofs.Common.{◌≡◌, ℕ, zero, suc, ◌+◌, Bool, true, false, List, [], ◌∷◌, ◌++◌, Some, refl, sym, ap, subst}
use Rattle.std.specs.Prelude.{nat_eq, if◌then◌else◌}
use Rattle.std.proofs.lemmas.Bool.{eqb-true, eq-eqb}
use Rattle.tl_base.specs.declared.ids.SymId.{SymId}
use Rattle.tl_base.specs.declared.ids.TypeId.{TypeId}
use Rattle.terra_words.specs.declared.words.Width.{Width}
use Rattle.terra_words.specs.Words.{wrapped}
use Rattle.terra_words.specs.Runs.{Value, End, Returned, Fault, Stuck, Run, More}
use Rattle.terra_words.specs.Runs as ends
use Rattle.terra_term.specs.declared.lists.TypedName.{TypedName}
use Rattle.terra_term.specs.WellTyped as typing
use Rattle.terra_term.specs.WellTyped.{Within, same, in_a_let, in_a_loop}
use Rattle.terra_meaning.specs.Laws.{Shape, shape, Has, Keeps}
use Rattle.terra_meaning.specs.Running as running
use Rattle.terra_meaning.specs.Running.{Held, State, Got, Gives, Ends, next, counted_from, leaving, scoped, find}
use Rattle.terra_meaning.specs.Meaning.{Way, goes_on, breaks, gives_back, along, turned, rounds, runs, for_rounds}
use Rattle.tac_lower.proofs.Typing.{no}

-- ---- definitions

abbrev pub is_fault : End → Bool
is_fault (Returned v) = false
is_fault (Fault kind at) = true
is_fault Stuck = false

-- a part of a program ends the run by a fault, or by the need of more
abbrev pub is_abrupt : Run → Bool
is_abrupt (ends.Over e out) = is_fault e
is_abrupt (More out) = true

abbrev pub has_symbol : SymId → List Shape → Bool
has_symbol x [] = false
has_symbol x (y ∷ ys) = if nat_eq x.0 y.symbol.0 then true else has_symbol x ys

-- each name has a variable
abbrev pub Covers : List TypedName → List Shape → Type 0
Covers [] sh = Unit {0}
Covers (y ∷ ys) sh = (has_symbol y.symbol sh ≡ true) × Covers ys sh

-- a part ends the run only so
abbrev pub Sound : {A : Type 0} → Got A → Type 0
Sound (Gives a t) = Unit {0}
Sound (Ends r) = is_abrupt r ≡ true

-- and leaves a variable for each name
abbrev pub Leaves : {A : Type 0} → List TypedName → Got A → Type 0
Leaves names (Gives a t) = Covers names (shape t.variables)
Leaves names (Ends r) = is_abrupt r ≡ true

-- a statement goes on with these names, and breaks or gives back only where it may
abbrev pub Acts : Within → List TypedName → Got Way → Type 0
Acts w names (Gives goes_on t) = Covers names (shape t.variables)
Acts w names (Gives breaks t) = w.in_loop ≡ true
Acts w names (Gives (gives_back v) t) = w.in_let ≡ false
Acts w names (Ends r) = is_abrupt r ≡ true

-- ---- names and variables

same-symbol : (a b : SymId) → nat_eq a.0 b.0 ≡ true → a ≡ b
same-symbol a b e = ap (λ m. record { 0 = m }) (eqb-true a.0 b.0 e)

pub found-some : (x : SymId) (vs : List running.Variable) → has_symbol x (shape vs) ≡ true → (is : Held) × (find x vs ≡ Some is)
found-some x [] h = absurd (no h)
found-some x (v ∷ vs) h = by (nat_eq x.0 v.symbol.0) (λ e. found-some x vs e) h
  where
    by : (b : Bool) → (has_symbol x (shape vs) ≡ true → (is : Held) × (find x vs ≡ Some is)) →
        (if b then true else has_symbol x (shape vs)) ≡ true → (is : Held) × ((if b then Some v.is else find x vs) ≡ Some is)
    by true more e = (v.is, refl)
    by false more e = more e

more-symbols : (x : SymId) (nearer sh : List Shape) → has_symbol x sh ≡ true → has_symbol x (nearer ++ sh) ≡ true
more-symbols x [] sh h = h
more-symbols x (y ∷ ys) sh h = by (nat_eq x.0 y.symbol.0) (more-symbols x ys sh h)
  where
    by : (b : Bool) → has_symbol x (ys ++ sh) ≡ true → (if b then true else has_symbol x (ys ++ sh)) ≡ true
    by true more = refl
    by false more = more

pub covers-more : (names : List TypedName) (nearer sh : List Shape) → Covers names sh → Covers names (nearer ++ sh)
covers-more [] nearer sh h = tt
covers-more (y ∷ ys) nearer sh h = (more-symbols y.symbol nearer sh h.0, covers-more ys nearer sh h.1)

pub covers-new : (x : TypedName) (names : List TypedName) (new : Shape) (sh : List Shape) → new.symbol ≡ x.symbol → Covers names sh →
    Covers (x ∷ names) (new ∷ sh)
covers-new x names new sh is h = (
  subst (λ (z : SymId). (if nat_eq x.symbol.0 z.0 then true else has_symbol x.symbol sh) ≡ true) (sym is)
      (ap (λ b. if b then true else has_symbol x.symbol sh) (eq-eqb x.symbol.0 x.symbol.0 refl)),
  covers-more names (new ∷ []) sh h,
)

pub in-covers : (x : SymId) (of : TypeId) (names : List TypedName) (sh : List Shape) → typing.in_scope x of names ≡ true →
    Covers names sh → has_symbol x sh ≡ true
in-covers x of [] sh e h = absurd (no e)
in-covers x of (y ∷ ys) sh e h = by (nat_eq x.0 y.symbol.0) refl (λ e2. in-covers x of ys sh e2 h.1) e
  where
    by : (b : Bool) → nat_eq x.0 y.symbol.0 ≡ b → (typing.in_scope x of ys ≡ true → has_symbol x sh ≡ true) →
        (if b then same of y.of else typing.in_scope x of ys) ≡ true → has_symbol x sh ≡ true
    by true is more e2 = subst (λ (z : SymId). has_symbol z sh ≡ true) (sym (same-symbol x y.symbol is)) h.0
    by false is more e2 = more e2

-- ---- one part after the other

pub sound-if : {A : Type 0} (b : Bool) (x y : Got A) → Sound x → Sound y → Sound (if b then x else y)
sound-if true x y h k = h
sound-if false x y h k = k

pub leaves-kept : {A : Type 0} (names : List TypedName) (sh : List Shape) (x : Got A) → Has sh x → Sound x → Covers names sh → Leaves names x
leaves-kept names sh (Gives a t) h s c = subst (Covers names) (sym h) c
leaves-kept names sh (Ends r) h s c = s

pub leaves-next : {A B : Type 0} (names names' : List TypedName) (x : Got A) (go : A → State → Got B) → Leaves names x →
    ((a : A) (t : State) → Covers names (shape t.variables) → Leaves names' (go a t)) → Leaves names' (next x go)
leaves-next names names' (Gives a t) go h k = k a t h
leaves-next names names' (Ends r) go h k = h

pub leaves-if : {A : Type 0} (names : List TypedName) (b : Bool) (x y : Got A) → Leaves names x → Leaves names y →
    Leaves names (if b then x else y)
leaves-if names true x y h k = h
leaves-if names false x y h k = k

pub leaves-scoped : {A : Type 0} (names inner : List TypedName) (s : State) (x : Got A) → Leaves inner x →
    Has (shape s.variables) (scoped s x) → Covers names (shape s.variables) → Leaves names (scoped s x)
leaves-scoped names inner s (Gives a t) l h c = subst (Covers names) (sym h) c
leaves-scoped names inner s (Ends r) l h c = l

pub acts-next : {A : Type 0} (w : Within) (names names' : List TypedName) (x : Got A) (go : A → State → Got Way) → Leaves names x →
    ((a : A) (t : State) → Covers names (shape t.variables) → Acts w names' (go a t)) → Acts w names' (next x go)
acts-next w names names' (Gives a t) go h k = k a t h
acts-next w names names' (Ends r) go h k = h

pub acts-if : (w : Within) (names : List TypedName) (b : Bool) (x y : Got Way) → Acts w names x → Acts w names y →
    Acts w names (if b then x else y)
acts-if w names true x y h k = h
acts-if w names false x y h k = k

pub acts-along : (w : Within) (inner names : List TypedName) (x : Got Way) (go : State → Got Way) → Acts w inner x →
    ((t : State) → Covers inner (shape t.variables) → Acts w names (go t)) → Acts w names (next x (λ way t. along way t go))
acts-along w inner names (Gives goes_on t) go h k = k t h
acts-along w inner names (Gives breaks t) go h k = h
acts-along w inner names (Gives (gives_back v) t) go h k = h
acts-along w inner names (Ends r) go h k = h

pub acts-scoped : (w : Within) (names inner : List TypedName) (s : State) (x : Got Way) → Acts w inner x →
    Has (shape s.variables) (scoped s x) → Covers names (shape s.variables) → Acts w names (scoped s x)
acts-scoped w names inner s (Gives goes_on t) a h c = subst (Covers names) (sym h) c
acts-scoped w names inner s (Gives breaks t) a h c = a
acts-scoped w names inner s (Gives (gives_back v) t) a h c = a
acts-scoped w names inner s (Ends r) a h c = a

-- the statements of a `let` always go on
pub let-next : {A : Type 0} (w : Within) (inner names : List TypedName) (x : Got Way) (go : Way → State → Got A) →
    Acts (in_a_let w) inner x → ((way : Way) (t : State) → Covers inner (shape t.variables) → Leaves names (go way t)) →
    Leaves names (next x go)
let-next w inner names (Gives goes_on t) go h k = k goes_on t h
let-next w inner names (Gives breaks t) go h k = absurd (no h)
let-next w inner names (Gives (gives_back v) t) go h k = absurd (no (sym h))
let-next w inner names (Ends r) go h k = h

-- ---- loops

acts-counted : (w : Within) (names : List TypedName) (n : ℕ) (t : State) (go : State → Got Way) →
    ((u : State) → Covers names (shape u.variables) → Acts w names (go u)) → Covers names (shape t.variables) →
    Acts w names (counted_from n t go)
acts-counted w names zero t go k c = refl
acts-counted w names (suc n) t go k c = k (record t { left = n }) c

pub acts-turned : (w : Within) (names : List TypedName) (sh : List Shape) (x : Got Way) (go : State → Got Way) → Has sh x →
    Acts (in_a_loop w) names x → Covers names sh → ((t : State) → Covers names (shape t.variables) → Acts w names (go t)) →
    Acts w names (next x (λ way t. turned way t go))
acts-turned w names sh (Gives goes_on t) go h a c k = acts-counted w names t.left t go k a
acts-turned w names sh (Gives breaks t) go h a c k = subst (Covers names) (sym h) c
acts-turned w names sh (Gives (gives_back v) t) go h a c k = a
acts-turned w names sh (Ends r) go h a c k = a

pub acts-rounds : (w : Within) (names : List TypedName) (n : ℕ) (round : State → Got Way) → Keeps round →
    ((s : State) → Covers names (shape s.variables) → Acts (in_a_loop w) names (round s)) →
    (s : State) → Covers names (shape s.variables) → Acts w names (rounds n round s)
acts-rounds w names zero round keeps acts s c = refl
acts-rounds w names (suc n) round keeps acts s c =
    acts-turned w names (shape s.variables) (round s) (rounds n round) (keeps s) (acts s c) c (acts-rounds w names n round keeps acts)

pub acts-for : (w : Within) (names : List TypedName) (n : ℕ) (width : Width) (limit step : ℕ) (round : ℕ → State → Got Way) →
    ((i : ℕ) → Keeps (round i)) →
    ((i : ℕ) (s : State) → Covers names (shape s.variables) → Acts (in_a_loop w) names (round i s)) →
    (i : ℕ) (s : State) → Covers names (shape s.variables) → Acts w names (for_rounds n width limit step round i s)
acts-for w names zero width limit step round keeps acts i s c = refl
acts-for w names (suc n) width limit step round keeps acts i s c =
    acts-if w names (runs width i limit step)
    (next (round i s) (λ way s'. turned way s' (for_rounds n width limit step round (wrapped width (i + step))))) (Gives goes_on s)
    (acts-turned w names (shape s.variables) (round i s) (for_rounds n width limit step round (wrapped width (i + step))) (keeps i s)
    (acts i s c) c (acts-for w names n width limit step round keeps acts (wrapped width (i + step)))) c
