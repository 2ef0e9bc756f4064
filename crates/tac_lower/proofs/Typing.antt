-- What the tests of typing say: of ids, names in scope, forms, values, entries, operators and conversions.
use Rattle.std.proofs.Common.{◌≡◌, ℕ, suc, ◌+◌, ◌<◌, ◌≤◌, Bool, true, false, List, [], ◌∷◌, length, map, Option, Some, None, refl, sym, ap}
use Rattle.std.proofs.Common.{◌∙◌, subst, arith}
use Rattle.std.specs.Prelude.{◌^◌, ◌%◌, ◌-◌, not, ◌&&◌, ◌||◌, ◌⊎◌, nat_eq, nat_le, nat_lt, if◌then◌else◌}
use mathlib.Core.Logic.{inl, inr}
use Rattle.std.proofs.lemmas.Bool.{leb-true, leb-false, ltb-true, and_parts, or_cases}
use Rattle.tl_base.specs.declared.ids.SymId.{SymId}
use Rattle.tl_base.specs.declared.ids.TypeId.{TypeId}
use Rattle.tl_base.specs.declared.ids.FnId.{FnId}
use Rattle.terra_words.specs.Words.{wrapped, flag}
use Rattle.terra_words.specs.Runs.{word}
use Rattle.terra_types.specs.declared.types.Integer.{Integer}
use Rattle.terra_types.specs.declared.types.Integer.TheVariants.{Int8, Int16, Int32, Int64, Uint8, Uint16, Uint32, Uint64}
use Rattle.terra_types.specs.declared.types.TypeForm.{TypeForm}
use Rattle.terra_types.specs.declared.types.TypeForm.TheVariants as forms
use Rattle.terra_types.specs.Layouts.{entries_in}
use Rattle.terra_term.specs.declared.lists.TypedName.{TypedName}
use Rattle.terra_term.specs.TypedTerms.{Expressions, no_more, then_one, Statement, statement, Var, Assign, If, IfElse, While, Repeat, For}
use Rattle.terra_term.specs.TypedTerms.{Do, Break, Finish, Return, Perform, Statements, done, and_then, type_of}
use Rattle.terra_term.specs.Stores.{Callable}
use Rattle.terra_term.specs.Events.{declares_all, declared_in}
use Rattle.terra_term.specs.WellTyped as typing
use Rattle.terra_term.specs.WellTyped.{same, are_same, types_in}
use Rattle.terra_term.specs.WellTyped.{types_of_names, with_names, after_one, after_all}
pub use Rattle.terra_term.proofs.Tests.{no, three, four, five, same-id, same-ids}
use Rattle.terra_meaning.specs.Values.{form_at, is_aggregate, IsValue}
use Rattle.terra_meaning.specs.Meaning.{Wanted, the_value, the_address, position_of, types_of}
use Rattle.tac_lower.specs.Lowering.{type_of_name}
use Rattle.tac_lower.specs.Needs.{HasNumber, IsValueWanted, IsWide, by_test, InScope, declared_names, names_after, names_after_one}
use Rattle.tac_lower.proofs.Words.{width_by, wrapped-zero}

-- ids

pub names-are : (xs : List TypedName) → types_of_names xs ≡ map type_of_name xs
names-are [] = refl
names-are (x ∷ xs) = ap (λ l. x.of ∷ l) (names-are xs)

pub types-are : (es : Expressions) → types_in es ≡ types_of es
types-are no_more = refl
types-are (then_one e es) = ap (λ l. type_of e ∷ l) (types-are es)

-- names in scope

pub with-names : (xs names : List TypedName) → with_names xs names ≡ declared_names xs names
with-names [] names = refl
with-names (x ∷ xs) names = with-names xs (x ∷ names)

pub after-one : (s : Statement) (names : List TypedName) → after_one s names ≡ names_after_one s names
after-one (statement at (Var xs values)) names = with-names xs names
after-one (statement at (Assign places values)) names = refl
after-one (statement at (If test block)) names = refl
after-one (statement at (IfElse test block other)) names = refl
after-one (statement at (While test body)) names = refl
after-one (statement at (Repeat body test)) names = refl
after-one (statement at (For x bounds body)) names = refl
after-one (statement at (Do body)) names = refl
after-one (statement at Break) names = refl
after-one (statement at Finish) names = refl
after-one (statement at (Return e)) names = refl
after-one (statement at (Perform e)) names = refl

pub after-all : (ss : Statements) (names : List TypedName) → after_all ss names ≡ names_after ss names
after-all done names = refl
after-all (and_then s ss) names = ap (after_all ss) (after-one s names) ∙ after-all ss (names_after_one s names)

pub in-names : (x : SymId) (of : TypeId) (names : List TypedName) → typing.in_scope x of names ≡ true → InScope x of names
in-names x of [] h = absurd (no h)
in-names x of (y ∷ ys) h = by (nat_eq x.0 y.symbol.0) (λ e. in-names x of ys e) h
  where
    by : (b : Bool) → (typing.in_scope x of ys ≡ true → InScope x of ys) → (if b then same of y.of else typing.in_scope x of ys) ≡ true →
        by_test b (of ≡ y.of) (InScope x of ys)
    by true more e = same-id of y.of e
    by false more e = more e

-- forms

pub integer-number : (f : TypeForm) → typing.integer_form f ≡ true → HasNumber f
integer-number (forms.Integer i) h = tt
integer-number forms.Bool h = absurd (no h)
integer-number forms.Unit h = absurd (no h)
integer-number (forms.Pointer t) h = absurd (no h)
integer-number (forms.Array t n) h = absurd (no h)
integer-number (forms.Function ps r) h = absurd (no h)
integer-number (forms.Struct n p l) h = absurd (no h)

pub pointer-number : (f : TypeForm) → typing.pointer_form f ≡ true → HasNumber f
pointer-number (forms.Integer i) h = absurd (no h)
pointer-number forms.Bool h = absurd (no h)
pointer-number forms.Unit h = absurd (no h)
pointer-number (forms.Pointer t) h = tt
pointer-number (forms.Array t n) h = absurd (no h)
pointer-number (forms.Function ps r) h = absurd (no h)
pointer-number (forms.Struct n p l) h = absurd (no h)

-- values

pub value-by : (types : List TypeForm) (of : TypeId) (f : TypeForm) (x : ℕ) → form_at types of ≡ f →
    is_aggregate (f ∷ []) (record { 0 = 0 }) ≡ false → wrapped (width_by f) x ≡ x → IsValue types of (word x)
value-by types of f x e plain fits =
    (subst (λ g. is_aggregate (g ∷ []) (record { 0 = 0 }) ≡ false) (sym e) plain, subst (λ g. wrapped (width_by g) x ≡ x) (sym e) fits)

pub address-fits : (t : TypeId) (x : ℕ) → x < 2 ^ 64 → wrapped (width_by (forms.Pointer t)) x ≡ x
unfolding wrapped
address-fits t x lt = omega (arith, lt)

pub function-fits : (ps : List TypeId) (r : TypeId) (x : ℕ) → x < 2 ^ 64 → wrapped (width_by (forms.Function ps r)) x ≡ x
unfolding wrapped
function-fits ps r x lt = omega (arith, lt)

-- the word of a number whose low bits are kept with their sign
abbrev pub signed_low : (half c low : ℕ) → ℕ
signed_low half c low = if nat_le half low then low + c else low

pub signed-fits : (half c low x : ℕ) → (half ≤ low → low + c ≡ x) → (low < half → low ≡ x) → signed_low half c low ≡ x
signed-fits half c low x up down = by (nat_le half low) refl
  where
    by : (b : Bool) → nat_le half low ≡ b → (if b then low + c else low) ≡ x
    by true e = up (leb-true half low e)
    by false e = down (leb-false half low e)

-- a word extended with its sign
pub Extended : (half high x : ℕ) → Type 0
Extended half high x = (x < half) ⊎ ((high ≤ x) × (x < 2 ^ 64))

pub extended : (half high x : ℕ) → (nat_lt x half || (nat_le high x && nat_lt x (2 ^ 64))) ≡ true → Extended half high x
unfolding Extended
extended half high x h = by (or_cases (nat_lt x half) (nat_le high x && nat_lt x (2 ^ 64)) h)
  where
    by : (nat_lt x half ≡ true) ⊎ ((nat_le high x && nat_lt x (2 ^ 64)) ≡ true) → (x < half) ⊎ ((high ≤ x) × (x < 2 ^ 64))
    by (inl e) = inl (ltb-true x half e)
    by (inr e) =
        let p = and_parts (nat_le high x) (nat_lt x (2 ^ 64)) e in inr (leb-true high x p.0, ltb-true x (2 ^ 64) p.1)

pub int64-fits : (x : ℕ) → x < 2 ^ 64 → wrapped (width_by (forms.Integer Int64)) x ≡ x
unfolding wrapped
int64-fits x lt = signed-fits (2 ^ 63) 0 (x % 2 ^ 64) x (λ h. omega (arith, lt)) (λ h. omega (arith, lt))

pub number-fits : (i : Integer) (x : ℕ) → typing.is_word_of (forms.Integer i) x ≡ true → wrapped (width_by (forms.Integer i)) x ≡ x
unfolding wrapped Extended
number-fits Int8 x e = by (extended (2 ^ 7) (2 ^ 64 - 2 ^ 7) x e)
  where
    by : Extended (2 ^ 7) (2 ^ 64 - 2 ^ 7) x → signed_low (2 ^ 7) (2 ^ 64 - 2 ^ 8) (x % 2 ^ 8) ≡ x
    by (inl lt) = signed-fits (2 ^ 7) (2 ^ 64 - 2 ^ 8) (x % 2 ^ 8) x (λ h. omega (arith, lt, h)) (λ h. omega (arith, lt))
    by (inr p) = let a = p.0 in let b = p.1 in
        signed-fits (2 ^ 7) (2 ^ 64 - 2 ^ 8) (x % 2 ^ 8) x (λ h. omega (arith, a, b)) (λ h. omega (arith, a, b, h))
number-fits Int16 x e = by (extended (2 ^ 15) (2 ^ 64 - 2 ^ 15) x e)
  where
    by : Extended (2 ^ 15) (2 ^ 64 - 2 ^ 15) x → signed_low (2 ^ 15) (2 ^ 64 - 2 ^ 16) (x % 2 ^ 16) ≡ x
    by (inl lt) = signed-fits (2 ^ 15) (2 ^ 64 - 2 ^ 16) (x % 2 ^ 16) x (λ h. omega (arith, lt, h)) (λ h. omega (arith, lt))
    by (inr p) = let a = p.0 in let b = p.1 in
        signed-fits (2 ^ 15) (2 ^ 64 - 2 ^ 16) (x % 2 ^ 16) x (λ h. omega (arith, a, b)) (λ h. omega (arith, a, b, h))
number-fits Int32 x e = by (extended (2 ^ 31) (2 ^ 64 - 2 ^ 31) x e)
  where
    by : Extended (2 ^ 31) (2 ^ 64 - 2 ^ 31) x → signed_low (2 ^ 31) (2 ^ 64 - 2 ^ 32) (x % 2 ^ 32) ≡ x
    by (inl lt) = signed-fits (2 ^ 31) (2 ^ 64 - 2 ^ 32) (x % 2 ^ 32) x (λ h. omega (arith, lt, h)) (λ h. omega (arith, lt))
    by (inr p) = let a = p.0 in let b = p.1 in
        signed-fits (2 ^ 31) (2 ^ 64 - 2 ^ 32) (x % 2 ^ 32) x (λ h. omega (arith, a, b)) (λ h. omega (arith, a, b, h))
number-fits Int64 x e = int64-fits x (by (extended (2 ^ 63) (2 ^ 64 - 2 ^ 63) x e))
  where
    by : Extended (2 ^ 63) (2 ^ 64 - 2 ^ 63) x → x < 2 ^ 64
    by (inl lt) = omega (arith, lt)
    by (inr p) = p.1
number-fits Uint8 x e = let lt = ltb-true x (2 ^ 8) e in omega (arith, lt)
number-fits Uint16 x e = let lt = ltb-true x (2 ^ 16) e in omega (arith, lt)
number-fits Uint32 x e = let lt = ltb-true x (2 ^ 32) e in omega (arith, lt)
number-fits Uint64 x e = let lt = ltb-true x (2 ^ 64) e in omega (arith, lt)

pub word-value : (types : List TypeForm) (of : TypeId) (x : ℕ) (f : TypeForm) → form_at types of ≡ f → typing.is_word_of f x ≡ true →
    IsValue types of (word x)
word-value types of x (forms.Integer i) e h = value-by types of (forms.Integer i) x e refl (number-fits i x h)
word-value types of x (forms.Pointer t) e h =
    value-by types of (forms.Pointer t) x e refl (address-fits t x (ltb-true x (2 ^ 64) h))
word-value types of x forms.Bool e h = absurd (no h)
word-value types of x forms.Unit e h = absurd (no h)
word-value types of x (forms.Array t n) e h = absurd (no h)
word-value types of x (forms.Function ps r) e h = absurd (no h)
word-value types of x (forms.Struct n p l) e h = absurd (no h)

pub pointer-wide : (types : List TypeForm) (of : TypeId) (f : TypeForm) → form_at types of ≡ f → typing.pointer_form f ≡ true → IsWide types of
pointer-wide types of (forms.Pointer t) e h x lt = value-by types of (forms.Pointer t) x e refl (address-fits t x lt)
pointer-wide types of (forms.Integer i) e h x lt = absurd (no h)
pointer-wide types of forms.Bool e h x lt = absurd (no h)
pointer-wide types of forms.Unit e h x lt = absurd (no h)
pointer-wide types of (forms.Array t n) e h x lt = absurd (no h)
pointer-wide types of (forms.Function ps r) e h x lt = absurd (no h)
pointer-wide types of (forms.Struct n p l) e h x lt = absurd (no h)

-- what points somewhere is a pointer
pub points-pointer : (f : TypeForm) (t : TypeId) → typing.points_in f t ≡ true → typing.pointer_form f ≡ true
points-pointer (forms.Pointer s) t h = refl
points-pointer (forms.Integer i) t h = absurd (no h)
points-pointer forms.Bool t h = absurd (no h)
points-pointer forms.Unit t h = absurd (no h)
points-pointer (forms.Array s n) t h = absurd (no h)
points-pointer (forms.Function ps r) t h = absurd (no h)
points-pointer (forms.Struct n p l) t h = absurd (no h)

pub bool-again : (b : Bool) → wrapped (width_by forms.Bool) (flag b) ≡ flag b
unfolding wrapped
bool-again true = refl
bool-again false = refl

pub nil-value : (types : List TypeForm) (of : TypeId) (f : TypeForm) → form_at types of ≡ f →
    (typing.pointer_form f || typing.function_form f) ≡ true → IsValue types of (word 0)
nil-value types of (forms.Pointer t) e h = value-by types of (forms.Pointer t) 0 e refl (wrapped-zero (forms.Pointer t))
nil-value types of (forms.Function ps r) e h = value-by types of (forms.Function ps r) 0 e refl (wrapped-zero (forms.Function ps r))
nil-value types of (forms.Integer i) e h = absurd (no h)
nil-value types of forms.Bool e h = absurd (no h)
nil-value types of forms.Unit e h = absurd (no h)
nil-value types of (forms.Array t n) e h = absurd (no h)
nil-value types of (forms.Struct n p l) e h = absurd (no h)

pub function-value : (types : List TypeForm) (of : TypeId) (x : ℕ) (f : TypeForm) (o : Option Callable) → x < 2 ^ 64 → form_at types of ≡ f →
    typing.function_type_in f o ≡ true → IsValue types of (word x)
function-value types of x (forms.Function ps r) o lt e h = value-by types of (forms.Function ps r) x e refl (function-fits ps r x lt)
function-value types of x (forms.Pointer t) o lt e h = absurd (no h)
function-value types of x (forms.Integer i) o lt e h = absurd (no h)
function-value types of x forms.Bool o lt e h = absurd (no h)
function-value types of x forms.Unit o lt e h = absurd (no h)
function-value types of x (forms.Array t n) o lt e h = absurd (no h)
function-value types of x (forms.Struct n p l) o lt e h = absurd (no h)

pub position-few : (f : FnId) (fs : List FnId) (n : ℕ) → position_of f fs n ≤ n + length fs
position-few f [] n = omega arith
position-few f (g ∷ gs) n = by (nat_eq f.0 g.0) (position-few f gs (suc n))
  where
    by : (b : Bool) → position_of f gs (suc n) ≤ suc n + length gs → (if b then n else position_of f gs (suc n)) ≤ n + length (g ∷ gs)
    by true h = omega arith
    by false h = omega (arith, h)

-- entries

pub entries-aggregate : (f : TypeForm) (offset : ℕ) (t : TypeId) → typing.has_entry (entries_in f) offset t ≡ true →
    is_aggregate (f ∷ []) (record { 0 = 0 }) ≡ true
entries-aggregate (forms.Struct n p (Some l)) offset t h = refl
entries-aggregate (forms.Struct n p None) offset t h = absurd (no h)
entries-aggregate (forms.Integer i) offset t h = absurd (no h)
entries-aggregate forms.Bool offset t h = absurd (no h)
entries-aggregate forms.Unit offset t h = absurd (no h)
entries-aggregate (forms.Pointer s) offset t h = absurd (no h)
entries-aggregate (forms.Array s n) offset t h = absurd (no h)
entries-aggregate (forms.Function ps r) offset t h = absurd (no h)

pub struct-aggregate : (f : TypeForm) → typing.struct_form f ≡ true → is_aggregate (f ∷ []) (record { 0 = 0 }) ≡ true
struct-aggregate (forms.Struct n p l) h = refl
struct-aggregate (forms.Integer i) h = absurd (no h)
struct-aggregate forms.Bool h = absurd (no h)
struct-aggregate forms.Unit h = absurd (no h)
struct-aggregate (forms.Pointer s) h = absurd (no h)
struct-aggregate (forms.Array s n) h = absurd (no h)
struct-aggregate (forms.Function ps r) h = absurd (no h)

pub callee-form : (f : TypeForm) (ts : List TypeId) (of : TypeId) → typing.calls_in f ts of ≡ true → f ≡ forms.Function ts of
callee-form (forms.Function ps r) ts of h =
    let p = and_parts (are_same ps ts) (same r of) h in
    ap (λ l. forms.Function l r) (same-ids ps ts p.0) ∙ ap (λ t. forms.Function ts t) (same-id r of p.1)
callee-form (forms.Integer i) ts of h = absurd (no h)
callee-form forms.Bool ts of h = absurd (no h)
callee-form forms.Unit ts of h = absurd (no h)
callee-form (forms.Pointer s) ts of h = absurd (no h)
callee-form (forms.Array s n) ts of h = absurd (no h)
callee-form (forms.Struct n p l) ts of h = absurd (no h)

-- what a conversion gives has a number, or is a bool
pub conversion : (n a i b p c d e : Bool) →
    (n && ((a && (i || (b || p))) || ((c && i) || ((d && (p || i)) || (e && i))))) ≡ true → b ≡ false → (i ≡ true) ⊎ (p ≡ true)
conversion n a true b p c d e h f = inl refl
conversion n a false b true c d e h f = inr refl
conversion n a false b false c d e h f =
    absurd (first (or_cases _ _ (and_parts n ((a && (false || (b || false))) || ((c && false) || ((d && (false || false)) || (e &&
    false)))) h).1))
  where
    wrong : b ≡ true → ⊥
    wrong t = no (sym f ∙ t)

    third : ((d && false) ≡ true) ⊎ ((e && false) ≡ true) → ⊥
    third (inl x) = no (and_parts d false x).1
    third (inr x) = no (and_parts e false x).1

    second : ((c && false) ≡ true) ⊎ (((d && false) || (e && false)) ≡ true) → ⊥
    second (inl x) = no (and_parts c false x).1
    second (inr x) = third (or_cases (d && false) (e && false) x)

    bool : (b ≡ true) ⊎ (false ≡ true) → ⊥
    bool (inl x) = wrong x
    bool (inr x) = no x

    first : ((a && (b || false)) ≡ true) ⊎ (((c && false) || ((d && false) || (e && false))) ≡ true) → ⊥
    first (inl x) = bool (or_cases b false (and_parts a (b || false) x).1)
    first (inr x) = second (or_cases (c && false) ((d && false) || (e && false)) x)

pub declared-count : (xs : List TypedName) → 0 + length (declared_in (declares_all xs)) ≡ length xs
declared-count [] = refl
declared-count (x ∷ xs) = let e = declared-count xs in omega (arith, e)

pub outside-let : (b : Bool) → not b ≡ true → b ≡ false
outside-let true h = absurd (no h)
outside-let false h = refl

-- what isn't asked for by its address
abbrev pub Asked : Wanted → Bool → Type 0
Asked the_value b = Unit {0}
Asked the_address b = b ≡ true

pub value-asked : (want : Wanted) → Asked want false → IsValueWanted want
value-asked the_value h = tt
value-asked the_address h = absurd (no h)
