-- Classes of tokens by lists of kinds: those that share none, and those that lie in one another.
use Rattle.std.proofs.Common.{◌≡◌, ℕ, Bool, true, false, not, cond, eqb, List, [], ◌∷◌, refl, subst, arith, inl, inr}
use Rattle.std.proofs.Common.{◌⊎◌}
use Rattle.std.specs.Prelude.{◌||◌, ◌&&◌}
use Rattle.tl_tree.specs.Tokens.{Token}
use Rattle.tl_tree.specs.declared.symbol.Symbol.{Symbol}
use Rattle.tl_tree.specs.Symbols.{number_of, has, is_bad}
use Rattle.tl_tree.specs.Tokens.{among}
use Rattle.tl_tree.specs.Grammar.{is_of}

abbrev pub disjoint : List Symbol → List Symbol → Bool
disjoint [] ys = true
disjoint (x ∷ xs) ys = not (has ys (number_of x)) && disjoint xs ys

abbrev pub subset : List Symbol → List Symbol → Bool
subset [] ys = true
subset (x ∷ xs) ys = has ys (number_of x) && subset xs ys

or_true : (a b : Bool) → (a || b) ≡ true → (a ≡ true) ⊎ (b ≡ true)
or_true true b e = inl refl
or_true false b e = inr e

and_true : (a b : Bool) → (a && b) ≡ true → (a ≡ true) × (b ≡ true)
and_true true b e = (refl, e)
and_true false b e = absurd cc

not_true : (a : Bool) → not a ≡ true → a ≡ false
not_true true e = absurd cc
not_true false e = refl

eqb_same : (m n : ℕ) → eqb m n ≡ true → m ≡ n
eqb_same m n e = grind arith

has_apart : (xs ys : List Symbol) → disjoint xs ys ≡ true → (n : ℕ) → has xs n ≡ true → has ys n ≡ false
has_apart [] ys d n h = absurd cc
has_apart (x ∷ xs) ys d n h =
    let p = and_true (not (has ys (number_of x))) (disjoint xs ys) d in
    elim (or_true (eqb (number_of x) n) (has xs n) h) [
      | inl e ↦ subst (λ (k : ℕ). has ys k ≡ false) (eqb_same (number_of x) n e) (not_true (has ys (number_of x)) p.0)
      | inr e ↦ has_apart xs ys p.1 n e
    ]

has_within : (xs ys : List Symbol) → subset xs ys ≡ true → (n : ℕ) → has xs n ≡ true → has ys n ≡ true
has_within [] ys d n h = absurd cc
has_within (x ∷ xs) ys d n h =
    let p = and_true (has ys (number_of x)) (subset xs ys) d in
    elim (or_true (eqb (number_of x) n) (has xs n) h) [
      | inl e ↦ subst (λ (k : ℕ). has ys k ≡ true) (eqb_same (number_of x) n e) p.0
      | inr e ↦ has_within xs ys p.1 n e
    ]

is_of_false : (bad b : Bool) → b ≡ false → cond bad false b ≡ false
is_of_false true b e = refl
is_of_false false b e = e

and_false : (a b : Bool) → a ≡ false → (a && b) ≡ false
and_false true b e = absurd cc
and_false false b e = refl

pub apart_from : (xs ys : List Symbol) → disjoint xs ys ≡ true → (t : Token) → among xs t ≡ true
    → is_of (among ys) t ≡ false
apart_from xs ys d t h = is_of_false (is_bad t.symbol) (among ys t) (has_apart xs ys d (number_of t.symbol) h)

-- the same for a class that asks for more
pub apart_from_and : (xs ys : List Symbol) (more : Token → Bool) → disjoint xs ys ≡ true → (t : Token)
    → among xs t ≡ true → is_of (λ u. among ys u && more u) t ≡ false
apart_from_and xs ys more d t h =
    is_of_false (is_bad t.symbol) (among ys t && more t)
    (and_false (among ys t) (more t) (has_apart xs ys d (number_of t.symbol) h))

pub within : (xs ys : List Symbol) → subset xs ys ≡ true → (t : Token) → among xs t ≡ true → among ys t ≡ true
within xs ys d t h = has_within xs ys d (number_of t.symbol) h

and_of_false : (bad b more : Bool) → cond bad false b ≡ false → cond bad false (b && more) ≡ false
and_of_false true b more e = refl
and_of_false false b more e = and_false b more e

-- a class that asks for more has no token that the class has not
pub apart_and : (xs : List Symbol) (class more : Token → Bool)
    → ((t : Token) → among xs t ≡ true → is_of class t ≡ false) → (t : Token) → among xs t ≡ true
    → is_of (λ u. class u && more u) t ≡ false
apart_and xs class more far t h = and_of_false (is_bad t.symbol) (class t) (more t) (far t h)

or_of_false : (bad b c : Bool) → cond bad false b ≡ false → cond bad false c ≡ false → cond bad false (b || c) ≡ false
or_of_false true b c e f = refl
or_of_false false true c e f = absurd cc
or_of_false false false c e f = f

-- a class that is one of two
pub apart_or : (xs : List Symbol) (class other : Token → Bool)
    → ((t : Token) → among xs t ≡ true → is_of class t ≡ false)
    → ((t : Token) → among xs t ≡ true → is_of other t ≡ false) → (t : Token) → among xs t ≡ true
    → is_of (λ u. class u || other u) t ≡ false
apart_or xs class other far also t h = or_of_false (is_bad t.symbol) (class t) (other t) (far t h) (also t h)

-- the class of no token
pub apart_none : (xs : List Symbol) (t : Token) → among xs t ≡ true → is_of (λ u. false) t ≡ false
apart_none xs t h = is_of_false (is_bad t.symbol) false refl
