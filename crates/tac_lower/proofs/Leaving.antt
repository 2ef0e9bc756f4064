-- Declarations come before what was in scope, which is there again when they are left.
use Rattle.std.proofs.Common.{◌≡◌, refl, sym, ap, ◌∙◌, ℕ, suc, ◌+◌, ◌-◌, List, [], ◌∷◌, ◌++◌, Option, Some, None, length, drop, arith}
use Rattle.std.proofs.Common.{append_assoc}
use Rattle.tl_base.specs.declared.place.Place.{Place}
use Rattle.terra_types.specs.declared.types.TypeForm.{TypeForm}
use Rattle.terra_term.specs.declared.lists.TypedName.{TypedName}
use Rattle.terra_term.specs.TypedTerms.{Statement, statement, Var, Assign, If, IfElse, While, Repeat, For, Do, Break, Finish, Return}
use Rattle.terra_term.specs.TypedTerms.{Perform, Statements, done, and_then}
use Rattle.terra_meaning.specs.Frames.{Home, by_value, in_frame, home_at}
use Rattle.terra_meaning.specs.Meaning.{in_list, in_statement}
use Rattle.tac_lower.specs.Pieces.{Around, Bound, Holders, Result, Used, declare, declare_all, declare_at, first_of, rest}
use Rattle.tac_lower.specs.Lowering.{all, one, pieces}

-- some come before the others
abbrev pub Before : Holders → Holders → Type 0
Before outer all = (inner : Holders) × (all ≡ inner ++ outer)

one-before : (types : List TypeForm) (at : Place) (x : TypedName) (v : Option Result) (home : Home) (scope : Holders) (u : Used)
    → (b : Bound) × ((declare_at types at x v home scope u).result ≡ b ∷ scope)
one-before types at x None by_value scope u = (_, refl)
one-before types at x (Some v) by_value scope u = (_, refl)
one-before types at x None (in_frame offset) scope u = (_, refl)
one-before types at x (Some v) (in_frame offset) scope u = (_, refl)

pub declared-before : (c : Around) (at : Place) (x : TypedName) (v : Option Result) (k : ℕ) (scope : Holders) (u : Used)
    → Before scope (declare c at x v k scope u).result
declared-before c at x v k scope u =
    let one = one-before c.types at x v (home_at c.homes k) scope u in (one.0 ∷ [], one.1)

pub before-both : (outer middle all : Holders) → Before outer middle → Before middle all → Before outer all
before-both outer middle all first second =
    (second.0 ++ first.0, second.1 ∙ ap (λ (h : Holders). second.0 ++ h) first.1 ∙ sym (append_assoc second.0 first.0 outer))

pub all-declared-before : (c : Around) (at : Place) (xs : List TypedName) (vs : List Result) (k : ℕ) (scope : Holders) (u : Used)
    → Before scope (declare_all c at xs vs k scope u).result
all-declared-before c at [] vs k scope u = ([], refl)
all-declared-before c at (x ∷ xs) vs k scope u =
    let p = declare c at x (first_of vs) k scope u in
    before-both scope p.result _ (declared-before c at x (first_of vs) k scope u) (all-declared-before c at xs (rest vs) (suc k) p.result p.used)

statement-before : (c : Around) (s : Statement) (from : ℕ) (scope : Holders) (u : Used) → Before scope (one c s from scope u).result
statement-before c (statement at (Var names values)) from scope u =
    let p = pieces c values from scope u in all-declared-before c at names p.result (from + in_list values) scope p.used
statement-before c (statement at (Assign places values)) from scope u = ([], refl)
statement-before c (statement at (If test block)) from scope u = ([], refl)
statement-before c (statement at (IfElse test block other)) from scope u = ([], refl)
statement-before c (statement at (While test body)) from scope u = ([], refl)
statement-before c (statement at (Repeat body test)) from scope u = ([], refl)
statement-before c (statement at (For x bounds body)) from scope u = ([], refl)
statement-before c (statement at (Do body)) from scope u = ([], refl)
statement-before c (statement at Break) from scope u = ([], refl)
statement-before c (statement at Finish) from scope u = ([], refl)
statement-before c (statement at (Return e)) from scope u = ([], refl)
statement-before c (statement at (Perform e)) from scope u = ([], refl)

pub block-before : (c : Around) (ss : Statements) (from : ℕ) (scope : Holders) (u : Used) → Before scope (all c ss from scope u).result
block-before c done from scope u = ([], refl)
block-before c (and_then s ss) from scope u =
    let p = one c s from scope u in
    before-both scope p.result _ (statement-before c s from scope u) (block-before c ss (from + in_statement s) p.result p.used)

drop-front : {A : Type 0} (xs ys : List A) → drop (length xs) (xs ++ ys) ≡ ys
drop-front [] ys = refl
drop-front (x ∷ xs) ys = drop-front xs ys

length-both : {A : Type 0} (xs ys : List A) → length (xs ++ ys) ≡ length xs + length ys
length-both [] ys = omega arith
length-both (x ∷ xs) ys = let more : length (xs ++ ys) ≡ length xs + length ys = length-both xs ys in omega (arith, more)

-- of all in scope only those that were there stay
pub scope-left : (outer all : Holders) (count : ℕ) → Before outer all → count ≡ length outer → drop (length all - count) all ≡ outer
scope-left outer all count before many =
    let inner = before.0 in
    let front : length (inner ++ outer) - length outer ≡ length inner = omega (arith, length-both inner outer) in
    ap (λ (h : Holders). drop (length h - count) h) before.1 ∙ ap (λ (k : ℕ). drop (length (inner ++ outer) - k) (inner ++ outer)) many
    ∙ ap (λ (k : ℕ). drop k (inner ++ outer)) front ∙ drop-front inner outer
