-- The symbols that a typed term declares, as its scopes open and close.
use Rattle.std.proofs.Common.{◌≡◌, ℕ, ◌-◌, Bool, true, false, List, [], ◌∷◌, ◌++◌, refl, ap, sym, ◌∙◌, arith}
use Rattle.std.proofs.lemmas.List.{reverse-append, length-reverse, length-drop, take-append-drop}
use Rattle.std.proofs.lemmas.Grind.{reverse_onto}
use Rattle.std.proofs.Math.Seq.{drop-append_seam}
use Rattle.std.specs.Prelude.{if◌then◌else◌, length, drop, take, reverse, nat_eq}
use Rattle.tl_base.specs.declared.ids.SymId.{SymId}
use Rattle.terra_term.specs.Events.{Event, Closes}
use Rattle.check_model.specs.Expressions.{wrong_in, is_in, first_mark}
use Rattle.check_model.specs.Typing.{TypingState}

-- one more at the end is the first of the reversed
pub last_first : {X : Type 0} → (xs : List X) (x : X) → reverse (xs ++ x ∷ []) ≡ x ∷ reverse xs
last_first xs x = reverse-append xs (x ∷ [])

-- those that stood first are the last of the reversed
pub first_last : {X : Type 0} → (n : ℕ) (xs : List X) → reverse (take n xs) ≡ drop (length (reverse xs) - n) (reverse xs)
first_last n xs =
    let gone = reverse (drop n xs) in
    let kept = reverse (take n xs) in
    let parts : reverse xs ≡ gone ++ kept = ap reverse (sym (take-append-drop n xs)) ∙ reverse-append (take n xs) (drop n xs) in
    let count : length (reverse xs) - n ≡ length gone =
    omega (arith, length-reverse xs, length-reverse (drop n xs), length-drop n xs) in
    sym (ap (λ (k : ℕ). drop k (reverse xs)) count ∙ ap (drop (length gone)) parts ∙ drop-append_seam gone kept)

-- ---- the end of a scope

pub closed : (w : TypingState) (base : ℕ) (declared declared2 : List SymId) (marks marks2 : List ℕ) (n : ℕ) (es : List Event)
    → marks ≡ marks2 ++ n ∷ [] → declared2 ≡ take n declared
    → wrong_in w base (reverse declared2) (reverse marks2) es ≡ wrong_in w base (reverse declared) (reverse marks) (Closes ∷ es)
closed w base declared declared2 marks marks2 n es last cut =
    let own = reverse declared in
    ap (λ (xs : List SymId). wrong_in w base xs (reverse marks2) es) (ap reverse cut ∙ first_last n declared)
    ∙ ap (λ (ms : List ℕ). wrong_in w base (drop (length own - first_mark ms) own) (drop 1 ms) es)
    (sym (ap reverse last ∙ last_first marks2 n))

-- ---- whether a symbol is among them

in_last : (x : SymId) (xs : List SymId) (y : SymId) → is_in x (xs ++ y ∷ []) ≡ is_in x (y ∷ xs)
in_last x [] y = refl
in_last x (z ∷ xs) y =
    ap (λ (b : Bool). if nat_eq x.0 z.0 then true else b) (in_last x xs y) ∙ either (nat_eq x.0 z.0) (nat_eq x.0 y.0) (is_in x xs)
  where
    either : (a b c : Bool) → (if a then true else (if b then true else c)) ≡ (if b then true else (if a then true else c))
    either true true c = refl
    either true false c = refl
    either false true c = refl
    either false false c = refl

-- in either order
pub in_reversed : (x : SymId) (xs : List SymId) → is_in x (reverse xs) ≡ is_in x xs
in_reversed x [] = refl
in_reversed x (y ∷ xs) =
    ap (is_in x) (reverse_onto xs y []) ∙ in_last x (reverse xs) y
    ∙ ap (λ (b : Bool). if nat_eq x.0 y.0 then true else b) (in_reversed x xs)
