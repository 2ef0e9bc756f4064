-- Names that end with a zero byte.
use Rattle.std.proofs.Common.{◌≡◌, ℕ, zero, suc, ◌≤◌, Bool, true, false, cond, eqb, List, [], ◌∷◌, ◌++◌, length, take, refl, ap, ◌∙◌, arith}
use Rattle.std.proofs.Common.{◌⊎◌, min}
use Rattle.std.proofs.lemmas.List.{length-take, take-take}
use Rattle.std.proofs.lemmas.Bool.Decides.{nat_tests}
use Rattle.elf_image.specs.Exports.{before_zero, is_name_at}

cons_not_nil : (b : ℕ) (xs : List ℕ) → [] ≡ b ∷ xs → ⊥
cons_not_nil b xs e = cc

tail_is : (a b : ℕ) (xs ys : List ℕ) → a ∷ xs ≡ b ∷ ys → xs ≡ ys
tail_is a b xs ys e = cc

-- a front's bytes before a zero byte
pub before_zero-take : (m : ℕ) (xs : List ℕ) → before_zero (take m xs) ≡ take m (before_zero xs)
before_zero-take zero xs = refl
before_zero-take (suc m) [] = refl
before_zero-take (suc m) (b ∷ xs) =
    elim (eqb b 0) as (λ v. cond v [] (b ∷ before_zero (take m xs)) ≡ take (suc m) (cond v [] (b ∷ before_zero xs))) [
      | true ↦ refl
      | false ↦ ap (λ (ys : List ℕ). b ∷ ys) (before_zero-take m xs)
    ]

-- they are a front
pub take-before_zero : (xs : List ℕ) → take (length (before_zero xs)) xs ≡ before_zero xs
take-before_zero [] = refl
take-before_zero (b ∷ xs) =
    elim (eqb b 0) as (λ v. take (length (cond v [] (b ∷ before_zero xs))) (b ∷ xs) ≡ cond v [] (b ∷ before_zero xs)) [
      | true ↦ refl
      | false ↦ ap (λ (ys : List ℕ). b ∷ ys) (take-before_zero xs)
    ]

pub length-before_zero : (xs : List ℕ) → length (before_zero xs) ≤ length xs
length-before_zero [] = omega arith
length-before_zero (b ∷ xs) =
    elim (eqb b 0) as (λ v. length (cond v [] (b ∷ before_zero xs)) ≤ length (b ∷ xs)) [
      | true ↦ omega arith
      | false ↦ omega (arith, length-before_zero xs)
    ]

-- a name and a zero byte
pub before_zero-append : (xs rest : List ℕ) → before_zero xs ≡ xs → before_zero (xs ++ 0 ∷ rest) ≡ xs
before_zero-append [] rest e = refl
before_zero-append (b ∷ xs) rest e =
    let P : Bool → Type 0 = λ v. cond v [] (b ∷ before_zero xs) ≡ b ∷ xs → cond v [] (b ∷ before_zero (xs ++ 0 ∷ rest)) ≡ b ∷ xs in
    let f : P (eqb b 0) = elim (eqb b 0) as P [
      | true ↦ λ (h : [] ≡ b ∷ xs). absurd (cons_not_nil b xs h)
      | false ↦ λ (h : b ∷ before_zero xs ≡ b ∷ xs). ap (λ (ys : List ℕ). b ∷ ys) (before_zero-append xs rest (tail_is b b (before_zero xs) xs h))
    ] in
    f e

-- ---- what a look at no more than 256 bytes tells

pub name_bad : (names : List ℕ) (k n : ℕ) → k ≡ min (length names) 256 → n ≡ length (before_zero (take k names)) → (n ≡ 0) ⊎ ((n ≡ 0 → ⊥) × (n ≡ length (take k names))) → is_name_at names ≡ false
name_bad names k n e1 e2 h =
    let e3 : n ≡ min k (length (before_zero names)) = e2 ∙ ap length (before_zero-take k names) ∙ length-take k (before_zero names) in
    let e4 = length-take k names in
    let e5 = length-before_zero names in
    grind (arith, nat_tests)

pub name_good : (names : List ℕ) (k n : ℕ) → k ≡ min (length names) 256 → n ≡ length (before_zero (take k names)) → (n ≡ 0 → ⊥) → (n ≡ length (take k names) → ⊥) → (is_name_at names ≡ true) × (take n (take k names) ≡ before_zero names)
name_good names k n e1 e2 h1 h2 =
    let e3 : n ≡ min k (length (before_zero names)) = e2 ∙ ap length (before_zero-take k names) ∙ length-take k (before_zero names) in
    let e4 = length-take k names in
    let e5 = length-before_zero names in
    let e6 : n ≡ length (before_zero names) = omega arith in
    let e7 : n ≤ k = omega arith in
    (grind (arith, nat_tests), take-take n k names e7 ∙ ap (λ (i : ℕ). take i names) e6 ∙ take-before_zero names)
