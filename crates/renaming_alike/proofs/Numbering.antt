-- Declarations have numbers of their own, and new names for each number one of its own, which is the prefix and digits.
use Rattle.std.proofs.Common.{◌≡◌, ℕ, zero, suc, ◌+◌, ◌<◌, ◌≤◌, ◌^◌, Bool, true, false, cond, List, [], ◌∷◌, length, take, drop, get_or}
use Rattle.std.proofs.Common.{Some, None, refl, sym, ap, ◌∙◌, subst, inl, inr, arith}
use Rattle.std.specs.Prelude.{nat_lt, codes, bytes_eq}
use Rattle.std.specs.List.{list_all}
use Rattle.std.specs.Fmt.{decimal}
use Rattle.std.specs.Str.Parse.{AllDigits}
use Rattle.std.proofs.lemmas.Bool.{and_from, cases_lt}
use Rattle.std.proofs.lemmas.Bool.Decides.{nat_tests}
use Rattle.std.proofs.lemmas.List.{take_at, drop_at, length-replicate, append_cancel_left}
use Rattle.std.proofs.lemmas.Slice.Eq.{bytes_eq-Decides}
use Rattle.std.proofs.lemmas.Fmt.{decimal_injective, decimal_is_IsNumeral}
use Rattle.std.proofs.lemmas.Str.Parse.{digit_at}
use Rattle.tl_tree.specs.Code.{Items}
use Rattle.tl_renaming.specs.Renamed.{is_digit, are_digits, prefix, has_prefix, new_name, is_declaration, declarations_below, number_of}

-- ---- digits

digit : (c : ℕ) → 48 ≤ c → c ≤ 57 → is_digit c ≡ true
digit c low high = grind (arith, nat_tests)

all_digits : (ds : List ℕ) → AllDigits 10 ds → list_all is_digit ds ≡ true
all_digits [] h = refl
all_digits (c ∷ cs) h =
    let r = digit_at (c ∷ cs) 0 h (omega arith) in and_from (is_digit c) (list_all is_digit cs) (digit c r.0 r.1) (all_digits cs h.1)

pub decimal_digits : (k : ℕ) → k < 2 ^ 64 → list_all is_digit (decimal k) ≡ true
decimal_digits k lt = all_digits (decimal k) (decimal_is_IsNumeral k lt).0.1

pub decimal_some : (k : ℕ) → k < 2 ^ 64 → 0 < length (decimal k)
decimal_some k lt = (decimal_is_IsNumeral k lt).0.0

some_test : (n : ℕ) → 0 < n → nat_lt 0 n ≡ true
some_test n h = grind (arith, nat_tests)

-- ---- new names

-- a new name has the prefix
pub new_prefixed : (l k : ℕ) → k < 2 ^ 64 → has_prefix l (new_name l k) ≡ true
new_prefixed l k lt =
    let n = length-replicate l 118 in
    let start = take_at (prefix l) (decimal k) l n in
    let end = drop_at (prefix l) (decimal k) l n in
    and_from (bytes_eq (take l (new_name l k)) (prefix l)) (are_digits (drop l (new_name l k)))
    ((bytes_eq-Decides (take l (new_name l k)) (prefix l)).1 start)
    (ap are_digits end ∙ and_from (nat_lt 0 (length (decimal k))) (list_all is_digit (decimal k)) (some_test _ (decimal_some k lt)) (decimal_digits k lt))

pub new_injective : (l k n : ℕ) → k < 2 ^ 64 → n < 2 ^ 64 → new_name l k ≡ new_name l n → k ≡ n
new_injective l k n p q e = decimal_injective k n p q (append_cancel_left (prefix l) (decimal k) (decimal n) e)

-- and is no `self`
pub new_is_not_self : (l k : ℕ) → 0 < l → new_name l k ≡ codes "self" → ⊥
new_is_not_self zero k some e = absurd (omega arith)
new_is_not_self (suc l) k some e = let c : ◌≡◌ {A = ℕ} 118 115 = ap (λ (x : List ℕ). get_or x 0 0) e in absurd (omega arith)

-- ---- the numbers of declarations

below_step : (items : Items) (k n : ℕ) → k ≤ n → declarations_below items k ≤ declarations_below items n
below_step items k zero le = let e : k ≡ 0 = omega arith in subst (λ m. declarations_below items m ≤ declarations_below items 0) (sym e) (omega arith)
below_step items k (suc n) le = elim (cases_lt n k) as (λ _. declarations_below items k ≤ declarations_below items (suc n)) [
  | inl lt ↦ let e : suc n ≡ k = omega arith in subst (λ m. declarations_below items m ≤ declarations_below items (suc n)) e (omega arith)
  | inr ge ↦ let h = below_step items k n ge in omega (arith, h)
]

below_more : (items : Items) (k n : ℕ) → is_declaration items k ≡ true → k < n → declarations_below items k < declarations_below items n
below_more items k n is lt =
    let one : declarations_below items (suc k) ≡ declarations_below items k + 1 = ap (λ (b : Bool). declarations_below items k + cond b 1 0) is in
    omega (arith, one, below_step items (suc k) n lt)

pub record Numbered (items : Items) (d k : ℕ) : Type 0 where
  pub is : is_declaration items d ≡ true
  pub number : k ≡ declarations_below items d + 1

pub numbered : (items : Items) (d k : ℕ) → number_of items d ≡ Some k → Numbered items d k
numbered items d k e = go (is_declaration items d) refl e
  where
    go : (b : Bool) → is_declaration items d ≡ b → cond b (Some (declarations_below items d + 1)) None ≡ Some k → Numbered items d k
    go true is h = record { is = is; number = cc }
    go false is h = absurd cc

pub number_is : (items : Items) (d : ℕ) → is_declaration items d ≡ true → number_of items d ≡ Some (declarations_below items d + 1)
number_is items d is = ap (λ (b : Bool). cond b (Some (declarations_below items d + 1)) None) is

pub no_number : (items : Items) (d : ℕ) → is_declaration items d ≡ false → number_of items d ≡ None
no_number items d is = ap (λ (b : Bool). cond b (Some (declarations_below items d + 1)) None) is

-- two declarations of one number are one
pub one_number : (items : Items) (d e k : ℕ) → number_of items d ≡ Some k → number_of items e ≡ Some k → d ≡ e
one_number items d e k p q = elim (cases_lt d e) as (λ _. d ≡ e) [
  | inl lt ↦ let m = below_more items d e a.is lt in absurd (omega (arith, m, a.number, b.number))
  | inr ge ↦ elim (cases_lt e d) as (λ _. d ≡ e) [
    | inl lt ↦ let m = below_more items e d b.is lt in absurd (omega (arith, m, a.number, b.number))
    | inr le ↦ omega arith
  ]
]
  where
    a : Numbered items d k
    a = numbered items d k p

    b : Numbered items e k
    b = numbered items e k q
