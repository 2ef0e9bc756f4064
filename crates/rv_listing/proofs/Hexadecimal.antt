-- The number of eight hexadecimal digits.
use Rattle.std.proofs.Common.{◌≡◌, ◌∙◌, ℕ, ◌+◌, ◌-◌, ◌*◌, ◌/◌, ◌%◌, ◌<◌, ◌≤◌, ◌^◌, true, false, nat_lt, List, [], ◌∷◌, refl, ap, arith, ⊎_elim}
use Rattle.std.specs.Int.{is_in_range}
use Rattle.std.proofs.lemmas.Bool.{cases_lt, lt-ltb, le-ltb}
use Rattle.rv_listing.specs.Texts.{hex_digit, hex8}
use Rattle.rv_listing.specs.Reading.{hex_byte, hex_all}

-- what stands before the digits counts nothing
pub before_digits : (ds : List ℕ) → hex_all 0 (32 ∷ 48 ∷ 120 ∷ ds) ≡ hex_all 0 ds
unfolding hex_byte
before_digits ds = refl

digit_read : (n d : ℕ) → d < 16 → hex_byte n (hex_digit d) ≡ n % 2 ^ 28 * 16 + d
unfolding hex_byte
digit_read n d small = ⊎_elim
    (λ (h : d < 10).
    let low : nat_lt d 10 ≡ true = lt-ltb d 10 h in
    let inside : is_in_range 48 57 (48 + d) ≡ true = grind arith in
    let same : 48 + d - 48 ≡ d = omega arith in
    simp (low, inside, same))
    (λ (h : 10 ≤ d).
    let high : nat_lt d 10 ≡ false = le-ltb d 10 h in
    let outside : is_in_range 48 57 (87 + d) ≡ false = grind arith in
    let inside : is_in_range 97 102 (87 + d) ≡ true = grind arith in
    let same : 87 + d - 97 + 10 ≡ d = omega arith in
    simp (high, outside, inside, same))
    (cases_lt d 10)

digit_next : (n x : ℕ) (rest : List ℕ) → n ≡ x / 16 → x < 2 ^ 32 → hex_all n (hex_digit (x % 16) ∷ rest) ≡ hex_all x rest
digit_next n x rest is small =
    let value : n % 2 ^ 28 * 16 + x % 16 ≡ x = omega arith in
    ap (λ (m : ℕ). hex_all m rest) (digit_read n (x % 16) (omega arith) ∙ value)

pub digits_back : (w : ℕ) → w < 2 ^ 32 → hex_all 0 (hex8 w) ≡ w
unfolding hex8
digits_back w small =
    let r1 : List ℕ = hex_digit (w % 16) ∷ [] in
    let r2 : List ℕ = hex_digit (w / 2 ^ 4 % 16) ∷ r1 in
    let r3 : List ℕ = hex_digit (w / 2 ^ 8 % 16) ∷ r2 in
    let r4 : List ℕ = hex_digit (w / 2 ^ 12 % 16) ∷ r3 in
    let r5 : List ℕ = hex_digit (w / 2 ^ 16 % 16) ∷ r4 in
    let r6 : List ℕ = hex_digit (w / 2 ^ 20 % 16) ∷ r5 in
    let r7 : List ℕ = hex_digit (w / 2 ^ 24 % 16) ∷ r6 in
    digit_next 0 (w / 2 ^ 28) r7 (omega arith) (omega arith)
    ∙ (digit_next (w / 2 ^ 28) (w / 2 ^ 24) r6 (omega arith) (omega arith)
    ∙ (digit_next (w / 2 ^ 24) (w / 2 ^ 20) r5 (omega arith) (omega arith)
    ∙ (digit_next (w / 2 ^ 20) (w / 2 ^ 16) r4 (omega arith) (omega arith)
    ∙ (digit_next (w / 2 ^ 16) (w / 2 ^ 12) r3 (omega arith) (omega arith)
    ∙ (digit_next (w / 2 ^ 12) (w / 2 ^ 8) r2 (omega arith) (omega arith)
    ∙ (digit_next (w / 2 ^ 8) (w / 2 ^ 4) r1 (omega arith) (omega arith)
    ∙ digit_next (w / 2 ^ 4) w [] (omega arith) (omega arith)))))))
