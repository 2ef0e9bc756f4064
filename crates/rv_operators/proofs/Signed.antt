-- What the machine's shifts, quotients and remainders with a sign give, as words of 64 bits.
use Rattle.std.proofs.Common.{◌≡◌, ◌≢◌, ℕ, zero, suc, ◌-◌, ◌/◌, ◌%◌, ◌^◌, ◌<◌, ◌≤◌, Bool, true, false, not, pos, negsuc, ℤ, refl, sym, ap}
use Rattle.std.proofs.Common.{◌∙◌, ⊎_elim, arith}
use Rattle.std.specs.Prelude.{if◌then◌else◌, int_div, int_rem}
use Rattle.std.specs.Int.{w64, cast_signed, cast_unsigned, int_shr}
use Rattle.std.specs.Int.Signed.{quot_z, rem_z}
use Rattle.std.proofs.lemmas.Bool.{cases_lt, ne_eqb, le-leb, lt-leb}
use Rattle.std.proofs.lemmas.Int.{to_z_pos, of_z-to_z}
use Rattle.std.proofs.Math.Nat.{div-le_self, mod-le}
use lib.IntN.{neg_ℤ}
use mir.Facts.{to_z-neg}
use Rattle.terra_words.specs.Words.{is_negative}
use Rattle.rv_machine.specs.Word.{low, signed, word}
use Rattle.rv_machine.specs.Arithmetic.{shifted_signed, quotient_signed, remainder_signed}
use Rattle.rv_operators.proofs.Values.{low-small}

pub below-zero : (n : ℕ) → 2 ^ 63 ≤ n → n < 2 ^ 64 → cast_signed w64 n ≡ negsuc (2 ^ 64 - suc n)
below-zero n a l =
    let e : n ≡ 2 ^ 64 - suc (2 ^ 64 - suc n) = omega arith in
    ap (λ m. cast_signed w64 m) e ∙ to_z-neg w64 (2 ^ 64 - suc n) (omega arith)

is-below : (n : ℕ) → 2 ^ 63 ≤ n → is_negative n ≡ true
is-below n a = le-leb (2 ^ 63) n a

is-above : (n : ℕ) → n < 2 ^ 63 → is_negative n ≡ false
is-above n a = lt-leb (2 ^ 63) n a

-- a shift to the right copies the sign
pub shifted-is : (x k : ℕ) → x < 2 ^ 64 → shifted_signed x k ≡ (if is_negative x then 2 ^ 64 - 1 - (2 ^ 64 - 1 - x) / 2 ^ k else x / 2 ^ k)
unfolding shifted_signed
shifted-is x k h =
    ⊎_elim
    (λ a. ap (λ z. word (int_shr z k)) (to_z_pos w64 x a) ∙ sym (ap (λ b. if b then 2 ^ 64 - 1 - (2 ^ 64 - 1 - x) / 2 ^ k else x / 2 ^ k) (is-above x a)))
    (λ a.
    let e : 2 ^ 64 - suc x ≡ 2 ^ 64 - 1 - x = omega arith in
    let f : 2 ^ 64 - suc ((2 ^ 64 - 1 - x) / 2 ^ k) ≡ 2 ^ 64 - 1 - (2 ^ 64 - 1 - x) / 2 ^ k = omega arith in
    ap (λ z. word (int_shr z k)) (below-zero x a h)
    ∙ (ap (λ m. 2 ^ 64 - suc (m / 2 ^ k)) e ∙ (f ∙ sym (ap (λ b. if b then 2 ^ 64 - 1 - (2 ^ 64 - 1 - x) / 2 ^ k else x / 2 ^ k) (is-below x a)))))
    (cases_lt x (2 ^ 63))

-- the word of a number that isn't above zero
opposite-word : (q : ℕ) → q < 2 ^ 64 → cast_unsigned w64 (neg_ℤ (pos q)) ≡ low (2 ^ 64 - q)
unfolding low
opposite-word zero h = refl
opposite-word (suc n) h = let e : 2 ^ 64 - suc n ≡ (2 ^ 64 - suc n) % 2 ^ 64 = omega arith in e

low-below : (n : ℕ) → low n < 2 ^ 64
unfolding low
low-below n = omega arith

-- a word that is read as a number and written again
again : (z : ℤ) (u : ℕ) → cast_unsigned w64 z ≡ u → u < 2 ^ 64 → word (cast_signed w64 (cast_unsigned w64 z)) ≡ u
again z u e h = ap (λ n. word (cast_signed w64 n)) e ∙ of_z-to_z w64 u h

abbrev differ : Bool → Bool → Bool
differ true b = not b
differ false b = b

abbrev magnitude_of : Bool → ℕ → ℕ
magnitude_of negative x = if negative then 2 ^ 64 - x else x

-- the quotient and the remainder of words, by whether each is below zero
abbrev quotient_by : Bool → Bool → ℕ → ℕ → ℕ
quotient_by a b x y =
    let q = magnitude_of a x / magnitude_of b y in
    if differ a b then 2 ^ 64 - q else q

abbrev remainder_by : Bool → Bool → ℕ → ℕ → ℕ
remainder_by a b x y =
    let r = magnitude_of a x % magnitude_of b y in
    if a then 2 ^ 64 - r else r

abbrev pub quotient_of : ℕ → ℕ → ℕ
quotient_of x y = quotient_by (is_negative x) (is_negative y) x y

abbrev pub remainder_of : ℕ → ℕ → ℕ
remainder_of x y = remainder_by (is_negative x) (is_negative y) x y

-- by the signs of two words
by-signs : (f : Bool → Bool → ℕ) (x y v : ℕ) →
    (x < 2 ^ 63 → y < 2 ^ 63 → v ≡ low (f false false)) → (x < 2 ^ 63 → 2 ^ 63 ≤ y → v ≡ low (f false true)) →
    (2 ^ 63 ≤ x → y < 2 ^ 63 → v ≡ low (f true false)) → (2 ^ 63 ≤ x → 2 ^ 63 ≤ y → v ≡ low (f true true)) →
    v ≡ low (f (is_negative x) (is_negative y))
by-signs f x y v pp pn np nn =
    ⊎_elim
    (λ a. ⊎_elim (λ b. pp a b ∙ to a b false false (is-above x a) (is-above y b)) (λ b. pn a b ∙ to a b false true (is-above x a) (is-below y b)) (cases_lt y (2 ^ 63)))
    (λ a. ⊎_elim (λ b. np a b ∙ to a b true false (is-below x a) (is-above y b)) (λ b. nn a b ∙ to a b true true (is-below x a) (is-below y b)) (cases_lt y (2 ^ 63)))
    (cases_lt x (2 ^ 63))
  where
    to : {A B : Type 0} (a : A) (b : B) (p q : Bool) → is_negative x ≡ p → is_negative y ≡ q → low (f p q) ≡ low (f (is_negative x) (is_negative y))
    to a b p q e g = ap (λ n. low (f n q)) (sym e) ∙ ap (λ n. low (f (is_negative x) n)) (sym g)

below-quotient : (x y : ℕ) → x ≤ 2 ^ 63 → x / y < 2 ^ 64
below-quotient x y h = omega (arith, div-le_self x y)

-- the number under a word that is below zero
under : (n : ℕ) → n < 2 ^ 64 → suc (2 ^ 64 - suc n) ≡ 2 ^ 64 - n
under n h = omega arith

-- the quotient's number, and its word
divided-word : (x y : ℕ) (a b : ℤ) (u : ℕ) → cast_signed w64 x ≡ a → cast_signed w64 y ≡ b → y ≢ 0 → cast_unsigned w64 (int_div a b) ≡ u → u < 2 ^ 64 → quotient_signed x y ≡ u
unfolding quotient_signed
divided-word x y a b u e g n c h =
    ap (λ t. if t then 2 ^ 64 - 1 else word (cast_signed w64 (cast_unsigned w64 (int_div (signed x) (signed y))))) (ne_eqb y 0 n)
    ∙ (ap (λ z. word (cast_signed w64 (cast_unsigned w64 (int_div z (signed y))))) e
    ∙ (ap (λ z. word (cast_signed w64 (cast_unsigned w64 (int_div a z)))) g ∙ again (int_div a b) u c h))

pub quotient-is-signed : (x y : ℕ) → x < 2 ^ 64 → y < 2 ^ 64 → y ≢ 0 → quotient_signed x y ≡ low (quotient_of x y)
quotient-is-signed x y h k n =
    by-signs (λ a b. quotient_by a b x y) x y (quotient_signed x y)
    (λ a b.
    let small : x / y < 2 ^ 64 = below-quotient x y (omega arith) in
    divided-word x y (pos x) (pos y) (x / y) (to_z_pos w64 x a) (to_z_pos w64 y b) n refl small ∙ sym (low-small (x / y) small))
    (λ a b.
    let small : x / suc (2 ^ 64 - suc y) < 2 ^ 64 = below-quotient x (suc (2 ^ 64 - suc y)) (omega arith) in
    divided-word x y (pos x) (negsuc (2 ^ 64 - suc y)) (low (2 ^ 64 - x / suc (2 ^ 64 - suc y))) (to_z_pos w64 x a) (below-zero y b k) n
    (opposite-word (x / suc (2 ^ 64 - suc y)) small) (low-below (2 ^ 64 - x / suc (2 ^ 64 - suc y)))
    ∙ ap (λ m. low (2 ^ 64 - x / m)) (under y k))
    (λ a b.
    let small : suc (2 ^ 64 - suc x) / y < 2 ^ 64 = below-quotient (suc (2 ^ 64 - suc x)) y (omega arith) in
    divided-word x y (negsuc (2 ^ 64 - suc x)) (pos y) (low (2 ^ 64 - suc (2 ^ 64 - suc x) / y)) (below-zero x a h) (to_z_pos w64 y b) n
    (opposite-word (suc (2 ^ 64 - suc x) / y) small) (low-below (2 ^ 64 - suc (2 ^ 64 - suc x) / y))
    ∙ ap (λ m. low (2 ^ 64 - m / y)) (under x h))
    (λ a b.
    let small : suc (2 ^ 64 - suc x) / suc (2 ^ 64 - suc y) < 2 ^ 64 = below-quotient (suc (2 ^ 64 - suc x)) (suc (2 ^ 64 - suc y)) (omega arith) in
    divided-word x y (negsuc (2 ^ 64 - suc x)) (negsuc (2 ^ 64 - suc y)) (suc (2 ^ 64 - suc x) / suc (2 ^ 64 - suc y)) (below-zero x a h) (below-zero y b k) n refl small
    ∙ (sym (low-small (suc (2 ^ 64 - suc x) / suc (2 ^ 64 - suc y)) small)
    ∙ (ap (λ m. low (m / suc (2 ^ 64 - suc y))) (under x h) ∙ ap (λ m. low ((2 ^ 64 - x) / m)) (under y k))))

left-word : (x y : ℕ) (a b : ℤ) (u : ℕ) → cast_signed w64 x ≡ a → cast_signed w64 y ≡ b → y ≢ 0 → cast_unsigned w64 (int_rem a b) ≡ u → remainder_signed x y ≡ u
unfolding remainder_signed
left-word x y a b u e g n c =
    ap (λ t. if t then x else word (int_rem (signed x) (signed y))) (ne_eqb y 0 n)
    ∙ (ap (λ z. word (int_rem z (signed y))) e ∙ (ap (λ z. word (int_rem a z)) g ∙ c))

below-remainder : (x y : ℕ) → x ≤ 2 ^ 63 → x % y < 2 ^ 64
below-remainder x y h = omega (arith, mod-le x y)

pub remainder-is-signed : (x y : ℕ) → x < 2 ^ 64 → y < 2 ^ 64 → y ≢ 0 → remainder_signed x y ≡ low (remainder_of x y)
remainder-is-signed x y h k n =
    by-signs (λ a b. remainder_by a b x y) x y (remainder_signed x y)
    (λ a b.
    left-word x y (pos x) (pos y) (x % y) (to_z_pos w64 x a) (to_z_pos w64 y b) n refl ∙ sym (low-small (x % y) (below-remainder x y (omega arith))))
    (λ a b.
    left-word x y (pos x) (negsuc (2 ^ 64 - suc y)) (x % suc (2 ^ 64 - suc y)) (to_z_pos w64 x a) (below-zero y b k) n refl
    ∙ (sym (low-small (x % suc (2 ^ 64 - suc y)) (below-remainder x (suc (2 ^ 64 - suc y)) (omega arith))) ∙ ap (λ m. low (x % m)) (under y k)))
    (λ a b.
    left-word x y (negsuc (2 ^ 64 - suc x)) (pos y) (low (2 ^ 64 - suc (2 ^ 64 - suc x) % y)) (below-zero x a h) (to_z_pos w64 y b) n
    (opposite-word (suc (2 ^ 64 - suc x) % y) (below-remainder (suc (2 ^ 64 - suc x)) y (omega arith)))
    ∙ ap (λ m. low (2 ^ 64 - m % y)) (under x h))
    (λ a b.
    left-word x y (negsuc (2 ^ 64 - suc x)) (negsuc (2 ^ 64 - suc y)) (low (2 ^ 64 - suc (2 ^ 64 - suc x) % suc (2 ^ 64 - suc y))) (below-zero x a h) (below-zero y b k) n
    (opposite-word (suc (2 ^ 64 - suc x) % suc (2 ^ 64 - suc y)) (below-remainder (suc (2 ^ 64 - suc x)) (suc (2 ^ 64 - suc y)) (omega arith)))
    ∙ (ap (λ m. low (2 ^ 64 - m % suc (2 ^ 64 - suc y))) (under x h) ∙ ap (λ m. low (2 ^ 64 - (2 ^ 64 - x) % m)) (under y k)))
