-- What operators of the machine give, as words of a width.
use Rattle.std.proofs.Common.{◌≡◌, ◌≢◌, ℕ, suc, ◌+◌, ◌-◌, ◌*◌, ◌/◌, ◌%◌, ◌^◌, ◌<◌, ◌≤◌, Bool, true, false, not, ◌&&◌, pos, negsuc, ℤ, refl}
use Rattle.std.proofs.Common.{sym, ap, ◌∙◌, ⊎_elim, arith}
use Rattle.std.specs.Prelude.{if◌then◌else◌, nat_eq, nat_lt, nat_le, bit_and, bit_xor, int_lt}
use Rattle.std.specs.Int.{w32, w64, cast_signed, cast_unsigned}
use Rattle.std.proofs.lemmas.Bool.{cases_eq, cases_lt, eq-eqb, ne_eqb, lt-ltb, le-ltb, le-leb, lt-leb}
use Rattle.std.proofs.lemmas.Int.{ints, to_z_pos}
use Rattle.std.proofs.lemmas.Nat.{and_mask, and_le_l}
use Rattle.std.proofs.Math.Nat.{div-le_self, mod-lt}
use mir.Facts.{to_z-neg}
use Rattle.terra_words.specs.declared.words.Width.{Width}
use Rattle.terra_words.specs.Words as words
use Rattle.terra_words.specs.Words.{wrapped}
use Rattle.rv_machine.specs.Word.{low, difference, extended_word}
use Rattle.rv_machine.specs.Arithmetic.{flag, quotient_unsigned, remainder_unsigned}

abbrev pub width : Bool → ℕ → Width
width signed bits = record { signed = signed; bits = bits }

same-if : (b : Bool) (m k : ℕ) → k ≡ m → (if b then k else m) ≡ m
same-if true m k e = e
same-if false m k e = refl

pub wrapped-64 : (sg : Bool) (n : ℕ) → wrapped (width sg 64) n ≡ low n
unfolding wrapped low
wrapped-64 sg n = same-if (sg && nat_le (2 ^ 63) (n % 2 ^ 64)) (n % 2 ^ 64) (n % 2 ^ 64 + (2 ^ 64 - 2 ^ 64)) (omega arith)

pub low-small : (n : ℕ) → n < 2 ^ 64 → low n ≡ n
unfolding low
low-small n h = omega arith

pub wrapped-small : (sg : Bool) (n : ℕ) → n < 2 ^ 64 → n ≡ wrapped (width sg 64) n
wrapped-small sg n h = sym (low-small n h) ∙ sym (wrapped-64 sg n)

signed-32 : (l : ℕ) → l < 2 ^ 32 → cast_unsigned w64 (cast_signed w32 l) ≡ (if nat_le (2 ^ 31) l then l + (2 ^ 64 - 2 ^ 32) else l)
signed-32 l h =
    ⊎_elim
    (λ small.
    let z : cast_signed w32 l ≡ pos l = omega (arith, ints) in
    ap (λ i. cast_unsigned w64 i) z ∙ sym (ap (λ b. if b then l + (2 ^ 64 - 2 ^ 32) else l) (lt-leb (2 ^ 31) l small)))
    (λ large.
    let k : ℕ = 2 ^ 32 - suc l in
    let e : l ≡ 2 ^ 32 - suc k = omega arith in
    let z : cast_signed w32 l ≡ negsuc (2 ^ 32 - suc l) = ap (λ n. cast_signed w32 n) e ∙ to_z-neg w32 k (omega arith) in
    let v : 2 ^ 64 - suc (2 ^ 32 - suc l) ≡ l + (2 ^ 64 - 2 ^ 32) = omega arith in
    ap (λ i. cast_unsigned w64 i) z ∙ (v ∙ sym (ap (λ b. if b then l + (2 ^ 64 - 2 ^ 32) else l) (le-leb (2 ^ 31) l large))))
    (cases_lt l (2 ^ 31))

pub wrapped-32 : (n : ℕ) → extended_word n ≡ wrapped (width true 32) n
unfolding wrapped
wrapped-32 n = signed-32 (n % 2 ^ 32) (omega arith)

quotient-small : (x y : ℕ) → x < 2 ^ 64 → y ≢ 0 → x / y < 2 ^ 64
quotient-small x y h n = omega (arith, div-le_self x y)

pub divided : (x y : ℕ) → x < 2 ^ 64 → y ≢ 0 → quotient_unsigned x y ≡ wrapped (width false 64) (x / y)
unfolding quotient_unsigned
divided x y h n =
    let small : x / y < 2 ^ 64 = quotient-small x y h n in
    ap (λ b. if b then 2 ^ 64 - 1 else x / y) (ne_eqb y 0 n) ∙ wrapped-small false (x / y) small

pub left-over : (x y : ℕ) → y < 2 ^ 64 → y ≢ 0 → remainder_unsigned x y ≡ wrapped (width false 64) (x % y)
unfolding remainder_unsigned
left-over x y h n =
    let some : 0 < y = omega (arith, n) in
    let below : x % y < y = mod-lt x some in
    let small : x % y < 2 ^ 64 = omega arith in
    ap (λ b. if b then x else x % y) (ne_eqb y 0 n) ∙ wrapped-small false (x % y) small

-- a difference is zero where the words are equal
pub equal-words : (x y : ℕ) → x < 2 ^ 64 → y < 2 ^ 64 → flag (nat_lt (difference x y) 1) ≡ words.flag (nat_eq x y)
unfolding difference low
equal-words x y h k =
    ⊎_elim
    (λ e. let z : (x + (2 ^ 64 - y)) % 2 ^ 64 < 1 = omega arith in
    ap flag (lt-ltb ((x + (2 ^ 64 - y)) % 2 ^ 64) 1 z) ∙ ap words.flag (sym (eq-eqb x y e)))
    (λ n. let z : 1 ≤ (x + (2 ^ 64 - y)) % 2 ^ 64 = omega (arith, n) in
    ap flag (le-ltb ((x + (2 ^ 64 - y)) % 2 ^ 64) 1 z) ∙ ap words.flag (sym (ne_eqb x y n)))
    (cases_eq x y)

pub other-words : (x y : ℕ) → x < 2 ^ 64 → y < 2 ^ 64 → flag (nat_lt 0 (difference x y)) ≡ words.flag (not (nat_eq x y))
unfolding difference low
other-words x y h k =
    ⊎_elim
    (λ e. let z : (x + (2 ^ 64 - y)) % 2 ^ 64 ≤ 0 = omega arith in
    ap flag (le-ltb 0 ((x + (2 ^ 64 - y)) % 2 ^ 64) z) ∙ ap (λ b. words.flag (not b)) (sym (eq-eqb x y e)))
    (λ n. let z : 0 < (x + (2 ^ 64 - y)) % 2 ^ 64 = omega (arith, n) in
    ap flag (lt-ltb 0 ((x + (2 ^ 64 - y)) % 2 ^ 64) z) ∙ ap (λ b. words.flag (not b)) (sym (ne_eqb x y n)))
    (cases_eq x y)

-- a test turned round
pub turned : (b : Bool) → bit_xor (flag b) 1 ≡ words.flag (not b)
turned true = refl
turned false = refl

pub mixed : (f : ℕ) (sg : Bool) → f < 2 ^ 64 → f ≡ wrapped (width sg 64) f
mixed f sg h = wrapped-small sg f h

pub and-small : (x y : ℕ) → x < 2 ^ 64 → bit_and x y < 2 ^ 64
and-small x y h = omega (arith, and_le_l x y)

-- a word that is the same in its low bits
pub difference-32 : (x y : ℕ) → extended_word (difference x y) ≡ wrapped (width true 32) (x + (2 ^ 64 - y))
unfolding difference low
difference-32 x y =
    let e : (x + (2 ^ 64 - y)) % 2 ^ 64 % 2 ^ 32 ≡ (x + (2 ^ 64 - y)) % 2 ^ 32 = omega arith in
    ap (λ n. cast_unsigned w64 (cast_signed w32 n)) e ∙ wrapped-32 (x + (2 ^ 64 - y))

pub added-nothing : (n : ℕ) → extended_word (n + 0) ≡ wrapped (width true 32) n
added-nothing n = let e : n + 0 ≡ n = omega arith in ap extended_word e ∙ wrapped-32 n

-- words in order of their signed numbers
pub signed-less : (x y : ℕ) → x < 2 ^ 64 → y < 2 ^ 64 → int_lt (cast_signed w64 x) (cast_signed w64 y) ≡ nat_lt ((x + 2 ^ 63) % 2 ^ 64) ((y + 2 ^ 63) % 2 ^ 64)
signed-less x y h k =
    ⊎_elim
    (λ a.
    ⊎_elim
    (λ b.
    let m : (x + 2 ^ 63) % 2 ^ 64 ≡ x + 2 ^ 63 = omega arith in
    let n : (y + 2 ^ 63) % 2 ^ 64 ≡ y + 2 ^ 63 = omega arith in
    lt-both (to_z_pos w64 x a) (to_z_pos w64 y b) ∙ (same-test x y (x + 2 ^ 63) (y + 2 ^ 63) (λ l. omega arith) (λ l. omega arith)
    ∙ (ap (λ q. nat_lt q (y + 2 ^ 63)) (sym m) ∙ ap (λ q. nat_lt ((x + 2 ^ 63) % 2 ^ 64) q) (sym n))))
    (λ b.
    let l : (y + 2 ^ 63) % 2 ^ 64 ≤ (x + 2 ^ 63) % 2 ^ 64 = omega arith in
    lt-both (to_z_pos w64 x a) (below-zero y b k) ∙ sym (le-ltb ((x + 2 ^ 63) % 2 ^ 64) ((y + 2 ^ 63) % 2 ^ 64) l))
    (cases_lt y (2 ^ 63)))
    (λ a.
    ⊎_elim
    (λ b.
    let l : (x + 2 ^ 63) % 2 ^ 64 < (y + 2 ^ 63) % 2 ^ 64 = omega arith in
    lt-both (below-zero x a h) (to_z_pos w64 y b) ∙ sym (lt-ltb ((x + 2 ^ 63) % 2 ^ 64) ((y + 2 ^ 63) % 2 ^ 64) l))
    (λ b.
    let m : (x + 2 ^ 63) % 2 ^ 64 ≡ x - 2 ^ 63 = omega arith in
    let n : (y + 2 ^ 63) % 2 ^ 64 ≡ y - 2 ^ 63 = omega arith in
    lt-both (below-zero x a h) (below-zero y b k) ∙ (same-test (2 ^ 64 - suc y) (2 ^ 64 - suc x) (x - 2 ^ 63) (y - 2 ^ 63) (λ l. omega arith) (λ l. omega arith)
    ∙ (ap (λ q. nat_lt q (y - 2 ^ 63)) (sym m) ∙ ap (λ q. nat_lt ((x + 2 ^ 63) % 2 ^ 64) q) (sym n))))
    (cases_lt y (2 ^ 63)))
    (cases_lt x (2 ^ 63))
  where
    lt-both : {p q r t : ℤ} → p ≡ q → r ≡ t → int_lt p r ≡ int_lt q t
    lt-both {p} {q} {r} {t} e f = ap (λ i. int_lt i r) e ∙ ap (λ i. int_lt q i) f

    below-zero : (n : ℕ) → 2 ^ 63 ≤ n → n < 2 ^ 64 → cast_signed w64 n ≡ negsuc (2 ^ 64 - suc n)
    below-zero n a l =
        let e : n ≡ 2 ^ 64 - suc (2 ^ 64 - suc n) = omega arith in
        ap (λ m. cast_signed w64 m) e ∙ to_z-neg w64 (2 ^ 64 - suc n) (omega arith)

    same-test : (a b c d : ℕ) → (a < b → c < d) → (b ≤ a → d ≤ c) → nat_lt a b ≡ nat_lt c d
    same-test a b c d f g =
        ⊎_elim (λ l. lt-ltb a b l ∙ sym (lt-ltb c d (f l))) (λ m. le-ltb a b m ∙ sym (le-ltb c d (g m))) (cases_lt a b)

pub shifted-small : (x n : ℕ) → x < 2 ^ 64 → x / 2 ^ n ≡ wrapped (width false 64) (x / 2 ^ n)
shifted-small x n h = wrapped-small false (x / 2 ^ n) (omega (arith, div-le_self x (2 ^ n)))

-- two shifts leave the low bits
pub zeros-32 : (v n : ℕ) → v % 2 ^ 32 ≡ n % 2 ^ 32 → low (v * 2 ^ 32) / 2 ^ 32 ≡ wrapped (width false 32) n
unfolding wrapped low
zeros-32 v n e = omega (arith, e)

pub zeros-16 : (v n : ℕ) → v % 2 ^ 16 ≡ n % 2 ^ 16 → low (v * 2 ^ 48) / 2 ^ 48 ≡ wrapped (width false 16) n
unfolding wrapped low
zeros-16 v n e = omega (arith, e)

pub zeros-8 : (v n : ℕ) → v % 2 ^ 8 ≡ n % 2 ^ 8 → low (v * 2 ^ 56) / 2 ^ 56 ≡ wrapped (width false 8) n
unfolding wrapped low
zeros-8 v n e = omega (arith, e)

pub low-32 : (n : ℕ) → low n % 2 ^ 32 ≡ n % 2 ^ 32
unfolding low
low-32 n = omega arith

pub low-16 : (n : ℕ) → low n % 2 ^ 16 ≡ n % 2 ^ 16
unfolding low
low-16 n = omega arith

pub low-8 : (n : ℕ) → low n % 2 ^ 8 ≡ n % 2 ^ 8
unfolding low
low-8 n = omega arith

pub quotient-is : (x y : ℕ) → y ≢ 0 → quotient_unsigned x y ≡ x / y
unfolding quotient_unsigned
quotient-is x y n = ap (λ b. if b then 2 ^ 64 - 1 else x / y) (ne_eqb y 0 n)

pub remainder-is : (x y : ℕ) → y ≢ 0 → remainder_unsigned x y ≡ x % y
unfolding remainder_unsigned
remainder-is x y n = ap (λ b. if b then x else x % y) (ne_eqb y 0 n)

pub count-32 : (y : ℕ) → bit_and y 31 % 2 ^ 6 ≡ y % 32
count-32 y =
    let m : bit_and y 31 ≡ y % 2 ^ 5 = and_mask y 5 in
    let n : y % 2 ^ 5 % 2 ^ 6 ≡ y % 32 = omega arith in
    ap (λ c. c % 2 ^ 6) m ∙ n

pub count-16 : (y : ℕ) → bit_and y 15 % 2 ^ 6 ≡ y % 16
count-16 y =
    let m : bit_and y 15 ≡ y % 2 ^ 4 = and_mask y 4 in
    let n : y % 2 ^ 4 % 2 ^ 6 ≡ y % 16 = omega arith in
    ap (λ c. c % 2 ^ 6) m ∙ n

pub count-8 : (y : ℕ) → bit_and y 7 % 2 ^ 6 ≡ y % 8
count-8 y =
    let m : bit_and y 7 ≡ y % 2 ^ 3 = and_mask y 3 in
    let n : y % 2 ^ 3 % 2 ^ 6 ≡ y % 8 = omega arith in
    ap (λ c. c % 2 ^ 6) m ∙ n
