-- Numbers and their bytes.
use Rattle.std.proofs.Common.{◌≡◌, ℕ, zero, suc, ◌+◌, ◌*◌, ◌/◌, ◌%◌, ◌^◌, ◌≤◌, List, [], ◌∷◌, length, get_or, take, drop, refl, sym, ap}
use Rattle.std.proofs.Common.{◌∙◌, arith, add-zero}
use Rattle.std.proofs.lemmas.List.{drop_more}
use Rattle.std.proofs.lemmas.Nat.{mod-pow-add}
use Rattle.std.proofs.Math.Nat.{div-div-eq-div-mul, div-one, pow-suc}
use Rattle.std.specs.Int.{w16, w32, w64, byte_at, bytes_low_first, from_le_bytes}
use Rattle.terra_memory.specs.Numbers.{number_of, low_bytes, part}

-- the place i behind another, as code writes it
abbrev pub place : (at i : ℕ) → ℕ
place at zero = at
place at (suc i) = at + suc i

place-is : (at i : ℕ) → at + i ≡ place at i
place-is at zero = add-zero at
place-is at (suc i) = refl

-- so many elements of a list, one by one, from the i-th behind a place on
abbrev pub listed : (count i at : ℕ) → List ℕ → List ℕ
listed zero i at xs = []
listed (suc count) i at xs = get_or xs (place at i) 0 ∷ listed count (suc i) at xs

part-listed_from : (count i at : ℕ) (xs : List ℕ) → at + i + count ≤ length xs → part xs (at + i) count ≡ listed count i at xs
part-listed_from zero i at xs h = refl
part-listed_from (suc count) i at xs h =
    let first : drop (at + i) xs ≡ get_or xs (at + i) 0 ∷ drop (at + i + 1) xs = drop_more xs (at + i) 0 (omega arith) in
    let next : at + i + 1 ≡ at + suc i = omega arith in
    let rest : part xs (at + suc i) count ≡ listed count (suc i) at xs = part-listed_from count (suc i) at xs (omega arith) in
    ap (take (suc count)) first
    ∙ ap (λ (n : ℕ). get_or xs (at + i) 0 ∷ part xs n count) next
    ∙ ap (λ (ys : List ℕ). get_or xs (at + i) 0 ∷ ys) rest
    ∙ ap (λ (n : ℕ). get_or xs n 0 ∷ listed count (suc i) at xs) (place-is at i)

-- a part as its elements
part-listed : (count at : ℕ) (xs : List ℕ) → at + count ≤ length xs → part xs at count ≡ listed count 0 at xs
part-listed count at xs h =
    ap (λ (n : ℕ). part xs n count) (sym (add-zero at)) ∙ part-listed_from count 0 at xs (omega arith)

-- the number in a part, by its elements
pub number_of-part_1 : (at : ℕ) (xs : List ℕ) → at + 1 ≤ length xs → number_of (part xs at 1) ≡ get_or xs at 0
unfolding number_of
number_of-part_1 at xs h = ap number_of (part-listed 1 at xs h) ∙ omega arith

pub number_of-part_2 : (at : ℕ) (xs : List ℕ) → at + 2 ≤ length xs → number_of (part xs at 2) ≡ from_le_bytes w16 (listed 2 0 at xs)
unfolding number_of
number_of-part_2 at xs h = ap number_of (part-listed 2 at xs h) ∙ omega arith

pub number_of-part_4 : (at : ℕ) (xs : List ℕ) → at + 4 ≤ length xs → number_of (part xs at 4) ≡ from_le_bytes w32 (listed 4 0 at xs)
unfolding number_of
number_of-part_4 at xs h = ap number_of (part-listed 4 at xs h) ∙ omega arith

pub number_of-part_8 : (at : ℕ) (xs : List ℕ) → at + 8 ≤ length xs → number_of (part xs at 8) ≡ from_le_bytes w64 (listed 8 0 at xs)
unfolding number_of
number_of-part_8 at xs h = ap number_of (part-listed 8 at xs h) ∙ omega arith

pub length-low_bytes : (count value : ℕ) → length (low_bytes count value) ≡ count
unfolding low_bytes
length-low_bytes zero value = refl
length-low_bytes (suc count) value = ap suc (length-low_bytes count (value / 256))

-- a number cut to one byte more, as its lowest byte and the others
cut_more : (count value : ℕ) → value % 2 ^ (8 * suc count) ≡ (value / 256 % 2 ^ (8 * count)) * 256 + value % 256
cut_more count value =
    let size : 8 * suc count ≡ 8 * count + 8 = omega arith in
    ap (λ (n : ℕ). value % 2 ^ n) size ∙ mod-pow-add value (8 * count) 8

-- the lowest bytes of a number make it again, cut to their size
pub number_of-low_bytes : (count value : ℕ) → number_of (low_bytes count value) ≡ value % 2 ^ (8 * count)
unfolding number_of low_bytes
number_of-low_bytes zero value = omega arith
number_of-low_bytes (suc count) value =
    omega (arith, number_of-low_bytes count (value / 256), cut_more count value)

-- they are those of the number that is cut to them
pub low_bytes-cut : (count value : ℕ) → low_bytes count (value % 2 ^ (8 * count)) ≡ low_bytes count value
unfolding low_bytes
low_bytes-cut zero value = refl
low_bytes-cut (suc count) value =
    let cut = cut_more count value in
    let low : value % 2 ^ (8 * suc count) % 256 ≡ value % 256 = omega (arith, cut) in
    let high : value % 2 ^ (8 * suc count) / 256 ≡ value / 256 % 2 ^ (8 * count) = omega (arith, cut) in
    rw (low, high, low_bytes-cut count (value / 256)) refl

byte_at-is : (i value : ℕ) → byte_at i value ≡ value / 256 ^ i % 256
byte_at-is zero value = ap (λ (n : ℕ). n % 256) (sym (div-one value))
byte_at-is (suc i) value = refl

bytes_low_first-is : (i count value : ℕ) → bytes_low_first i count value ≡ low_bytes count (value / 256 ^ i)
unfolding low_bytes
bytes_low_first-is i zero value = refl
bytes_low_first-is i (suc count) value =
    let down : value / 256 ^ suc i ≡ value / 256 ^ i / 256 = ap (λ (n : ℕ). value / n) (pow-suc 256 i) ∙ sym (div-div-eq-div-mul value (256 ^ i) 256) in
    let rest : bytes_low_first (suc i) count value ≡ low_bytes count (value / 256 ^ i / 256) =
    bytes_low_first-is (suc i) count value ∙ ap (low_bytes count) down in
    rw (byte_at-is i value, rest) refl

-- what an integer's bytes are
pub low_bytes-whole : (count value : ℕ) → bytes_low_first 0 count value ≡ low_bytes count value
low_bytes-whole count value = bytes_low_first-is 0 count value ∙ ap (low_bytes count) (div-one value)

-- what the bytes of an integer are that is cut to its size
pub low_bytes-part : (count value : ℕ) → bytes_low_first 0 count (value % 2 ^ (8 * count)) ≡ low_bytes count value
low_bytes-part count value = low_bytes-whole count (value % 2 ^ (8 * count)) ∙ low_bytes-cut count value
