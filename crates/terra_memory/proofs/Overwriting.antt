-- Parts of a list of which another part was overwritten.
use Rattle.std.proofs.Common.{◌≡◌, ℕ, suc, ◌+◌, ◌-◌, ◌<◌, ◌≤◌, List, [], ◌∷◌, ◌++◌, length, take, drop, set, refl, sym, ap, ◌∙◌, arith}
use Rattle.std.proofs.Common.{append_assoc, length-append, length-drop}
use Rattle.std.proofs.lemmas.List.{length-take-le, set_split, drop-drop, drop-take, drop_at, take_at, drop-append-le, take-append-le}
use Rattle.std.proofs.lemmas.List.{take-take}
use borrow.Rule.Slice.PartMut.{put_mid}
use Rattle.terra_memory.specs.Numbers.{low_bytes, part, overwritten}
use Rattle.terra_memory.proofs.Bytes.{length-low_bytes}

-- a write of one byte
pub set-overwritten : (xs : List ℕ) (at y : ℕ) → at < length xs → set xs at y ≡ overwritten xs at (y ∷ [])
set-overwritten xs at y h =
    let next : at + 1 ≡ suc at = omega arith in
    set_split xs at y h ∙ rw (append_assoc, next) refl

-- a write of a slice
pub put_mid-overwritten : (xs ys : List ℕ) (at count : ℕ) → length ys ≡ count → put_mid at count xs ys ≡ overwritten xs at ys
put_mid-overwritten xs ys at count h = rw (append_assoc, drop-drop, ← h) refl

-- a write of a number's bytes
pub put_mid-stored : (xs ys : List ℕ) (at count value : ℕ) → ys ≡ low_bytes count value
    → put_mid at (at + count - at) xs ys ≡ overwritten xs at (low_bytes count value)
put_mid-stored xs ys at count value e =
    let size : length ys ≡ at + count - at = omega (arith, ap length e, length-low_bytes count value) in
    put_mid-overwritten xs ys at (at + count - at) size ∙ ap (overwritten xs at) e

pub length-overwritten : (xs ys : List ℕ) (at : ℕ) → at + length ys ≤ length xs → length (overwritten xs at ys) ≡ length xs
length-overwritten xs ys at h =
    omega (arith, length-append (take at xs ++ ys) (drop (at + length ys) xs), length-append (take at xs) ys, length-take-le at xs (omega arith), length-drop (at + length ys) xs)

-- what was written stands there
pub part-overwritten : (xs ys : List ℕ) (at : ℕ) → at ≤ length xs → part (overwritten xs at ys) at (length ys) ≡ ys
part-overwritten xs ys at h =
    let front : length (take at xs) ≡ at = length-take-le at xs h in
    let behind = drop (at + length ys) xs in
    rw (append_assoc, drop_at (take at xs) (ys ++ behind) at front) (take_at ys behind (length ys) refl)

-- what lies before it is unchanged
pub part-overwritten_before : (xs ys : List ℕ) (at other count : ℕ) → at ≤ length xs → other + count ≤ at
    → part (overwritten xs at ys) other count ≡ part xs other count
part-overwritten_before xs ys at other count h before =
    let front : length (take at xs) ≡ at = length-take-le at xs h in
    let behind = ys ++ drop (at + length ys) xs in
    let left : other ≤ length (take at xs) = omega arith in
    let size : length (drop other (take at xs)) ≡ at - other = length-drop other (take at xs) ∙ ap (λ (n : ℕ). n - other) front in
    let fits : count ≤ length (drop other (take at xs)) = omega arith in
    let split : at ≡ other + (at - other) = omega arith in
    let within : drop other (take at xs) ≡ take (at - other) (drop other xs) = ap (λ (n : ℕ). drop other (take n xs)) split ∙ drop-take other (at - other) xs in
    let room : count ≤ at - other = omega arith in
    ap (λ (zs : List ℕ). take count (drop other zs)) (append_assoc (take at xs) ys (drop (at + length ys) xs))
    ∙ ap (take count) (drop-append-le other (take at xs) behind left)
    ∙ take-append-le count (drop other (take at xs)) behind fits
    ∙ ap (take count) within
    ∙ take-take count (at - other) (drop other xs) room

-- what lies behind it is unchanged
pub part-overwritten_behind : (xs ys : List ℕ) (at other count : ℕ) → at ≤ length xs → at + length ys ≤ other
    → part (overwritten xs at ys) other count ≡ part xs other count
part-overwritten_behind xs ys at other count h behind =
    let front : length (take at xs) ≡ at = length-take-le at xs h in
    let written : length (take at xs ++ ys) ≡ at + length ys = omega (arith, length-append (take at xs) ys) in
    let rest = other - (at + length ys) in
    let split : other ≡ (at + length ys) + rest = omega arith in
    let zs = overwritten xs at ys in
    ap (λ (n : ℕ). take count (drop n zs)) split
    ∙ ap (take count) (sym (drop-drop rest (at + length ys) zs))
    ∙ ap (λ (ws : List ℕ). take count (drop rest ws)) (drop_at (take at xs ++ ys) (drop (at + length ys) xs) (at + length ys) written)
    ∙ ap (take count) (drop-drop rest (at + length ys) xs)
    ∙ ap (λ (n : ℕ). take count (drop n xs)) (sym split)
