-- Parts of lists of bytes, and writes to them.
use Rattle.std.proofs.Common.{◌≡◌, ℕ, ◌+◌, ◌-◌, ◌≤◌, List, [], ◌++◌, length, take, drop, refl, sym, ap, ◌∙◌, ⊎_elim, arith}
use Rattle.std.proofs.lemmas.Bool.{cases_lt}
use Rattle.std.proofs.lemmas.List.{append-nil, append_assoc, drop-append-le, drop-drop, drop-take, drop_all, drop_at, length-append}
use Rattle.std.proofs.lemmas.List.{length-drop, length-take-le, take-append-drop, take-take, take_at}
use Rattle.std.proofs.Math.Seq.{take-add}
use Rattle.terra_memory.specs.Numbers.{overwritten}
use Rattle.terra_memory.proofs.Overwriting.{part-overwritten}

-- a part of a part
pub part-within : (xs ys : List ℕ) (at k offset size : ℕ) → take k (drop at xs) ≡ ys → offset + size ≤ k → take size (drop (at + offset) xs) ≡ take size (drop offset ys)
part-within xs ys at k offset size e h =
    let split : k ≡ offset + (k - offset) = omega arith in
    let room : size ≤ k - offset = omega arith in
    ap (take size) (sym (drop-drop offset at xs))
    ∙ (sym (take-take size (k - offset) (drop offset (drop at xs)) room)
    ∙ (ap (take size) (sym (drop-take offset (k - offset) (drop at xs)))
    ∙ (ap (λ n. take size (drop offset (take n (drop at xs)))) (sym split) ∙ ap (λ z. take size (drop offset z)) e)))

-- what lies behind a place, after a write behind it
drop-overwritten : (xs ys : List ℕ) (at offset : ℕ) → at + offset ≤ length xs → drop at (overwritten xs (at + offset) ys) ≡ overwritten (drop at xs) offset ys
drop-overwritten xs ys at offset h =
    let front : length (take (at + offset) xs) ≡ at + offset = length-take-le (at + offset) xs h in
    let least : at ≤ length (take (at + offset) xs ++ ys) = omega (arith, length-append (take (at + offset) xs) ys) in
    let n : ℕ = at + offset + length ys in
    let split : at + (offset + length ys) ≡ n = omega arith in
    drop-append-le at (take (at + offset) xs ++ ys) (drop n xs) least
    ∙ (ap (λ z. z ++ drop n xs) (drop-append-le at (take (at + offset) xs) ys (omega arith) ∙ ap (λ z. z ++ ys) (drop-take at offset xs))
    ∙ ap (λ z. (take offset (drop at xs) ++ ys) ++ z) (sym (drop-drop (offset + length ys) at xs ∙ ap (λ k. drop k xs) split)))

-- the first of two lists, and some of the second
take-both : (xs ys : List ℕ) (n : ℕ) → take (length xs + n) (xs ++ ys) ≡ xs ++ take n ys
take-both xs ys n =
    take-add (length xs) n (xs ++ ys) ∙ (ap (λ z. z ++ take n (drop (length xs) (xs ++ ys))) (take_at xs ys (length xs) refl) ∙ ap (λ z. xs ++ take n z) (drop_at xs ys (length xs) refl))

-- the rest of a list that begins another
rest-of : (xs old : List ℕ) (k : ℕ) → take (length old) xs ≡ old → take (length (drop k old)) (drop k xs) ≡ drop k old
rest-of xs old k e =
    ⊎_elim
    (λ h.
    let none : drop k old ≡ [] = drop_all k old (omega arith) in
    ap (λ z. take (length z) (drop k xs)) none ∙ sym none)
    (λ h.
    let split : length old ≡ k + (length old - k) = omega arith in
    ap (λ n. take n (drop k xs)) (length-drop k old) ∙ (sym (drop-take k (length old - k) xs) ∙ (ap (λ n. drop k (take n xs)) (sym split) ∙ ap (drop k) e)))
    (cases_lt (length old) k)

begin-overwritten : (xs old ys : List ℕ) (offset : ℕ) → take (length old) xs ≡ old → offset ≤ length old →
    take (length (overwritten old offset ys)) (overwritten xs offset ys) ≡ overwritten old offset ys
begin-overwritten xs old ys offset e h =
    let k : ℕ = offset + length ys in
    let front : take offset xs ≡ take offset old = sym (take-take offset (length old) xs h) ∙ ap (take offset) e in
    ap (λ n. take n (overwritten xs offset ys)) (length-append (take offset old ++ ys) (drop k old))
    ∙ (ap (λ z. take (length (take offset old ++ ys) + length (drop k old)) ((z ++ ys) ++ drop k xs)) front
    ∙ (take-both (take offset old ++ ys) (drop k xs) (length (drop k old)) ∙ ap (λ z. (take offset old ++ ys) ++ z) (rest-of xs old k e)))

-- A part of a list after a write at an offset of it is the part with the same write.
pub part-written : (xs old ys : List ℕ) (at offset : ℕ) → take (length old) (drop at xs) ≡ old → offset ≤ length old → at + offset ≤ length xs →
    take (length (overwritten old offset ys)) (drop at (overwritten xs (at + offset) ys)) ≡ overwritten old offset ys
part-written xs old ys at offset e h k =
    ap (take (length (overwritten old offset ys))) (drop-overwritten xs ys at offset k) ∙ begin-overwritten (drop at xs) old ys offset e h

-- how long a list is after a write that may go past its end
pub written-count : (old ys : List ℕ) (offset most : ℕ) → offset ≤ length old → length old ≤ most → offset + length ys ≤ most → length (overwritten old offset ys) ≤ most
written-count old ys offset most h k l =
    let front : length (take offset old) ≡ offset = length-take-le offset old h in
    omega (arith, length-append (take offset old ++ ys) (drop (offset + length ys) old), length-append (take offset old) ys, length-drop (offset + length ys) old)

-- two writes, one behind the other
pub written-twice : (xs ys zs : List ℕ) (at : ℕ) → at + length ys ≤ length xs → overwritten (overwritten xs at ys) (at + length ys) zs ≡ overwritten xs at (ys ++ zs)
written-twice xs ys zs at h =
    let front : length (take at xs) ≡ at = length-take-le at xs (omega arith) in
    let written : length (take at xs ++ ys) ≡ at + length ys = omega (arith, length-append (take at xs) ys) in
    let n : ℕ = at + length ys + length zs in
    let split : n ≡ at + length (ys ++ zs) = omega (arith, length-append ys zs) in
    let past : drop n (overwritten xs at ys) ≡ drop n xs =
    sym (drop-drop (length zs) (at + length ys) (overwritten xs at ys))
    ∙ (ap (drop (length zs)) (drop_at (take at xs ++ ys) (drop (at + length ys) xs) (at + length ys) written) ∙ drop-drop (length zs) (at + length ys) xs) in
    ap (λ z. (z ++ zs) ++ drop n (overwritten xs at ys)) (take_at (take at xs ++ ys) (drop (at + length ys) xs) (at + length ys) written)
    ∙ (ap (λ z. ((take at xs ++ ys) ++ zs) ++ z) past ∙ (ap (λ z. z ++ drop n xs) (append_assoc (take at xs) ys zs) ∙ ap (λ k. (take at xs ++ (ys ++ zs)) ++ drop k xs) split))

-- a write of nothing
pub none-written : (xs : List ℕ) (at : ℕ) → overwritten xs at [] ≡ xs
none-written xs at =
    let e : at + 0 ≡ at = omega arith in
    ap (λ z. z ++ drop (at + 0) xs) (append-nil (take at xs)) ∙ (ap (λ n. take at xs ++ drop n xs) e ∙ take-append-drop at xs)

-- a write over another
pub rewritten : (xs ys zs : List ℕ) (at : ℕ) → at ≤ length xs → length ys ≤ length zs → overwritten (overwritten xs at ys) at zs ≡ overwritten xs at zs
rewritten xs ys zs at h k =
    let front : length (take at xs) ≡ at = length-take-le at xs h in
    let written : length (take at xs ++ ys) ≡ at + length ys = omega (arith, length-append (take at xs) ys) in
    let n : ℕ = length zs - length ys in
    let split : at + length zs ≡ at + length ys + n = omega arith in
    let past : drop (at + length zs) (overwritten xs at ys) ≡ drop (at + length zs) xs =
    ap (λ k. drop k (overwritten xs at ys)) split
    ∙ (sym (drop-drop n (at + length ys) (overwritten xs at ys))
    ∙ (ap (drop n) (drop_at (take at xs ++ ys) (drop (at + length ys) xs) (at + length ys) written) ∙ (drop-drop n (at + length ys) xs ∙ ap (λ k. drop k xs) (sym split)))) in
    ap (λ z. (take at z ++ zs) ++ drop (at + length zs) (overwritten xs at ys)) (append_assoc (take at xs) ys (drop (at + length ys) xs))
    ∙ (ap (λ z. (z ++ zs) ++ drop (at + length zs) (overwritten xs at ys)) (take_at (take at xs) (ys ++ drop (at + length ys) xs) at front)
    ∙ ap (λ z. (take at xs ++ zs) ++ z) past)

-- a write of what is there
pub same-written : (xs : List ℕ) (at n : ℕ) → at + n ≤ length xs → overwritten xs at (take n (drop at xs)) ≡ xs
same-written xs at n h =
    let count : length (take n (drop at xs)) ≡ n = length-take-le n (drop at xs) (omega (arith, length-drop at xs)) in
    ap (λ k. (take at xs ++ take n (drop at xs)) ++ drop (at + k) xs) count
    ∙ (ap (λ z. z ++ drop (at + n) xs) (sym (take-add at n xs)) ∙ take-append-drop (at + n) xs)

-- a part of what was written
pub part-of-written : (xs ys : List ℕ) (at n : ℕ) → at ≤ length xs → n ≤ length ys → take n (drop at (overwritten xs at ys)) ≡ take n ys
part-of-written xs ys at n h k =
    sym (take-take n (length ys) (drop at (overwritten xs at ys)) k) ∙ ap (take n) (part-overwritten xs ys at h)
