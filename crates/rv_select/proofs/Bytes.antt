-- Words in private memory.
use Rattle.std.proofs.Common.{◌≡◌, ℕ, ◌+◌, ◌-◌, ◌%◌, ◌^◌, ◌<◌, ◌≤◌, List, length, take, drop, Some, None, sym, ap, ◌∙◌, ⊎_elim, inl, inr}
use Rattle.std.proofs.Common.{arith}
use Rattle.std.specs.Prelude.{if◌then◌else◌, nat_le, ◌⊎◌}
use Rattle.std.proofs.lemmas.Bool.{le-leb, lt-leb, le-ltb}
use Rattle.terra_memory.specs.Numbers.{low_bytes, number_of, overwritten}
use Rattle.terra_memory.proofs.Bytes.{length-low_bytes, number_of-low_bytes}
use Rattle.terra_memory.proofs.Overwriting.{length-overwritten, part-overwritten, part-overwritten_before, part-overwritten_behind}
use Rattle.rv_machine.specs.declared.memory.Place.TheVariants.{Private}
use Rattle.rv_machine.specs.Memory.{offset_in, place_of, place_in}

-- eight bytes of a word give the word
eight-bytes : (x : ℕ) → x < 2 ^ 64 → number_of (low_bytes 8 x) ≡ x
eight-bytes x l =
    let whole : x % 2 ^ 64 ≡ x = omega arith in
    number_of-low_bytes 8 x ∙ whole

-- bytes of private memory are found there
past-region : (size a n : ℕ) → size ≤ 67108864 → offset_in 0x40000000 size (2 ^ 32 + a) n ≡ None
unfolding offset_in
past-region size a n h =
    let high : 0x40000000 ≤ 2 ^ 32 + a = omega arith in
    let out : size < 2 ^ 32 + a - 0x40000000 + n = omega arith in
    ap (λ b. if b then None else (if nat_le (2 ^ 32 + a - 0x40000000 + n) size then Some (2 ^ 32 + a - 0x40000000) else None)) (le-ltb (2 ^ 32 + a) 0x40000000 high)
    ∙ ap (λ b. if b then Some (2 ^ 32 + a - 0x40000000) else None) (lt-leb (2 ^ 32 + a - 0x40000000 + n) size out)

in-private : (size a n : ℕ) → a + n ≤ size → offset_in (2 ^ 32) size (2 ^ 32 + a) n ≡ Some a
unfolding offset_in
in-private size a n h =
    let high : 2 ^ 32 ≤ 2 ^ 32 + a = omega arith in
    let within : 2 ^ 32 + a - 2 ^ 32 + n ≤ size = omega arith in
    let e : 2 ^ 32 + a - 2 ^ 32 ≡ a = omega arith in
    ap (λ b. if b then None else (if nat_le (2 ^ 32 + a - 2 ^ 32 + n) size then Some (2 ^ 32 + a - 2 ^ 32) else None)) (le-ltb (2 ^ 32 + a) (2 ^ 32) high)
    ∙ (ap (λ b. if b then Some (2 ^ 32 + a - 2 ^ 32) else None) (le-leb (2 ^ 32 + a - 2 ^ 32 + n) size within) ∙ ap Some e)

pub private-part : (region private a n : ℕ) → region ≤ 67108864 → a + n ≤ private → place_of region private (2 ^ 32 + a) n ≡ Some (Private a)
unfolding place_of
private-part region private a n h k =
    ap (λ o. place_in o (offset_in (2 ^ 32) private (2 ^ 32 + a) n)) (past-region region a n h) ∙ ap (λ o. place_in None o) (in-private private a n k)

pub private-place : (region private a : ℕ) → region ≤ 67108864 → a + 8 ≤ private → place_of region private (2 ^ 32 + a) 8 ≡ Some (Private a)
private-place region private a h k = private-part region private a 8 h k

-- what a store of a word changes
pub stored-length : (xs : List ℕ) (at x : ℕ) → at + 8 ≤ length xs → length (overwritten xs at (low_bytes 8 x)) ≡ length xs
stored-length xs at x h = length-overwritten xs (low_bytes 8 x) at (omega (arith, length-low_bytes 8 x))

pub stored-word : (xs : List ℕ) (at x : ℕ) → at + 8 ≤ length xs → x < 2 ^ 64 →
    number_of (take 8 (drop at (overwritten xs at (low_bytes 8 x)))) ≡ x
stored-word xs at x h l =
    ap (λ n. number_of (take n (drop at (overwritten xs at (low_bytes 8 x))))) (sym (length-low_bytes 8 x))
    ∙ (ap number_of (part-overwritten xs (low_bytes 8 x) at (omega arith)) ∙ eight-bytes x l)

-- what a write leaves elsewhere
pub other-part : (xs ys : List ℕ) (at other n : ℕ) → at ≤ length xs → (other + n ≤ at) ⊎ (at + length ys ≤ other) →
    take n (drop other (overwritten xs at ys)) ≡ take n (drop other xs)
other-part xs ys at other n h e =
    ⊎_elim (λ l. part-overwritten_before xs ys at other n h l) (λ l. part-overwritten_behind xs ys at other n h l) e

-- the same of a word
pub other-than-word : (xs : List ℕ) (at x other n : ℕ) → at ≤ length xs → (other + n ≤ at) ⊎ (at + 8 ≤ other) →
    take n (drop other (overwritten xs at (low_bytes 8 x))) ≡ take n (drop other xs)
other-than-word xs at x other n h e =
    other-part xs (low_bytes 8 x) at other n h
    (⊎_elim inl (λ l. inr (omega (arith, l, length-low_bytes 8 x))) e)
