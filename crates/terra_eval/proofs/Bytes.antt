-- The bytes of numbers, and bytes written to the region one after the other.
use Rattle.std.proofs.Common.{◌≡◌, refl, sym, ap, ◌∙◌, ℕ, suc, ◌+◌, ◌-◌, ◌*◌, ◌/◌, ◌%◌, ◌^◌, ◌<◌, ◌≤◌, Bool, true, false, List, [], ◌∷◌}
use Rattle.std.proofs.Common.{◌++◌, Option, Some, None, length, take, drop, get_or, arith, drop-cons, drop-drop, append_assoc}
use Rattle.std.proofs.Common.{length-append, take_all}
use Rattle.std.specs.Prelude.{if◌then◌else◌, unwrap_or}
use Rattle.std.specs.Bool.{OnTrue}
use Rattle.std.proofs.lemmas.Bool.{le-leb, OnTrue_at}
use Rattle.std.proofs.lemmas.Bool.Decides.{leb_tells}
use Rattle.std.proofs.Math.Nat.{mod-eq_of_lt}
use Rattle.std.proofs.Math.Seq.{take-suc}
use Rattle.std.proofs.Math.ListN.{drop_of_length-le}
use Rattle.std.proofs.Math.Pow.{mod-mod-pow}
use Rattle.std.proofs.lemmas.List.{length-take-le, drop_at, take_at}
use Rattle.terra_memory.specs.Numbers.{low_bytes, number_of, overwritten}
use Rattle.terra_memory.specs.Region.{Contents, end_address, first_address, is_inside, store_of}
use Rattle.terra_memory.proofs.Overwriting.{length-overwritten}
use Rattle.terra_words.specs.declared.words.Width.{Width}
use Rattle.terra_words.specs.Words.{wrapped}
use Rattle.terra_words.specs.Runs.{put_bytes}

-- a byte of a number, and those of the rest
pub low-turn : (count i value : ℕ) → i < count → low_bytes (count - i) value ≡ value % 256 ∷ low_bytes (count - (i + 1)) (value / 256)
unfolding low_bytes
low-turn count i value h =
    let next : count - i ≡ suc (count - (i + 1)) = omega arith in
    rw next refl

pub low-none : (count i value : ℕ) → count ≤ i → low_bytes (count - i) value ≡ []
unfolding low_bytes
low-none count i value h =
    let none : count - i ≡ 0 = omega arith in
    rw none refl

-- a byte before others
pub number-turn : (xs : List ℕ) (i : ℕ) → i < length xs → number_of (drop i xs) ≡ get_or xs i 0 + 256 * number_of (drop (suc i) xs)
unfolding number_of
number-turn xs i h = ap number_of (drop-cons xs i 0 h)

pub number-none : (xs : List ℕ) (i : ℕ) → length xs ≤ i → number_of (drop i xs) ≡ 0
unfolding number_of
number-none xs i h = ap number_of (drop_of_length-le xs h)

pub number-step : (m b : ℕ) → ((m % 2 ^ 64) * 256 % 2 ^ 64 + b) % 2 ^ 64 ≡ (b + 256 * m) % 2 ^ 64
number-step m b = omega arith

-- a width takes the lowest bits
pub wrapped_low : (w : Width) (n : ℕ) → w.bits ≤ 64 → wrapped w (n % 2 ^ 64) ≡ wrapped w n
unfolding wrapped
wrapped_low w n h =
    let split : 64 ≡ (64 - w.bits) + w.bits = omega arith in
    let same : n % 2 ^ 64 % 2 ^ w.bits ≡ n % 2 ^ w.bits = ap (λ (k : ℕ). n % 2 ^ k % 2 ^ w.bits) split ∙ mod-mod-pow n (64 - w.bits) w.bits in
    rw same refl

-- the region

pub put-none : (r : Contents) (a : ℕ) (bs : List ℕ) → length bs ≡ 0 → put_bytes r a bs ≡ Some r
unfolding put_bytes
put-none r a [] none = refl
put-none r a (b ∷ bs) none = absurd (omega (arith, none))

pub put-there : (r : Contents) (a : ℕ) (bs : List ℕ) → (length bs ≡ 0 → ⊥) → is_inside r a (length bs) ≡ true
    → put_bytes r a bs ≡ Some (record r { bytes = overwritten r.bytes (a - first_address) bs })
unfolding put_bytes
put-there r a [] some inside = absurd (some refl)
put-there r a (b ∷ bs) some inside = ap (λ (t : Bool). if t then Some (record r { bytes = overwritten r.bytes (a - first_address) (b ∷ bs) }) else None) inside

pub put-outside : (r : Contents) (a : ℕ) (bs : List ℕ) → (length bs ≡ 0 → ⊥) → is_inside r a (length bs) ≡ false → put_bytes r a bs ≡ None
unfolding put_bytes
put-outside r a [] some outside = absurd (some refl)
put-outside r a (b ∷ bs) some outside = ap (λ (t : Bool). if t then Some (record r { bytes = overwritten r.bytes (a - first_address) (b ∷ bs) }) else None) outside

-- one more byte behind those that were written
pub overwritten-more : (xs ys : List ℕ) (at b : ℕ) → at + length ys + 1 ≤ length xs
    → overwritten (overwritten xs at ys) (at + length ys) (b ∷ []) ≡ overwritten xs at (ys ++ b ∷ [])
overwritten-more xs ys at b h =
    let n = at + length ys in
    let front = take at xs ++ ys in
    let size : length front ≡ n = omega (arith, length-append (take at xs) ys, length-take-le at xs (omega arith)) in
    let zs = overwritten xs at ys in
    let before : take n zs ≡ front = take_at front (drop n xs) n size in
    let behind : drop (n + 1) zs ≡ drop (n + 1) xs =
    sym (drop-drop 1 n zs) ∙ ap (λ (l : List ℕ). drop 1 l) (drop_at front (drop n xs) n size) ∙ drop-drop 1 n xs in
    let last : n + 1 ≡ at + length (ys ++ b ∷ []) = omega (arith, length-append ys (b ∷ [])) in
    ap (λ (l : List ℕ). (l ++ b ∷ []) ++ drop (n + 1) zs) before
    ∙ ap (λ (l : List ℕ). (front ++ b ∷ []) ++ l) behind
    ∙ ap (λ (l : List ℕ). l ++ drop (n + 1) xs) (append_assoc (take at xs) ys (b ∷ []))
    ∙ ap (λ (k : ℕ). (take at xs ++ (ys ++ b ∷ [])) ++ drop k xs) last

inside-true : (r : Contents) (a n : ℕ) → is_inside r a n ≡ true → (first_address ≤ a) × (a + n ≤ end_address r)
inside-true r a n inside = grind (arith, leb_tells)

pub inside-both : (r : Contents) (a n : ℕ) → first_address ≤ a → a + n ≤ end_address r → is_inside r a n ≡ true
inside-both r a n low high = rw (le-leb first_address a low, le-leb (a + n) (end_address r) high) refl

-- a byte is stored behind those that were written
pub put-turn : (r now new : Contents) (a i b : ℕ) (bs : List ℕ) (res : Bool)
    → now ≡ record r { bytes = overwritten r.bytes (a - first_address) (take i bs) } → is_inside r a (length bs) ≡ true → i < length bs
    → b ≡ get_or bs i 0 → b < 256 → res ≡ is_inside now (a + i) 1 → OnTrue res (store_of now (a + i) 1 b ≡ Some new)
    → new ≡ record r { bytes = overwritten r.bytes (a - first_address) (take (i + 1) bs) }
unfolding store_of low_bytes
put-turn r now new a i b bs res so_far inside within byte small answer stored =
    let at = a - first_address in
    let bounds = inside-true r a (length bs) inside in
    let size : length (take i bs) ≡ i = length-take-le i bs (omega arith) in
    let kept : length now.bytes ≡ length r.bytes = ap (λ (c : Contents). length c.bytes) so_far ∙ length-overwritten r.bytes (take i bs) at (omega (arith, bounds, size)) in
    let here : is_inside now (a + i) 1 ≡ true = inside-both now (a + i) 1 (omega (arith, bounds)) (omega (arith, bounds, kept)) in
    let done : store_of now (a + i) 1 b ≡ Some new = OnTrue_at (answer ∙ here) stored in
    let one : b % 256 ≡ b = mod-eq_of_lt small in
    let place : a + i - first_address ≡ at + length (take i bs) = omega (arith, bounds, size) in
    let next : i + 1 ≡ suc i = omega arith in
    let whole = record now { bytes = overwritten now.bytes (a + i - first_address) (b % 256 ∷ []) } in
    let made : store_of now (a + i) 1 b ≡ Some whole = ap (λ (t : Bool). if t then Some whole else None) here in
    let after : whole ≡ new = ap (λ (o : Option Contents). unwrap_or o whole) (sym made ∙ done) in
    sym after
    ∙ ap (λ (c : Contents). record c { bytes = overwritten c.bytes (a + i - first_address) (b % 256 ∷ []) }) so_far
    ∙ ap (λ (k : ℕ). record r { bytes = overwritten (overwritten r.bytes at (take i bs)) (a + i - first_address) (k ∷ []) }) (one ∙ byte)
    ∙ ap (λ (k : ℕ). record r { bytes = overwritten (overwritten r.bytes at (take i bs)) k (get_or bs i 0 ∷ []) }) place
    ∙ ap (λ (l : List ℕ). record r { bytes = l }) (overwritten-more r.bytes (take i bs) at (get_or bs i 0) (omega (arith, bounds, size)))
    ∙ ap (λ (l : List ℕ). record r { bytes = overwritten r.bytes at l }) (sym (ap (λ (n : ℕ). take n bs) next ∙ take-suc bs i 0 within))

pub put-end : (r now : Contents) (a i : ℕ) (bs : List ℕ) → now ≡ record r { bytes = overwritten r.bytes (a - first_address) (take i bs) }
    → is_inside r a (length bs) ≡ true → (length bs ≡ 0 → ⊥) → length bs ≤ i → put_bytes r a bs ≡ Some now
put-end r now a i bs so_far inside some past =
    put-there r a bs some inside
    ∙ ap (λ (l : List ℕ). Some (record r { bytes = overwritten r.bytes (a - first_address) l })) (sym (take_all i bs past))
    ∙ ap (λ (c : Contents). Some c) (sym so_far)
