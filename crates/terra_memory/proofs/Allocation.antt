-- The three answers to a request for memory.
use Rattle.std.proofs.Common.{◌≡◌, ℕ, ◌+◌, ◌%◌, ◌<◌, ◌≤◌, true, false, ℤ, pos, negsuc, nat_abs, int_lt, refl, sym, subst, ◌∙◌, List, arith}
use Rattle.std.proofs.lemmas.Bool.{ltb-true, le-leb, lt-leb, false≢true}
use Rattle.terra_memory.specs.Region.{Contents, aligned, heap_limit, alloc_of}

-- the first multiple of 16 at or after an address, as a number that is found
pub aligned-is : (address found : ℕ) → address ≤ found → found < address + 16 → found % 16 ≡ 0 → found ≡ aligned address
aligned-is address found low high multiple = omega arith

-- a negative count
pub alloc_of-negative : (r : Contents) (n : ℤ) → int_lt n (pos 0) ≡ true → alloc_of r n ≡ (0, r)
unfolding alloc_of
alloc_of-negative r (pos count) h =
    let none : count < 0 = ltb-true count 0 h in
    absurd (omega arith)
alloc_of-negative r (negsuc count) h = refl

-- a count with which the heap would enter the last quarter
pub alloc_of-refused : (r : Contents) (n : ℤ) → int_lt n (pos 0) ≡ false → heap_limit r < aligned r.heap + nat_abs n → alloc_of r n ≡ (0, r)
unfolding alloc_of
alloc_of-refused r (pos count) h above =
    let test = lt-leb (aligned r.heap + count) (heap_limit r) above in
    rw test refl
alloc_of-refused r (negsuc count) h above = absurd (false≢true (sym h))

-- a count for which there is room
pub alloc_of-given : (r : Contents) (n : ℤ) → int_lt n (pos 0) ≡ false → aligned r.heap + nat_abs n ≤ heap_limit r
    → alloc_of r n ≡ (aligned r.heap, record r { heap = aligned r.heap + nat_abs n })
unfolding alloc_of
alloc_of-given r (pos count) h room =
    let test = le-leb (aligned r.heap + count) (heap_limit r) room in
    rw test refl
alloc_of-given r (negsuc count) h room = absurd (false≢true (sym h))

-- the same answers, by the numbers that code finds
pub found_negative : (r : Contents) (n count : ℤ) → count ≡ n → int_lt count (pos 0) ≡ true → alloc_of r n ≡ (0, r)
found_negative r n count e h = subst (λ (k : ℤ). alloc_of r k ≡ (0, r)) e (alloc_of-negative r count h)

pub found_refused : (r : Contents) (n count : ℤ) (start : ℕ) → count ≡ n → int_lt count (pos 0) ≡ false → start ≡ aligned r.heap
    → heap_limit r < start + nat_abs count → alloc_of r n ≡ (0, r)
found_refused r n count start e h s above =
    let past : heap_limit r < aligned r.heap + nat_abs count = subst (λ (k : ℕ). heap_limit r < k + nat_abs count) s above in
    subst (λ (k : ℤ). alloc_of r k ≡ (0, r)) e (alloc_of-refused r count h past)

pub found_given : (r : Contents) (n count : ℤ) (start : ℕ) (bytes : List ℕ) → count ≡ n → int_lt count (pos 0) ≡ false → start ≡ aligned r.heap
    → bytes ≡ r.bytes → start + nat_abs count ≤ heap_limit r
    → alloc_of r n ≡ (start, record { bytes = bytes; heap = start + nat_abs count })
found_given r n count start bytes e h s b room =
    let within : aligned r.heap + nat_abs count ≤ heap_limit r = subst (λ (k : ℕ). k + nat_abs count ≤ heap_limit r) s room in
    let whole : alloc_of r n ≡ (aligned r.heap, record { bytes = r.bytes; heap = aligned r.heap + nat_abs count }) =
    subst (λ (k : ℤ). alloc_of r k ≡ (aligned r.heap, record { bytes = r.bytes; heap = aligned r.heap + nat_abs count })) e (alloc_of-given r count h within) in
    whole ∙ rw (s, b) refl
