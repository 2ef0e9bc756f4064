-- What the calls find where a range is in the region, and where it isn't, as the definitions say it.
use Rattle.std.proofs.Common.{◌≡◌, ◌≢◌, ℕ, zero, suc, ◌+◌, ◌-◌, ◌<◌, true, false, List, length, take, drop, Some, None, refl, ◌∙◌, arith}
use Rattle.std.proofs.lemmas.Bool.{false_from_ne_true}
use Rattle.terra_memory.specs.Numbers.{number_of, low_bytes, part, overwritten}
use Rattle.terra_memory.specs.Region.{first_address, Contents, is_inside, load_of, store_of, range_of}
use Rattle.terra_memory.proofs.RegionLaws.{inside_parts, load_of-inside, store_of-inside}

-- the number that was read at an offset
pub load_of-read : (r : Contents) (address size at found : ℕ) (bytes : List ℕ) → is_inside r address size ≡ true → at ≡ address - first_address
    → bytes ≡ r.bytes → found ≡ number_of (part bytes at size) → load_of r address size ≡ Some found
load_of-read r address size at found bytes inside offset same read =
    load_of-inside r address size inside ∙ rw (read, same, offset) refl

-- the bytes that were written at an offset
pub store_of-written : (r : Contents) (address size value at heap : ℕ) (bytes new : List ℕ) → is_inside r address size ≡ true → at ≡ address - first_address
    → bytes ≡ r.bytes → heap ≡ r.heap → new ≡ overwritten bytes at (low_bytes size value)
    → store_of r address size value ≡ Some (record { bytes = new; heap = heap })
store_of-written r address size value at heap bytes new inside offset same kept written =
    store_of-inside r address size value inside ∙ rw (written, same, offset, kept) refl

pub range_of-inside : (r : Contents) (address count : ℕ) → count ≢ 0 → is_inside r address count ≡ true
    → range_of r address count ≡ Some (part r.bytes (address - first_address) count)
unfolding range_of
range_of-inside r address zero some inside = absurd (some refl)
range_of-inside r address (suc count) some inside = rw inside refl

pub range_of-outside : (r : Contents) (address count : ℕ) → count ≢ 0 → is_inside r address count ≡ false → range_of r address count ≡ None
unfolding range_of
range_of-outside r address zero some outside = absurd (some refl)
range_of-outside r address (suc count) some outside = rw outside refl

-- more bytes than there are
pub outside-too_many : (r : Contents) (address count : ℕ) → length r.bytes < count → is_inside r address count ≡ false
outside-too_many r address count many =
    false_from_ne_true (is_inside r address count) (λ inside. omega (arith, inside_parts r address count inside))

pub range_of-too_many : (r : Contents) (address count : ℕ) → count ≢ 0 → length r.bytes < count → range_of r address count ≡ None
range_of-too_many r address count some many = range_of-outside r address count some (outside-too_many r address count many)

-- the slice that was taken at an offset
pub range_of-read : (r : Contents) (address count at : ℕ) (bytes : List ℕ) → count ≢ 0 → is_inside r address count ≡ true → at ≡ address - first_address
    → bytes ≡ r.bytes → range_of r address count ≡ Some (take (at + count - at) (drop at bytes))
range_of-read r address count at bytes some inside offset same =
    let size : at + count - at ≡ count = omega arith in
    range_of-inside r address count some inside ∙ rw (size, same, offset) refl
