-- Loads, stores and the size of a region, over plain variables.
use Rattle.std.proofs.Common.{◌≡◌, ℕ, ◌+◌, ◌-◌, ◌*◌, ◌%◌, ◌^◌, ◌≤◌, ◌⊎◌, inl, inr, true, false, nat_le, ◌&&◌, List, length, Option, Some}
use Rattle.std.proofs.Common.{None, IfSome, refl, sym, ap, ◌∙◌, arith}
use Rattle.std.proofs.lemmas.Bool.{cond_both, and_parts, and_from, leb-true, le-leb, cases_Bool}
use Rattle.terra_memory.specs.Numbers.{number_of, low_bytes, part, overwritten}
use Rattle.terra_memory.specs.Region.{first_address, Contents, end_address, is_inside, load_of, store_of}
use Rattle.terra_memory.proofs.Bytes.{length-low_bytes, number_of-low_bytes}
use Rattle.terra_memory.proofs.Overwriting.{length-overwritten, part-overwritten, part-overwritten_before, part-overwritten_behind}

-- the ends of a range that is inside
pub inside_parts : (r : Contents) (address size : ℕ) → is_inside r address size ≡ true → (first_address ≤ address) × (address + size ≤ end_address r)
inside_parts r address size h =
    let parts = and_parts (nat_le first_address address) (nat_le (address + size) (end_address r)) h in
    (leb-true first_address address parts.0, leb-true (address + size) (end_address r) parts.1)

pub inside_from : (r : Contents) (address size : ℕ) → first_address ≤ address → address + size ≤ end_address r → is_inside r address size ≡ true
inside_from r address size low high =
    and_from (nat_le first_address address) (nat_le (address + size) (end_address r)) (le-leb first_address address low) (le-leb (address + size) (end_address r) high)

-- the region after a store that is inside
abbrev pub stored : Contents → (address size value : ℕ) → Contents
stored r address size value = record r { bytes = overwritten r.bytes (address - first_address) (low_bytes size value) }

pub store_of-inside : (r : Contents) (address size value : ℕ) → is_inside r address size ≡ true
    → store_of r address size value ≡ Some (stored r address size value)
unfolding store_of
store_of-inside r address size value h = rw h refl

pub store_of-outside : (r : Contents) (address size value : ℕ) → is_inside r address size ≡ false → store_of r address size value ≡ None
unfolding store_of
store_of-outside r address size value h = rw h refl

pub load_of-inside : (r : Contents) (address size : ℕ) → is_inside r address size ≡ true
    → load_of r address size ≡ Some (number_of (part r.bytes (address - first_address) size))
unfolding load_of
load_of-inside r address size h = rw h refl

pub load_of-outside : (r : Contents) (address size : ℕ) → is_inside r address size ≡ false → load_of r address size ≡ None
unfolding load_of
load_of-outside r address size h = rw h refl

-- what holds of the region after each store that is inside
pub after_store : (r : Contents) (address size value : ℕ) (P : Contents → Type 0) → (is_inside r address size ≡ true → P (stored r address size value))
    → IfSome (store_of r address size value) P
unfolding store_of
after_store r address size value P h =
    cond_both (is_inside r address size) (Some (stored r address size value)) None (λ (o : Option Contents). IfSome o P) h (λ _. tt)

pub length-stored : (r : Contents) (address size value : ℕ) → is_inside r address size ≡ true
    → length (stored r address size value).bytes ≡ length r.bytes
length-stored r address size value h =
    let parts = inside_parts r address size h in
    let low : first_address ≤ address = parts.0 in
    let high : address + size ≤ end_address r = parts.1 in
    let count : length (low_bytes size value) ≡ size = length-low_bytes size value in
    length-overwritten r.bytes (low_bytes size value) (address - first_address) (omega arith)

-- a store moves no end of the region
pub is_inside-stored : (r : Contents) (address size value other count : ℕ) → is_inside r address size ≡ true
    → is_inside (stored r address size value) other count ≡ is_inside r other count
is_inside-stored r address size value other count h =
    ap (λ (n : ℕ). nat_le first_address other && nat_le (other + count) (first_address + n)) (length-stored r address size value h)

-- a load of what was just stored
pub load_of-stored : (r : Contents) (address size value : ℕ) → is_inside r address size ≡ true
    → load_of (stored r address size value) address size ≡ Some (value % 2 ^ (8 * size))
load_of-stored r address size value h =
    let after = stored r address size value in
    let at = address - first_address in
    let parts = inside_parts r address size h in
    let low : first_address ≤ address = parts.0 in
    let high : address + size ≤ end_address r = parts.1 in
    let count : length (low_bytes size value) ≡ size = length-low_bytes size value in
    let within : at ≤ length r.bytes = omega arith in
    let read : part after.bytes at size ≡ low_bytes size value =
    ap (λ (n : ℕ). part after.bytes at n) (sym count) ∙ part-overwritten r.bytes (low_bytes size value) at within in
    load_of-inside after address size (is_inside-stored r address size value address size h ∙ h)
    ∙ ap (λ (bytes : List ℕ). Some (number_of bytes)) read
    ∙ ap (λ (n : ℕ). Some n) (number_of-low_bytes size value)

-- the bytes apart from what was just stored
pub part-stored : (r : Contents) (address size value other count : ℕ) → is_inside r address size ≡ true → first_address ≤ other
    → (other + count ≤ address) ⊎ (address + size ≤ other)
    → part (stored r address size value).bytes (other - first_address) count ≡ part r.bytes (other - first_address) count
part-stored r address size value other count h least apart =
    let at = address - first_address in
    let ys = low_bytes size value in
    let parts = inside_parts r address size h in
    let low : first_address ≤ address = parts.0 in
    let high : address + size ≤ end_address r = parts.1 in
    let written : length ys ≡ size = length-low_bytes size value in
    let within : at ≤ length r.bytes = omega arith in
    elim apart [
      | inl before ↦ part-overwritten_before r.bytes ys at (other - first_address) count within (omega arith)
      | inr behind ↦ part-overwritten_behind r.bytes ys at (other - first_address) count within (omega arith)
    ]

-- a load apart from what was just stored
pub load_of-stored_apart : (r : Contents) (address size value other count : ℕ) → is_inside r address size ≡ true
    → (other + count ≤ address) ⊎ (address + size ≤ other)
    → load_of (stored r address size value) other count ≡ load_of r other count
load_of-stored_apart r address size value other count h apart =
    let after = stored r address size value in
    let moved = is_inside-stored r address size value other count h in
    elim (cases_Bool (is_inside r other count)) [
      | inl inside ↦
          let same = part-stored r address size value other count h (inside_parts r other count inside).0 apart in
          load_of-inside after other count (moved ∙ inside) ∙ ap (λ (bytes : List ℕ). Some (number_of bytes)) same ∙ sym (load_of-inside r other count inside)
      | inr outside ↦ load_of-outside after other count (moved ∙ outside) ∙ sym (load_of-outside r other count outside)
    ]
