-- The memory of a running Terra program: one region of bytes from a fixed address, with a heap that goes up and never enters the
-- last quarter, which is the data stack's. All sizes are in bytes.
use Rattle.std.specs.Prelude.{ℕ, zero, suc, ◌+◌, ◌-◌, ◌*◌, ◌/◌, ◌%◌, ◌≡◌, ◌≤◌, Bool, ◌&&◌, nat_le, if◌then◌else◌, List, [], ◌++◌, length}
use Rattle.std.specs.Prelude.{replicate, Option, Some, None, ℤ, pos, negsuc}
use Rattle.tl_base.specs.declared.limits.TheConstants.Limits.{MIN_MEMORY, MAX_MEMORY, MEMORY_UNIT}
use Rattle.tl_base.specs.declared.limits.TheConstants.{REGION_ADDRESS}
use Rattle.terra_memory.specs.Numbers.{number_of, low_bytes, part, overwritten}

-- the address of the region's first byte
abbrev pub first_address : ℕ
first_address = REGION_ADDRESS

-- A region: its bytes, that of the first address first, and the address of the heap's end.
pub record Contents : Type 0 where
  pub bytes : List ℕ
  pub heap : ℕ

-- how large a region may be: a multiple of 1,024 from 65,536 to 67,108,864
abbrev pub IsMemorySize : ℕ → Type 0
IsMemorySize size = (size % MEMORY_UNIT ≡ 0) × (MIN_MEMORY ≤ size) × (size ≤ MAX_MEMORY)

-- the first address past the region
abbrev pub end_address : Contents → ℕ
end_address r = first_address + length r.bytes

-- the address at which the last quarter begins
abbrev pub heap_limit : Contents → ℕ
heap_limit r = end_address r - length r.bytes / 4

-- what every region keeps
pub record IsLawful (r : Contents) : Type 0 where
  pub sized : IsMemorySize (length r.bytes)
  pub begun : first_address ≤ r.heap
  pub limited : r.heap ≤ heap_limit r

-- the first multiple of 16 at or after an address
abbrev pub aligned : ℕ → ℕ
aligned address = (address + 15) / 16 * 16

-- a region as it begins: the statics, then zeros, and an empty heap behind the statics
abbrev pub fresh : (memory : ℕ) (statics : List ℕ) → Contents
fresh memory statics = record {
  bytes = statics ++ replicate (memory - length statics) 0;
  heap = aligned (first_address + length statics);
}

-- all bytes of a range that isn't empty lie in the region
abbrev pub is_inside : Contents → (address size : ℕ) → Bool
is_inside r address size = nat_le first_address address && nat_le (address + size) (end_address r)

-- the number that a load gives; none where a byte of its range is outside
unfoldable pub load_of : Contents → (address size : ℕ) → Option ℕ
load_of r address size =
    if is_inside r address size then Some (number_of (part r.bytes (address - first_address) size)) else None

-- the region after a store of the lowest bytes of a number; none where a byte of its range is outside
unfoldable pub store_of : Contents → (address size value : ℕ) → Option Contents
store_of r address size value =
    if is_inside r address size
    then Some (record r { bytes = overwritten r.bytes (address - first_address) (low_bytes size value) })
    else None

-- the bytes of a range; none where a byte of it is outside. A range of no bytes has none outside, wherever it is.
unfoldable pub range_of : Contents → (address count : ℕ) → Option (List ℕ)
range_of r address zero = Some []
range_of r address (suc count) =
    if is_inside r address (suc count) then Some (part r.bytes (address - first_address) (suc count)) else None

-- what a request of so many bytes gives, an address or else 0, and the region afterwards
unfoldable pub alloc_of : Contents → ℤ → ℕ × Contents
alloc_of r (negsuc _) = (0, r)
alloc_of r (pos count) =
    let start = aligned r.heap in
    if nat_le (start + count) (heap_limit r) then (start, record r { heap = start + count }) else (0, r)
