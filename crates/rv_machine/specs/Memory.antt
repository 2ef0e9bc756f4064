-- Memory: where bytes lie, and what loads and stores of each width do. The region lies at 0x40000000 and private memory at
-- 2 ^ 32; both are read and written, misaligned too. Numbers lie in them as in Terra's memory, the lowest byte first.
use Rattle.std.specs.Prelude.{ℕ, ◌+◌, ◌-◌, ◌*◌, ◌≤◌, nat_lt, nat_le, if◌then◌else◌, List, Option, Some, None}
use Rattle.std.specs.Int.{w8, w16, w32, cast_signed}
use Rattle.tl_base.specs.declared.limits.TheConstants.{REGION_ADDRESS, PRIVATE_ADDRESS, MAX_PRIVATE, MAX_ENTRIES}
use Rattle.rv_isa.specs.declared.operation.LoadOp.{LoadOp}
use Rattle.rv_isa.specs.declared.operation.LoadOp.TheVariants.{Lb, Lh, Lw, Ld, Lbu, Lhu, Lwu}
use Rattle.rv_isa.specs.declared.operation.StoreOp.{StoreOp}
use Rattle.rv_isa.specs.declared.operation.StoreOp.TheVariants.{Sb, Sh, Sw, Sd}
use Rattle.rv_machine.specs.declared.memory.Place.{Place}
use Rattle.rv_machine.specs.declared.memory.Place.TheVariants.{Region, Private}
use Rattle.terra_memory.specs.Numbers.{number_of, part}
use Rattle.rv_machine.specs.Word.{word}

-- the most bytes of private memory: those of the entries, and the frames behind them
abbrev pub most_private : ℕ
most_private = MAX_PRIVATE + 16 * MAX_ENTRIES

-- where bytes at an address lie in an area of so many bytes that begins at `start`, if they lie wholly in it
unfoldable pub offset_in : (start size address width : ℕ) → Option ℕ
offset_in start size address width =
    if nat_lt address start then None
    else (if nat_le (address - start + width) size then Some (address - start) else None)

abbrev pub place_in_private : Option ℕ → Option Place
place_in_private None = None
place_in_private (Some at) = Some (Private at)

abbrev pub place_in : Option ℕ → Option ℕ → Option Place
place_in (Some at) private = Some (Region at)
place_in None private = place_in_private private

-- where bytes at an address lie, if they lie wholly in one of the two areas of these sizes
unfoldable pub place_of : (region private address width : ℕ) → Option Place
place_of region private address width =
    place_in (offset_in REGION_ADDRESS region address width) (offset_in PRIVATE_ADDRESS private address width)

-- the bytes at a place
abbrev pub bytes_at : (region private : List ℕ) → Place → ℕ → List ℕ
bytes_at region private (Region at) width = part region at width
bytes_at region private (Private at) width = part private at width

-- how many bytes a load reads and a store writes
abbrev pub load_width : LoadOp → ℕ
load_width Lb = 1
load_width Lh = 2
load_width Lw = 4
load_width Ld = 8
load_width Lbu = 1
load_width Lhu = 2
load_width Lwu = 4

abbrev pub store_width : StoreOp → ℕ
store_width Sb = 1
store_width Sh = 2
store_width Sw = 4
store_width Sd = 8

-- what a load makes of its bytes: LB, LH and LW extend them by their sign, the others by zeros
abbrev pub load_value : LoadOp → List ℕ → ℕ
load_value Lb bytes = word (cast_signed w8 (number_of bytes))
load_value Lh bytes = word (cast_signed w16 (number_of bytes))
load_value Lw bytes = word (cast_signed w32 (number_of bytes))
load_value Ld bytes = number_of bytes
load_value Lbu bytes = number_of bytes
load_value Lhu bytes = number_of bytes
load_value Lwu bytes = number_of bytes

-- so many bytes at a place lie within the areas of these sizes
abbrev pub FitsIn : (region private width : ℕ) → Place → Type 0
FitsIn region private width (Region at) = at + width ≤ region
FitsIn region private width (Private at) = at + width ≤ private
