-- Numbers in a file, and the rows of a table of fields: where a field stands, its bytes, and what it may hold.
use Rattle.std.specs.Prelude.{ℕ, ◌+◌, ◌-◌, ◌%◌, Bool, true, ◌&&◌, ◌==◌, nat_le, if◌then◌else◌, List, [], ◌∷◌, length, slice_range, Option, Some}
use Rattle.std.specs.Prelude.{None}
use Rattle.std.specs.Str.{bytes_eq}
use Rattle.byteorder.specs.Endian.{little_from}
use Rattle.elf_image.specs.declared.rule.Rule.{Rule}
use Rattle.elf_image.specs.declared.rule.Rule.TheVariants.{Any, Is, Between, Multiple, Beyond}
use Rattle.elf_image.specs.declared.error.ImageError.{ImageError}
use Rattle.elf_image.specs.declared.error.ImageError.TheVariants.{BadField}

-- the number in the `size` bytes from offset `at`, the lowest byte first
unfoldable pub number_at : ℕ → List ℕ → ℕ → ℕ
number_at size bytes at = little_from at size bytes

abbrev pub u8_at : List ℕ → ℕ → ℕ
u8_at bytes at = number_at 1 bytes at

abbrev pub u16_at : List ℕ → ℕ → ℕ
u16_at bytes at = number_at 2 bytes at

abbrev pub u32_at : List ℕ → ℕ → ℕ
u32_at bytes at = number_at 4 bytes at

abbrev pub u64_at : List ℕ → ℕ → ℕ
u64_at bytes at = number_at 8 bytes at

-- A `Rule` says what a field may hold: every number; this number alone; the numbers from the first to the second; the multiples
-- of the first from the second to the third; the first number and a multiple of the second up to the third.
abbrev pub allows : Rule → ℕ → Bool
allows Any n = true
allows (Is value) n = n == value
allows (Between low high) n = nat_le low n && nat_le n high
allows (Multiple step low high) n = (n % step == 0) && (nat_le low n && nat_le n high)
allows (Beyond base step most) n = nat_le base n && (((n - base) % step == 0) && nat_le (n - base) most)

-- a row of a table of fields: the offset from the table's begin, the bytes, and what may stand there
pub record Field : Type 0 where
  pub offset : ℕ
  pub size : ℕ
  pub rule : Rule

abbrev pub field : ℕ → ℕ → Rule → Field
field offset size rule = record { offset = offset; size = size; rule = rule }

-- the first fault, or else the second
abbrev pub or_else : Option ImageError → Option ImageError → Option ImageError
or_else (Some error) other = Some error
or_else None other = other

-- the fault of the first test that fails
abbrev pub first_of : List (Option ImageError) → Option ImageError
first_of [] = None
first_of (test ∷ tests) = or_else test (first_of tests)

-- the fault of a test that answers whether it passed
abbrev pub unless : Bool → ImageError → Option ImageError
unless passed error = if passed then None else Some error

-- a field of the table at `base` that holds what it may not: its offset in the file
unfoldable pub bad_field : List ℕ → ℕ → Field → Option ImageError
bad_field bytes base row = unless (allows row.rule (number_at row.size bytes (base + row.offset))) (BadField (base + row.offset))

-- the first such field of the table
abbrev pub bad_fields : List ℕ → ℕ → List Field → Option ImageError
bad_fields bytes base [] = None
bad_fields bytes base (row ∷ rows) = or_else (bad_field bytes base row) (bad_fields bytes base rows)

-- a field of bytes at `base + offset` that are not these
unfoldable pub bad_bytes : List ℕ → ℕ → ℕ → List ℕ → Option ImageError
bad_bytes bytes base offset wanted =
    unless (bytes_eq (slice_range bytes (base + offset) (base + offset + length wanted)) wanted) (BadField (base + offset))
