-- Numbers in memory: bytes, the lowest first, and lists of bytes of which a part is read or written.
use Rattle.std.specs.Prelude.{ℕ, zero, suc, ◌+◌, ◌*◌, ◌/◌, ◌%◌, Bool, ◌||◌, ◌==◌, List, [], ◌∷◌, ◌++◌, length, take, drop}

-- an access has one, two, four or eight bytes
abbrev pub is_access_size : ℕ → Bool
is_access_size size = size == 1 || size == 2 || size == 4 || size == 8

-- the number that bytes make, the lowest byte first
unfoldable pub number_of : List ℕ → ℕ
number_of [] = 0
number_of (byte ∷ bytes) = byte + 256 * number_of bytes

-- the lowest `count` bytes of a number, the lowest byte first
unfoldable pub low_bytes : (count value : ℕ) → List ℕ
low_bytes zero value = []
low_bytes (suc count) value = value % 256 ∷ low_bytes count (value / 256)

-- `count` bytes of a list, from offset `at` on
abbrev pub part : (bytes : List ℕ) (at count : ℕ) → List ℕ
part bytes at count = take count (drop at bytes)

-- the list with other bytes in place of those from offset `at` on
abbrev pub overwritten : (bytes : List ℕ) (at : ℕ) (others : List ℕ) → List ℕ
overwritten bytes at others = take at bytes ++ others ++ drop (at + length others) bytes
