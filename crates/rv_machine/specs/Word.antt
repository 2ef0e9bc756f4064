-- Words of 64 bits and their signed values.
use Rattle.std.specs.Prelude.{ℕ, ◌+◌, ◌-◌, ◌%◌, ◌^◌, ℤ}
use Rattle.std.specs.Int.{w32, w64, cast_signed, cast_unsigned}

-- the low 64 bits of a number: arithmetic and addresses wrap at 2 ^ 64
unfoldable pub low : ℕ → ℕ
low x = x % 2 ^ 64

-- the difference of two words
unfoldable pub difference : ℕ → ℕ → ℕ
difference x y = low (x + (2 ^ 64 - y))

-- the signed number that a word stands for, by two's complement
abbrev pub signed : ℕ → ℤ
signed x = cast_signed w64 x

-- the signed number that the low 32 bits of a word stand for
abbrev pub signed_word : ℕ → ℤ
signed_word x = cast_signed w32 (x % 2 ^ 32)

-- the word that stands for a signed number
abbrev pub word : ℤ → ℕ
word z = cast_unsigned w64 z

-- the low 32 bits of a word, extended by their sign
abbrev pub extended_word : ℕ → ℕ
extended_word x = word (signed_word x)
