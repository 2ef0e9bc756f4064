-- What a call of an export means: which symbol a name is, the words of arguments, and the texts of results.
use Rattle.std.specs.Prelude.{ℕ, ◌-◌, ◌%◌, ◌^◌, ◌==◌, nat_le, if◌then◌else◌, List, [], ◌∷◌, Option, Some, None, codes}
use Rattle.std.specs.Str.{bytes_eq}
use Rattle.std.specs.Fmt.{decimal}
use Rattle.elf_image.specs.declared.image.Symbol.{Symbol}

-- the symbol of a name: the first that has it, and by the law that names differ the only one
abbrev pub symbol_named : List ℕ → List Symbol → Option Symbol
symbol_named name [] = None
symbol_named name (s ∷ ss) = if bytes_eq name s.name then Some s else symbol_named name ss

-- The type codes: 0 unit, which a result alone may have; 1 to 4 int8 to int64; 5 to 8 uint8 to uint64; 9 bool; 10 a pointer,
-- which has the range of uint64.

-- the greatest number of the type
abbrev pub greatest : ℕ → ℕ
greatest code =
    if code == 1 then 2 ^ 7 - 1
    else (if code == 2 then 2 ^ 15 - 1
    else (if code == 3 then 2 ^ 31 - 1
    else (if code == 4 then 2 ^ 63 - 1
    else (if code == 5 then 2 ^ 8 - 1
    else (if code == 6 then 2 ^ 16 - 1
    else (if code == 7 then 2 ^ 32 - 1
    else 2 ^ 64 - 1))))))

-- how many numbers the type has: 2 to the number of its bits
abbrev pub span : ℕ → ℕ
span code =
    if code == 1 then 2 ^ 8
    else (if code == 2 then 2 ^ 16
    else (if code == 3 then 2 ^ 32
    else (if code == 4 then 2 ^ 64
    else (if code == 5 then 2 ^ 8
    else (if code == 6 then 2 ^ 16
    else (if code == 7 then 2 ^ 32
    else 2 ^ 64))))))

-- how far below zero its least number lies: for a type without a sign, not at all
abbrev pub deepest : ℕ → ℕ
deepest code = span code - 1 - greatest code

-- the word of an argument, extended by the sign of its type: of a number from zero up, and of one from zero down by its size
abbrev pub word_above : ℕ → ℕ → Option ℕ
word_above code size = if nat_le size (greatest code) then Some size else None

abbrev pub word_below : ℕ → ℕ → Option ℕ
word_below code size = if nat_le size (deepest code) then Some ((2 ^ 64 - size) % 2 ^ 64) else None

-- the text of a number of the type, in two's complement: one above the greatest stands for a number below zero
abbrev pub number_text : ℕ → ℕ → List ℕ
number_text code low = if nat_le low (greatest code) then decimal low else 45 ∷ decimal (span code - low)

-- the text of a result: its type's low bits of the word. A bool is true exactly where bit 0 is 1
abbrev pub result_text : ℕ → ℕ → List ℕ
result_text code word =
    if code == 0 then codes "none"
    else (if code == 9 then (if word % 2 == 1 then codes "true" else codes "false")
    else number_text code (word % span code))
