-- A source of any size, for measurements and tests: as many functions as are asked for, of four kinds in turn, functions that call them in
-- groups of a hundred, and `main`, which calls the groups one after the other.
use Rattle.std.specs.Prelude.{ℕ, zero, suc, ◌+◌, ◌-◌, ◌*◌, ◌%◌, ◌==◌, if◌then◌else◌, List, [], ◌∷◌, ◌++◌, min, codes, decimal}
use Rattle.std.specs.Int.{div_ceil}

abbrev pub Bytes : Type 0
Bytes = List ℕ

-- texts, one behind the other
abbrev pub together : List Bytes → Bytes
together [] = []
together (text ∷ texts) = text ++ together texts

-- the texts of all numbers below a bound, in order
abbrev pub each_below : ℕ → (ℕ → Bytes) → Bytes
each_below zero text = []
each_below (suc before) text = each_below before text ++ text before

-- the functions: the line of a number, with a digit as a constant

-- a struct's fields
abbrev pub field_line : ℕ → ℕ → Bytes
field_line number digit =
    together
    (codes "terra g" ∷ decimal number ∷ codes "(x : int64) : int64 var p : P p.a = x p.b = " ∷ decimal digit
    ∷ codes " return p.a + p.b end\n" ∷ [])

-- a quote that Lua code makes, in a splice
abbrev pub quote_line : ℕ → ℕ → Bytes
quote_line number digit =
    together
    (codes "function q" ∷ decimal number ∷ codes "(e) return `e * 3 + " ∷ decimal digit ∷ codes " end terra g" ∷ decimal number
    ∷ codes "(x : int64) : int64 return [q" ∷ decimal number ∷ codes "(x)] end\n" ∷ [])

-- a loop
abbrev pub loop_line : ℕ → ℕ → Bytes
loop_line number digit =
    together
    (codes "terra g" ∷ decimal number ∷ codes "(x : int64) : int64 var s = x for i = 0, " ∷ decimal digit
    ∷ codes " do s = s + i end return s end\n" ∷ [])

-- two functions that call each other
abbrev pub mutual_line : ℕ → ℕ → Bytes
mutual_line number digit =
    together
    (codes "terra h" ∷ decimal number ∷ codes " :: {int64} -> int64 terra g" ∷ decimal number
    ∷ codes "(x : int64) : int64 if x < 0 then return x end return h" ∷ decimal number ∷ codes "(x - 1) end terra h" ∷ decimal number
    ∷ codes "(x : int64) : int64 if x < " ∷ decimal digit ∷ codes " then return x end return g" ∷ decimal number
    ∷ codes "(x - " ∷ decimal digit ∷ codes " - 1) end\n" ∷ [])

-- the kinds in turn; the constant is the number's last digit
abbrev pub function_line : ℕ → Bytes
function_line number =
    if number % 4 == 1 then field_line number (number % 10)
    else if number % 4 == 2 then quote_line number (number % 10)
    else if number % 4 == 3 then loop_line number (number % 10)
    else mutual_line number (number % 10)

-- a call of a function
abbrev pub step_line : ℕ → Bytes
step_line number = together (codes "s = (s + g" ∷ decimal number ∷ codes "(s % 16)) % 1000000\n" ∷ [])

-- the calls of so many functions behind the first ones
abbrev pub step_lines : ℕ → ℕ → Bytes
step_lines first count = each_below count (λ before. step_line (first + (before + 1)))

-- the function that calls the functions of a group, behind so many groups: a hundred of them, or as many as are left
abbrev pub group_lines : ℕ → ℕ → Bytes
group_lines count before =
    together
    (codes "terra m" ∷ decimal (before + 1) ∷ codes "(s : int64) : int64\n"
    ∷ step_lines (100 * before) (min 100 (count - 100 * before)) ∷ codes "return s end\n" ∷ [])

-- a call of a group
abbrev pub group_call : ℕ → Bytes
group_call number = together (codes "s = m" ∷ decimal number ∷ codes "(s)\n" ∷ [])

abbrev pub function_lines : ℕ → Bytes
function_lines count = each_below count (λ before. function_line (before + 1))

abbrev pub all_groups : ℕ → ℕ → Bytes
all_groups count groups = each_below groups (group_lines count)

abbrev pub group_calls : ℕ → Bytes
group_calls groups = each_below groups (λ before. group_call (before + 1))

-- the promise: the text with so many numbered functions
abbrev pub generated : ℕ → Bytes
generated count =
    together
    (codes "struct P { a : int64; b : int64 }\n" ∷ function_lines count ∷ all_groups count (div_ceil count 100)
    ∷ codes "terra main() : int64\nvar s : int64 = 1\n" ∷ group_calls (div_ceil count 100)
    ∷ codes "return s end\nterralib.saveobj(\"gen\", {main = main})\n" ∷ [])
