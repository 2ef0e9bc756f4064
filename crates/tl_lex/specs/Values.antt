-- The value of a literal: its bytes after escapes and line ends.
use Rattle.std.specs.Prelude.{ℕ, List, [], ◌∷◌, if◌then◌else◌, ◌==◌, Option, Some, None}
use Rattle.tl_lex.specs.LineEnds.{with_line_feeds}
use Rattle.tl_lex.specs.Brackets.{bracket_level, inside_at}
use Rattle.tl_lex.specs.Quoted.{characters, values}

-- the bytes without an LF with which they begin
abbrev pub without_first_line_feed : List ℕ → List ℕ
without_first_line_feed [] = []
without_first_line_feed (x ∷ rest) = if x == 10 then rest else (x ∷ rest)

-- between long brackets: each line end is LF, and a first one is dropped
abbrev pub long_value : List ℕ → List ℕ
long_value inside = without_first_line_feed (with_line_feeds inside)

abbrev pub value_inside : Option (List ℕ) → List ℕ
value_inside None = []
value_inside (Some inside) = long_value inside

-- The value of the literal that these bytes begin with.
abbrev pub value_by : Option ℕ → List ℕ → List ℕ
value_by None [] = []
value_by None (quote ∷ rest) = values (characters quote rest)
value_by (Some level) bytes = value_inside (inside_at level bytes)

unfoldable pub value_of : List ℕ → List ℕ
value_of literal = value_by (bracket_level 91 literal) literal
