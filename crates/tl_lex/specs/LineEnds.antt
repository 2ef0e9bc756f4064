-- Line ends: LF, CR, CR LF and LF CR are one line end each, and the longest is taken from the left.
use Rattle.std.specs.Prelude.{ℕ, Bool, List, [], ◌∷◌, if◌then◌else◌, ◌==◌, ◌&&◌, not, count_by}
use Rattle.tl_lex.specs.Bytes.{is_line_end}

-- CR LF or LF CR
abbrev pub is_pair : ℕ → ℕ → Bool
is_pair x y = is_line_end x && (is_line_end y && not (x == y))

-- a byte, where a line end of one byte becomes LF
abbrev pub unified : ℕ → ℕ
unified x = if is_line_end x then 10 else x

-- the bytes, where each line end becomes one LF
abbrev pub with_line_feeds : List ℕ → List ℕ
with_line_feeds [] = []
with_line_feeds (x ∷ []) = unified x ∷ []
with_line_feeds (x ∷ y ∷ rest) = if is_pair x y then 10 ∷ with_line_feeds rest else (unified x ∷ with_line_feeds (y ∷ rest))

-- how many line ends there are
abbrev pub line_ends : List ℕ → ℕ
line_ends bytes = count_by (λ x. x == 10) (with_line_feeds bytes)

-- how many bytes the line end has with which the bytes begin, or 0
abbrev pub line_end_len : List ℕ → ℕ
line_end_len [] = 0
line_end_len (x ∷ []) = if is_line_end x then 1 else 0
line_end_len (x ∷ y ∷ rest) = if is_pair x y then 2 else (if is_line_end x then 1 else 0)
