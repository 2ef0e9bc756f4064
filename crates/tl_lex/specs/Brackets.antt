-- Long brackets (Lua 5.1 manual, section 2.1): `[[`, `[=[` and so on, up to the first closing bracket of the same level.
use Rattle.std.specs.Prelude.{ℕ, suc, ◌+◌, Bool, false, List, [], ◌∷◌, take, drop, if◌then◌else◌, ◌==◌, ◌&&◌, Option, Some, None}
use Rattle.std.specs.Prelude.{option_map}
use Rattle.std.specs.List.{prefix_len}

abbrev pub begins_with : ℕ → List ℕ → Bool
begins_with c [] = false
begins_with c (x ∷ rest) = x == c

-- how many `=` the bytes begin with
abbrev pub equals_len : List ℕ → ℕ
equals_len bytes = prefix_len (λ x. x == 61) bytes

-- The level of the long bracket at the front, made of the byte c: c, so many `=`, and c again.
unfoldable pub bracket_level : ℕ → List ℕ → Option ℕ
bracket_level c [] = None
bracket_level c (x ∷ rest) = if (x == c) && begins_with c (drop (equals_len rest) rest) then Some (equals_len rest) else None

abbrev pub is_level : ℕ → Option ℕ → Bool
is_level level (Some n) = n == level
is_level level None = false

-- a closing bracket of this level is at the front
abbrev pub closes : ℕ → List ℕ → Bool
closes level bytes = is_level level (bracket_level 93 bytes)

-- how many bytes come before the first closing bracket of this level
unfoldable pub closing_place : ℕ → List ℕ → Option ℕ
closing_place level [] = None
closing_place level (x ∷ rest) = if closes level (x ∷ rest) then Some 0 else option_map suc (closing_place level rest)

-- A long text at the front, by its level: the bytes between its brackets, if it is closed.
abbrev pub inside_at : ℕ → List ℕ → Option (List ℕ)
inside_at level bytes = option_map (λ n. take n (drop (level + 2) bytes)) (closing_place level (drop (level + 2) bytes))
