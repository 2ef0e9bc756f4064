-- The text of an error with a place before it.
use Rattle.std.specs.Prelude.{ℕ, List, ◌++◌, codes}
use Rattle.std.specs.Fmt.{decimal}
use Rattle.tl_base.specs.declared.place.Place.{Place}

-- the line and the number of the token on it, before a text
abbrev pub placed : Place → List ℕ → List ℕ
placed place text = decimal place.line ++ codes ":" ++ decimal place.word ++ codes ": " ++ text
