-- Places in a text.
use Rattle.std.specs.Prelude.{◌^◌, ◌&&◌, Bool, nat_lt}
use Rattle.tl_base.specs.declared.place.Place.{Place}

-- a place in a text: its line and its word have at most 32 bits
abbrev pub is_placed : Place → Bool
is_placed at = nat_lt at.line (2 ^ 32) && nat_lt at.word (2 ^ 32)
