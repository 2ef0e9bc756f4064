-- Places whose numbers have 32 bits.
use Rattle.std.specs.Prelude.{◌<◌, ◌^◌}
use Rattle.tl_base.specs.declared.place.Place.{Place}
use Rattle.tl_tree.specs.Item.{Item}
use Rattle.tl_tree.specs.Code.{place_of}
use Rattle.spec_sound.specs.Sound.{word_of}

abbrev pub IsSmall : Place → Type 0
IsSmall place = (place.line < 2 ^ 32) × (place.word < 2 ^ 32)

abbrev pub IsSmallItem : Item → Type 0
IsSmallItem x = IsSmall (place_of x) × IsSmall (word_of x)
