-- What the layers of a staging keep that are calls of the library.
use Rattle.std.specs.Prelude.{◌≡◌, false}
use Rattle.tl_base.specs.declared.ids.TypeId.{TypeId}
use Rattle.tl_base.specs.declared.place.Place.{Place}
use Rattle.lua_table.specs.declared.call.LibCall.{LibCall}
use Rattle.stage_library.specs.Library.{library}
use Rattle.stage_library.specs.Types.{type_asked}
use Rattle.check_library.specs.Calls.{asks}
use Rattle.check_sound.specs.Layers.{LayerKeepsSound}

-- a call of a function, Lua's or Terra's, that needs no check and no layout
abbrev pub LibraryKeepsSound : Type 0
LibraryKeepsSound = (call : LibCall) → asks call.function ≡ false → LayerKeepsSound (library call)

-- the text of a type
abbrev pub TypeTextsKeepSound : Type 0
TypeTextsKeepSound = (t : TypeId) (place : Place) → LayerKeepsSound (type_asked t place)
