-- The texts of types, which `print` and `tostring` ask for.
use Rattle.std.specs.Prelude.{ℕ, Bool, true, false, List, Option, Some, None, codes}
use Rattle.tl_base.specs.declared.ids.TypeId.{TypeId}
use Rattle.tl_base.specs.declared.place.Place.{Place}
use Rattle.tl_base.specs.Layer.{State, Meaning}
use Rattle.tl_base.specs.Text.{text_of}
use Rattle.lua_value.specs.declared.value.Value.TheVariants as values
use Rattle.lua_table.specs.Heap.{interned_id, with_text}
use Rattle.lua_table.specs.declared.call.LibTurn.{LibTurn}
use Rattle.lua_table.specs.declared.call.LibTurn.TheVariants as turns
use Rattle.lua_model.specs.declared.end.LuaEnd.{LuaEnd}
use Rattle.lua_model.specs.declared.question.LuaAnswer.{LuaAnswer}
use Rattle.lua_base.specs.Calls as base
use Rattle.terra_term.specs.TermText.{type_text}
use Rattle.exotype.specs.World.{StageState, with_heap}
use Rattle.terra_lib.specs.Answers.{Turned, gives_one, on_heap}
use Rattle.stage_library.specs.declared.tasks.Task.{Task}
use Rattle.stage_library.specs.Library.{turn_seen}

-- A text is given, for which the function pays that asked. One that is longer than texts can be is raised as that.
abbrev pub text_turned : State StageState → Place → Option (List ℕ) → Turned
text_turned s place (Some text) =
    gives_one s (with_heap s.world (with_text s.world.heap text)) (values.Text (interned_id s.world.heap text))
text_turned s place None = on_heap s (λ h. base.raised h place (codes "text too long"))

abbrev pub type_turned : State StageState → TypeId → Place → Turned
type_turned s t place = text_turned s place (text_of (type_text s.world.store.types t))

-- an answer that asks nothing
abbrev pub is_end : LibTurn → Bool
is_end (turns.Values vs) = true
is_end (turns.Raise v place) = true
is_end turns.Spent = true
is_end _ = false

-- what it means to be asked for the text of a type: it ends at once
abbrev pub type_asked : TypeId → Place → Meaning StageState Task LuaAnswer LuaEnd
type_asked t place first later = let left = type_turned first.state t place in turn_seen place left.turn left.left
