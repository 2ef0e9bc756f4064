-- Calls of the library as layers of a staging: they ask in sound worlds, and end in sound worlds.
use Rattle.std.proofs.Common.{◌≡◌, ℕ, false, List, [], ◌∷◌, ◌++◌, Option, Some, None, refl, ap}
use Rattle.std.specs.Prelude.{codes}
use Rattle.tl_base.specs.declared.ids.TypeId.{TypeId}
use Rattle.tl_base.specs.declared.place.Place.{Place}
use Rattle.tl_base.specs.Layer.{State, Given, Seen}
use Rattle.tl_base.specs.Text.{text_of}
use Rattle.lua_table.specs.declared.call.Back.{Back}
use Rattle.lua_table.specs.declared.call.LibCall.{LibCall}
use Rattle.lua_table.specs.declared.call.LibNext.{LibNext}
use Rattle.lua_table.specs.declared.call.LibTurn.{LibTurn}
use Rattle.lua_table.specs.declared.call.LibTurn.TheVariants as turns
use Rattle.lua_model.specs.declared.end.LuaEnd.{LuaEnd}
use Rattle.lua_model.specs.declared.question.LuaAnswer.{LuaAnswer}
use Rattle.lua_base.specs.Basic as basic
use Rattle.lua_base.specs.Calls as base
use Rattle.terra_term.specs.TermText.{type_text}
use Rattle.exotype.specs.World.{StageState}
use Rattle.terra_lib.specs.Answers.{on_heap}
use Rattle.terra_lib.specs.Calls as terra
use Rattle.stage_library.specs.declared.tasks.Task.{Task}
use Rattle.stage_library.specs.Library.{is_terra, lua_called, library_called, is_of_terra, back_of, library_backed, turn_seen}
use Rattle.stage_library.specs.Library.{library_seen, library}
use Rattle.stage_library.specs.Types.{text_turned, type_turned, type_asked}
use Rattle.check_sound.specs.Sound.{IsSound}
use Rattle.check_library.specs.Calls.{asks}
use Rattle.check_sound.specs.Layers.{IsBackFor, StaysSound, LayerKeepsSound}
use Rattle.library_sound.specs.Leaving.{Leaves}
use Rattle.library_sound.proofs.Writes.{leaves-twice, heap-leaves}
use Rattle.library_sound.proofs.Turns.{either-way, Good, heap-good}
use Rattle.library_sound.proofs.TerraCalls.{terra-called, terra-backed}

-- ---- what a call comes to

called-good : (s : State StageState) → IsSound s.world → (call : LibCall) → asks call.function ≡ false →
    Good s (library_called s call)
called-good s old call h =
    either-way (Good s) (is_terra call.function) (terra.called s call) (on_heap s (λ h. lua_called h call))
    (λ e. terra-called s old call h) (λ e. heap-good s old (λ h. lua_called h call))

backed-good : (s : State StageState) → IsSound s.world → (next : LibNext) (answer : Back) →
    Good s (library_backed s next answer)
backed-good s old next answer =
    either-way (Good s) (is_of_terra next) (terra.backed s next answer) (on_heap s (λ h. basic.backed h next answer))
    (λ e. terra-backed s old next answer) (λ e. heap-good s old (λ h. basic.backed h next answer))

text-good : (s : State StageState) → IsSound s.world → (place : Place) (text : Option (List ℕ)) →
    Good s (text_turned s place text)
text-good s old place (Some text) = heap-leaves s.world old _
text-good s old place None = heap-good s old (λ h. base.raised h place (codes "text too long"))

-- ---- what shows

turn-sound : (place : Place) (first : Given StageState LuaAnswer) (turn : LibTurn) (s : State StageState) →
    Leaves first.state.world s.world → StaysSound first (turn_seen place turn s)
turn-sound place first (turns.Values vs) s h = h
turn-sound place first (turns.Raise v at) s h = h
turn-sound place first turns.Spent s h = tt
turn-sound place first (turns.CallBack f vs next) s h = h.0
turn-sound place first (turns.TypeText t next) s h = h.0

-- each answer is back for what shows before it
abbrev AllBack : (List (Given StageState LuaAnswer) → Seen StageState Task LuaEnd) → List (Given StageState LuaAnswer) → Type 0
AllBack shows later =
    (before after : List (Given StageState LuaAnswer)) (next : Given StageState LuaAnswer) → later ≡ before ++ next ∷ after →
    IsBackFor (shows before) next

later-back : (shows : List (Given StageState LuaAnswer) → Seen StageState Task LuaEnd) (g : Given StageState LuaAnswer)
    (later : List (Given StageState LuaAnswer)) → AllBack shows (g ∷ later) → AllBack (λ before. shows (g ∷ before)) later
later-back shows g later back before after next e = back (g ∷ before) after next (ap (λ l. g ∷ l) e)

seen-sound : (place : Place) (first : Given StageState LuaAnswer) (later : List (Given StageState LuaAnswer))
    (turn : LibTurn) (s : State StageState) → Leaves first.state.world s.world →
    AllBack (λ before. library_seen place before turn s) later → StaysSound first (library_seen place later turn s)
seen-sound place first [] turn s h back = turn-sound place first turn s h
seen-sound place first (g ∷ later) (turns.CallBack f vs next) s h back =
    let answered = back [] later g refl in
    let left = library_backed g.state next (back_of g.answer) in
    let good = backed-good g.state answered.0 next (back_of g.answer) in
    seen-sound place first later left.turn left.left
    (leaves-twice first.state.world s.world left.left.world h
    (leaves-twice s.world g.state.world left.left.world answered good))
    (later-back (λ before. library_seen place before (turns.CallBack f vs next) s) g later back)
seen-sound place first (g ∷ later) (turns.TypeText t next) s h back =
    let answered = back [] later g refl in
    let left = library_backed g.state next (back_of g.answer) in
    let good = backed-good g.state answered.0 next (back_of g.answer) in
    seen-sound place first later left.turn left.left
    (leaves-twice first.state.world s.world left.left.world h
    (leaves-twice s.world g.state.world left.left.world answered good))
    (later-back (λ before. library_seen place before (turns.TypeText t next) s) g later back)
seen-sound place first (g ∷ later) (turns.Values vs) s h back = h
seen-sound place first (g ∷ later) (turns.Raise v at) s h back = h
seen-sound place first (g ∷ later) turns.Spent s h back = tt

-- ---- the layers

pub library-sound : (call : LibCall) → asks call.function ≡ false → LayerKeepsSound (library call)
library-sound call h first later old back =
    let left = library_called first.state call in
    seen-sound call.place first later left.turn left.left (called-good first.state old call h) back

pub texts-sound : (t : TypeId) (place : Place) → LayerKeepsSound (type_asked t place)
texts-sound t place first later old back =
    let left = type_turned first.state t place in
    turn-sound place first left.turn left.left (text-good first.state old place (text_of (type_text first.state.world.store.types t)))
