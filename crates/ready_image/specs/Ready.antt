-- What compiling asks of a store, but for the names and the signatures of exports.
use Rattle.std.specs.Prelude.{◌≡◌, ℕ, ◌/◌, ◌≤◌, List, length, Some, slice_get}
use Rattle.terra_term.specs.declared.store.Export.{Export}
use Rattle.terra_term.specs.Stores.{Contents, contents_of, static_bytes}
use Rattle.exotype.specs.World.{StageState}
use Rattle.check_sound.specs.Exports.{AreCounted}
use Rattle.check_sound.specs.Layers.{ReachesReady}
use Rattle.check_sound.specs.Sound.{IsSound}
use Rattle.back_end.specs.Ready.{AreFew, AreReady, HasTypedPart}

-- All that the exports reach can be compiled, is not too much, and stands in a store in which whatever can be called passes the test of
-- typed terms; and the statics leave half of the memory.
pub record CanBeCompiled (store : Contents) (exports : List Export) (memory : ℕ) : Type 0 where
  pub typed : HasTypedPart store exports
  pub half : length (static_bytes store) ≤ memory / 2
  pub ready : AreReady store exports
  pub few : AreFew store exports

-- The law: so it is in a sound world of exports whose functions were checked, and which were counted, whether they are the exports of that
-- world or not.
abbrev pub ReadyExportsCompile : Type 0
ReadyExportsCompile =
    (w : StageState) → IsSound w → (exports : List Export) (functions : List ℕ) (nodes : ℕ) →
    ((i : ℕ) (e : Export) → slice_get exports i ≡ Some e → ReachesReady w e.function) → AreCounted w exports functions nodes →
    CanBeCompiled (contents_of w.store) exports w.memory
