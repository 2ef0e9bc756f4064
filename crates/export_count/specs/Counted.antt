-- What counting exports comes to in a sound world.
use Rattle.std.specs.Prelude.{◌≡◌, ℕ, suc, ◌≤◌, [], ◌∷◌, ◌++◌, length, take, Some, None, slice_get}
use Rattle.tl_base.specs.declared.ids.FnId.{FnId}
use Rattle.terra_term.specs.declared.store.Export.{Export}
use Rattle.exotype.specs.World.{StageState}
use Rattle.check_library.specs.Counting.{CountedState, nothing, count_function, count_with}
use Rattle.check_sound.specs.Exports.{AreCounted}
use Rattle.check_sound.specs.Layers.{ReachesReady}
use Rattle.check_sound.specs.Sound.{IsSound}

-- The law: where the exports of a sound world were checked, and the first ones of them are counted, the others are counted behind them
-- and one more of a function that was checked, unless a function passes the most typed nodes that there may be.
abbrev pub CountsAreRight : Type 0
CountsAreRight =
    (w : StageState) → IsSound w → (c : CountedState) (f : FnId) → c.exports ≤ length w.exports.list →
    AreCounted w (take c.exports w.exports.list) c.functions c.nodes →
    ((i : ℕ) (e : Export) → slice_get w.exports.list i ≡ Some e → ReachesReady w e.function) → ReachesReady w f →
    (x : Export) → x.function ≡ f → (count_with w c f).passing ≡ None →
    ((count_with w c f).counted.exports ≡ suc (length w.exports.list)) ×
    AreCounted w (w.exports.list ++ x ∷ []) (count_with w c f).counted.functions (count_with w c f).counted.nodes

-- The law of one function: where it was checked in a sound world, and doesn't pass the most typed nodes with all that it reaches, it is
-- counted with these, as the only export.
abbrev pub OneCountsRight : Type 0
OneCountsRight =
    (w : StageState) → IsSound w → (f : FnId) → ReachesReady w f → (x : Export) → x.function ≡ f →
    (count_function w nothing f).passing ≡ None →
    AreCounted w (x ∷ []) (count_function w nothing f).counted.functions (count_function w nothing f).counted.nodes
