-- In which order the lines of checks come.
use Rattle.std.specs.Prelude.{◌≡◌, ℕ, suc, ◌≤◌, List, [], ◌∷◌, Some}
use Rattle.tl_base.specs.declared.place.Place.{Place}
use Rattle.tl_tree.specs.Code.{Items}
use Rattle.stage_model.specs.declared.staging.CheckLine.{CheckLine}
use Rattle.stage_model.specs.declared.staging.Mode.{Mode}
use Rattle.stage_model.specs.Staging.{Ending, outcome}

-- lines of functions with this number or a larger one, each larger than that of the line before
abbrev pub AreRising : ℕ → List CheckLine → Type 0
AreRising least [] = Unit {0}
AreRising least (line ∷ lines) = (least ≤ line.function.0) × AreRising (suc line.function.0) lines

-- The law: the lines of a staging's checks come in the order of their functions' numbers, and none comes twice.
abbrev pub ChecksAreInOrder : Type 0
ChecksAreInOrder =
    (items : Items) (place : Place) (mode : Mode) (n units memory : ℕ) (out : Ending) → outcome items place mode n units memory ≡ Some out →
    AreRising 0 out.lines
