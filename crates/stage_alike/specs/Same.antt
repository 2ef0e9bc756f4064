-- Texts that bind alike stage alike: whatever names their locals have, and whatever units and memory are given, their stagings end alike, with
-- the same prints, errors, places, functions, terms, types and checks.
use Rattle.std.specs.Prelude.{◌≡◌, ℕ, List, []}
use Rattle.tl_tree.specs.Nodes.{lay}
use Rattle.tl_tree.specs.Tokens.{finish_of}
use Rattle.tl_tree.specs.Code.{Items}
use Rattle.tl_tree.specs.Binding.{Alike}
use Rattle.tl_alike.specs.Alike.{AreAlike}
use Rattle.tl_base.specs.declared.place.Place.{Place}
use Rattle.stage_model.specs.declared.staging.Mode.{Mode}
use Rattle.stage_model.specs.Staging.{outcome}

-- What the staging of a tree comes to is the same for one that is alike.
abbrev pub TreesStageAlike : Type 0
TreesStageAlike =
    (items other : Items) → AreAlike items other → (place : Place) (mode : Mode) (n units memory : ℕ)
    → outcome items place mode n units memory ≡ outcome other place mode n units memory

-- So is that of a text for one that binds alike.
abbrev pub TextsStageAlike : Type 0
TextsStageAlike =
    (a b : List ℕ) (alike : Alike a b) (mode : Mode) (n units memory : ℕ)
    → outcome (lay alike.tree []) (finish_of a) mode n units memory
    ≡ outcome (lay alike.other []) (finish_of b) mode n units memory
