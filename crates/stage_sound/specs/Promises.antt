-- What staging promises of worlds.
use Rattle.std.specs.Prelude.{◌≡◌, ℕ, ◌≤◌, Some, slice_get}
use Rattle.tl_base.specs.declared.place.Place.{Place}
use Rattle.tl_base.specs.Layer.{State}
use Rattle.tl_base.specs.declared.limits.TheConstants.Limits.{MAX_MEMORY}
use Rattle.stage_form.specs.Holding.{LayersHold}
use Rattle.stage_form.specs.Stage.{Finished, staged}
use Rattle.tl_tree.specs.Code.{Items}
use Rattle.terra_term.specs.declared.store.Export.{Export}
use Rattle.terra_term.specs.Stores.{contents_of}
use Rattle.check_sound.specs.Sound.{IsSound}
use Rattle.check_sound.specs.Growing.{AreFine}
use Rattle.check_sound.specs.Layers.{ReachesReady}
use Rattle.spec_sound.specs.Sound.{ArePlaced}
use Rattle.stage_check.specs.declared.jobs.Asked.{Asked}
use Rattle.stage_check.specs.declared.jobs.JobEnd.{JobEnd}
use Rattle.stage_model.specs.declared.staging.End.{End}
use Rattle.stage_model.specs.declared.staging.End.TheVariants.{Spent}
use Rattle.stage_model.specs.declared.staging.Mode.{Mode}
use Rattle.stage_model.specs.Stage.{StagingState, stage}
use Rattle.stage_model.specs.Staging.{Ending, outcome}
use Rattle.stage_sound.specs.Jobs.{Begun, Left}
use Rattle.stage_sound.specs.Parts.{HasPart}

-- The law of questions: what is asked for in a sound world leaves one, over the nodes of a tree that have places of a text.
abbrev pub JobsKeepSound : Type 0
JobsKeepSound =
    (items : Items) → ArePlaced items → (n : ℕ) (question : Asked) (s : State StagingState) (end : JobEnd) (t : State StagingState) →
    Begun question s.world → staged (stage items) n question s ≡ Some (Finished end t) → Left question s.world end t.world

-- The same while a staging goes on: each layer that begins as its question may be asked asks so, and leaves what it should, if its
-- questions' layers do.
abbrev pub StagesHoldSound : Type 0
StagesHoldSound = (items : Items) → ArePlaced items → LayersHold (stage items) Begun Left

-- a staging for which there were units
abbrev pub IsWhole : End → Type 0
IsWhole Spent = ⊥
IsWhole end = Unit {0}

-- The law of stagings: a source's staging for which there were units ends in a sound world, which has the memory that the program was
-- given, and whose exports are fine; and each export, and all that it reaches, can be called there, and passes the test of typed terms; so
-- does all that can be called in a store with these functions alone.
pub record EndsSound (bytes : ℕ) (out : Ending) : Type 0 where
  pub sound : IsSound out.left.world.typing.stage
  pub memory : out.left.world.typing.stage.memory ≡ bytes
  pub fine : AreFine out.left.world.typing.stage
  pub exports : (i : ℕ) (e : Export) → slice_get out.left.world.typing.stage.exports.list i ≡ Some e →
      ReachesReady out.left.world.typing.stage e.function
  pub part : HasPart (contents_of out.left.world.typing.stage.store) out.left.world.typing.stage.exports.list

abbrev pub StagingsEndSound : Type 0
StagingsEndSound =
    (items : Items) → ArePlaced items → (place : Place) (mode : Mode) (n units memory : ℕ) (out : Ending) →
    memory ≤ MAX_MEMORY → outcome items place mode n units memory ≡ Some out → IsWhole out.end → EndsSound memory out
