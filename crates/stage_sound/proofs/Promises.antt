-- The promises of staging, from the laws of the layers.
use Rattle.std.proofs.Common.{◌≡◌, ℕ, ◌≤◌, refl}
use Rattle.tl_base.specs.declared.limits.TheConstants.Limits.{MAX_MEMORY}
use Rattle.tl_tree.specs.Code.{Items}
use Rattle.terra_types.specs.Opening.{opening_types}
use Rattle.exotype.specs.World.{opening}
use Rattle.check_sound.specs.Sound.{IsSound}
use Rattle.check_sound.proofs.Beginning.{begins-sound}
use Rattle.check_sound.proofs.Lasting.{ready-stays}
use Rattle.check_sound.proofs.OfChecks.{checks-keep-sound}
use Rattle.check_sound.proofs.OfLayouts.{layouts-keep-sound}
use Rattle.check_sound.proofs.Whole.{keeps-sound}
use Rattle.spec_sound.specs.Sound.{ArePlaced}
use Rattle.spec_sound.proofs.Whole.{specialising-keeps}
use Rattle.library_sound.proofs.Writes.{heap-leaves}
use Rattle.library_sound.proofs.LibraryLayers.{library-sound, texts-sound}
use Rattle.library_sound.proofs.AskedCalls.{called-fine, chunk-fine, answer-fine}
use Rattle.stage_model.specs.Staging.{opened}
use Rattle.terra_lib.specs.Opening as library
use Rattle.stage_sound.specs.Promises.{JobsKeepSound, StagesHoldSound, StagingsEndSound}
use Rattle.stage_sound.proofs.Layers.{LayersKeep}
use Rattle.stage_sound.proofs.Whole.{layers-hold, question-leaves}
use Rattle.stage_sound.proofs.Outcomes.{outcome-sound}
use Rattle.stage_sound.proofs.Making.{have-parts}

layers-keep : (items : Items) → ArePlaced items → LayersKeep items
layers-keep items placed = record {
  heaps = heap-leaves;
  specialising = specialising-keeps items placed;
  library = library-sound;
  texts = texts-sound;
  asking_calls = λ s call sound. called-fine s sound call;
  asking_ends = λ s place sound. chunk-fine s sound place;
  asking_answers = λ begin w question next answer s place is before led fine sound leads fits.
      answer-fine begin w s before led sound leads question next answer place is fine fits;
  bodies = keeps-sound;
  checks = checks-keep-sound;
  layouts = layouts-keep-sound;
}

pub jobs-keep-sound : JobsKeepSound
jobs-keep-sound items placed n question s end t begin is =
    question-leaves items (layers-keep items placed) n question s end t begin is

pub stages_hold_sound : StagesHoldSound
stages_hold_sound items placed = layers-hold items (layers-keep items placed)

-- the world with which a source begins
pub opened-sound : (memory : ℕ) → memory ≤ MAX_MEMORY → IsSound (opened memory)
opened-sound memory small = (heap-leaves (opening opening_types memory) (begins-sound memory small) library.opening).0

pub stagings-end-sound : StagingsEndSound
stagings-end-sound items placed place mode n units memory out small is whole =
    outcome-sound items (layers-keep items placed) (opened memory) ready-stays have-parts refl place mode n units memory out
    (opened-sound memory small) refl is whole
