-- The runs of Terra functions in a staging, and the numbers of steps that images of them took.
use Rattle.std.specs.Prelude.{◌≡◌, ℕ, ◌≤◌, ◌%◌, List, [], ◌∷◌}
use Rattle.tl_base.specs.declared.limits.TheConstants.Limits.{MAX_MEMORY, MEMORY_UNIT, MIN_MEMORY}
use Rattle.elf_image.specs.declared.image.Image.{Image}
use Rattle.rv_machine.specs.Machine.{Ran}
use Rattle.rv_machine.specs.ImageRun.{EndsAfter}
use Rattle.terra_term.specs.Stores.{contents_of}
use Rattle.back_end.specs.Units.{AgreesCounted}
use Rattle.stage_model.specs.World.{TerraRun}

-- There is an image of the function that was called, with code that counts the units that there were, which agrees with what the function
-- means in the store of that time; and from its export, on the arguments, its run ends after so many steps and not after fewer.
pub record Took (memory : ℕ) (r : TerraRun) (steps : ℕ) : Type 0 where
  pub image : Image
  pub agrees : AgreesCounted (contents_of r.store) image memory r.function r.units
  pub ran : Ran
  pub ends : EndsAfter image agrees.symbol.address r.arguments steps ran

-- one number for each run, in their order
abbrev pub AreSteps : (memory : ℕ) → List TerraRun → List ℕ → Type 0
AreSteps memory [] [] = Unit {0}
AreSteps memory (r ∷ rs) (k ∷ ks) = Took memory r k × AreSteps memory rs ks
AreSteps memory _ _ = ⊥

-- the memory of a program: whole KiB from 64 KiB to 64 MiB
pub record IsMemory (bytes : ℕ) : Type 0 where
  pub least : MIN_MEMORY ≤ bytes
  pub most : bytes ≤ MAX_MEMORY
  pub whole : bytes % MEMORY_UNIT ≡ 0
