-- What a layout keeps of the world.
use Rattle.std.specs.Prelude.{◌≡◌}
use Rattle.terra_types.specs.Keeping.{KeepsTypes}
use Rattle.terra_term.specs.Held.{with_types}
use Rattle.exotype.specs.World.{StageState}
use Rattle.exotype.specs.declared.property.Property.{Property}
use Rattle.exotype.specs.Properties.{known_of}
use Rattle.check_model.specs.Keeping.{StaysKnown}

-- types keep what they are and the layouts that are settled, what was answered of a property stays, and nothing else changes
pub record KeepsLayouts (old new : StageState) : Type 0 where
  pub types : KeepsTypes old.store.types new.store.types
  pub store : new.store ≡ with_types old.store new.store.types
  pub known : (p : Property) → StaysKnown (known_of old.kept p) (known_of new.kept p)
  pub structs : new.kept.structs ≡ old.kept.structs
  pub heap : new.heap ≡ old.heap
  pub exports : new.exports ≡ old.exports
  pub memory : new.memory ≡ old.memory
