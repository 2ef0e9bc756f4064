-- What later worlds keep of earlier ones.
use Rattle.std.specs.Prelude.{◌≡◌}
use Rattle.lua_table.specs.Keeping.{IsFront}
use Rattle.terra_term.specs.Held.{Held}
use Rattle.terra_term.specs.Keeping.{AllStay}
use Rattle.exotype.specs.World.{StageState}
use Rattle.exotype.specs.declared.property.Property.{Property}
use Rattle.exotype.specs.Properties.{known_of}
use Rattle.check_model.specs.Keeping.{StaysKnown}
use Rattle.check_model.specs.Typing.{TypingState}

-- lists of the store only grow, and what is known of a function stays
pub record KeepsStore (old new : Held) : Type 0 where
  pub functions : AllStay old new
  pub types : IsFront old.types new.types
  pub terms : IsFront old.terms new.terms
  pub typed : IsFront old.typed new.typed
  pub statics : IsFront old.statics new.statics
  pub symbols : new.symbols ≡ old.symbols
  pub quotes : IsFront old.quotes new.quotes
  pub names : new.names ≡ old.names
  pub constants : new.constants ≡ old.constants
  pub globals : new.globals ≡ old.globals

-- what was answered of a property stays, and nothing else changes but the variables in scope
pub record KeepsStage (old new : StageState) : Type 0 where
  pub heap : new.heap ≡ old.heap
  pub store : KeepsStore old.store new.store
  pub structs : new.kept.structs ≡ old.kept.structs
  pub known : (p : Property) → StaysKnown (known_of old.kept p) (known_of new.kept p)
  pub exports : new.exports ≡ old.exports
  pub memory : new.memory ≡ old.memory

abbrev pub KeepsTyping : TypingState → TypingState → Type 0
KeepsTyping old new = KeepsStage old.stage new.stage
