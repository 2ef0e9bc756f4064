-- What later worlds keep of earlier ones.
use Rattle.std.specs.Prelude.{◌≡◌}
use Rattle.lua_table.specs.Keeping.{KeepsHeap, IsFront}
use Rattle.terra_term.specs.Held.{Held}
use Rattle.terra_term.specs.Keeping.{AllStay}
use Rattle.exotype.specs.World.{StageState}

-- lists of the store only grow, and what is known of a function stays
pub record KeepsStore (old new : Held) : Type 0 where
  pub functions : AllStay old new
  pub terms : IsFront old.terms new.terms
  pub types : IsFront old.types new.types
  pub symbols : IsFront old.symbols new.symbols
  pub quotes : IsFront old.quotes new.quotes
  pub statics : IsFront old.statics new.statics
  pub names : IsFront old.names new.names
  pub constants : new.constants ≡ old.constants
  pub globals : new.globals ≡ old.globals
  pub typed : new.typed ≡ old.typed

-- nothing else but the heap and the tables of structs changes
pub record KeepsStage (old new : StageState) : Type 0 where
  pub heap : KeepsHeap old.heap new.heap
  pub store : KeepsStore old.store new.store
  pub structs : IsFront old.kept.structs new.kept.structs
  pub properties : new.kept.properties ≡ old.kept.properties
  pub exports : new.exports ≡ old.exports
  pub memory : new.memory ≡ old.memory
