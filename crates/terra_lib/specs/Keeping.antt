-- What each call of Terra's library keeps of the world.
use Rattle.std.specs.Prelude.{◌≡◌, IsTrue}
use Rattle.lua_table.specs.Keeping.{IsFront, KeepsHeap}
use Rattle.terra_types.specs.Keeping.{KeepsTypes}
use Rattle.exotype.specs.World.{ExportState, StageState}

-- exports only grow, and `saveobj` stays called
pub record KeepsExports (old new : ExportState) : Type 0 where
  pub list : IsFront old.list new.list
  pub saved : IsTrue old.saved → IsTrue new.saved

-- The heap keeps what a heap keeps. Of Terra's store, types, symbols and constants alone change: a type keeps what it is, and new ones, new
-- symbols and new constants come last. So a function stays as it is, with its term. The tables of structs are a front of what comes
-- later, and so are the exports; what is known of properties and the memory of a run stay.
pub record KeepsWorld (old new : StageState) : Type 0 where
  pub heap : KeepsHeap old.heap new.heap
  pub store : new.store ≡ record old.store { types = new.store.types; symbols = new.store.symbols; constants = new.store.constants }
  pub types : KeepsTypes old.store.types new.store.types
  pub symbols : IsFront old.store.symbols new.store.symbols
  pub constants : IsFront old.store.constants new.store.constants
  pub structs : IsFront old.kept.structs new.kept.structs
  pub properties : new.kept.properties ≡ old.kept.properties
  pub exports : KeepsExports old.exports new.exports
  pub memory : new.memory ≡ old.memory
