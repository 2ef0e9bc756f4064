-- What each turn of a staging keeps of the world.
use Rattle.std.specs.Prelude.{◌≡◌}
use Rattle.lua_table.specs.Keeping.{IsFront, KeepsHeap}
use Rattle.terra_types.specs.Keeping.{KeepsTypes}
use Rattle.terra_term.specs.Keeping.{AllStay}
use Rattle.exotype.specs.World.{StageState}
use Rattle.terra_lib.specs.Keeping.{KeepsExports}

-- The heap keeps what a heap keeps. A function that is defined stays so, with its term, and terms stay as they are: a list of the store is
-- a front of what comes later, and a type keeps what it is. The memory of a run stays.
pub record KeepsStaging (old new : StageState) : Type 0 where
  pub heap : KeepsHeap old.heap new.heap
  pub functions : AllStay old.store new.store
  pub terms : IsFront old.store.terms new.store.terms
  pub types : KeepsTypes old.store.types new.store.types
  pub symbols : IsFront old.store.symbols new.store.symbols
  pub quotes : IsFront old.store.quotes new.store.quotes
  pub constants : IsFront old.store.constants new.store.constants
  pub statics : IsFront old.store.statics new.store.statics
  pub structs : IsFront old.kept.structs new.kept.structs
  pub exports : KeepsExports old.exports new.exports
  pub memory : new.memory ≡ old.memory
