-- What each call keeps of the world.
use Rattle.std.specs.Prelude.{◌≡◌}
use Rattle.lua_table.specs.Keeping.{IsFront, KeepsHeap}
use Rattle.terra_types.specs.Keeping.{KeepsTypes}
use Rattle.exotype.specs.World.{StageState}
use Rattle.terra_lib.specs.Keeping.{KeepsExports}

-- As the other functions of Terra's library keep it; and statics and globals keep their places, since new ones come last. So a function
-- stays as it is, with its term: nothing is typed or refused between a call and its question.
pub record KeepsAsked (old new : StageState) : Type 0 where
  pub heap : KeepsHeap old.heap new.heap
  pub store : new.store ≡ record old.store {
    types = new.store.types;
    symbols = new.store.symbols;
    globals = new.store.globals;
    constants = new.store.constants;
    statics = new.store.statics;
  }
  pub types : KeepsTypes old.store.types new.store.types
  pub symbols : IsFront old.store.symbols new.store.symbols
  pub globals : IsFront old.store.globals new.store.globals
  pub constants : IsFront old.store.constants new.store.constants
  pub statics : IsFront old.store.statics new.store.statics
  pub structs : IsFront old.kept.structs new.kept.structs
  pub properties : new.kept.properties ≡ old.kept.properties
  pub exports : KeepsExports old.exports new.exports
  pub memory : new.memory ≡ old.memory
