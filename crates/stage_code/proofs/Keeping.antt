-- What the specialisation of Terra code keeps is what each turn of the stage keeps.
use Rattle.std.proofs.Common.{◌≡◌, sym, subst}
use Rattle.lua_table.specs.Keeping.{IsFront}
use Rattle.lua_table.proofs.Keeping as heaps
use Rattle.exotype.specs.World.{StageState}
use Rattle.terra_lib.specs.Keeping.{KeepsExports}
use Rattle.spec_machine.specs.Keeping.{KeepsStage}
use Rattle.stage_library.specs.Keeping.{KeepsStaging}
use Rattle.terra_lib.proofs.Kept.{exports_stay}
use Rattle.stage_library.proofs.Keeping.{types_front}

pub keeps_spec : (old new : StageState) → KeepsStage old new → KeepsStaging old new
keeps_spec old new k = record {
  heap = k.heap;
  functions = k.store.functions;
  terms = k.store.terms;
  types = types_front old.store.types new.store.types k.store.types;
  symbols = k.store.symbols;
  quotes = k.store.quotes;
  constants = subst (IsFront old.store.constants) (sym k.store.constants) (heaps.front_self old.store.constants);
  statics = k.store.statics;
  structs = k.structs;
  exports = subst (KeepsExports old.exports) (sym k.exports) (exports_stay old.exports);
  memory = k.memory;
}
