-- What each layer keeps is what each turn of the stage keeps.
use Rattle.std.proofs.Common.{◌≡◌, sym, subst}
use Rattle.std.specs.Prelude.{Result, OnOk}
use Rattle.std.proofs.lemmas.Result.{on_ok_weaker}
use Rattle.lua_table.specs.LuaState.{LuaState}
use Rattle.lua_table.specs.Keeping.{IsFront, KeepsHeap}
use Rattle.lua_table.proofs.Keeping as heaps
use Rattle.terra_term.specs.Held.{Held, state_of}
use Rattle.terra_term.specs.Keeping.{AllStay}
use Rattle.terra_term.proofs.Staying.{stays-same}
use Rattle.exotype.specs.World.{StageState, ExportState}
use Rattle.terra_lib.specs.Keeping.{KeepsExports}
use Rattle.terra_lib.proofs.Kept.{exports_stay}
use Rattle.stage_library.specs.Keeping.{KeepsStaging}
use Rattle.stage_library.proofs.Keeping as stagings
use Rattle.check_model.specs.Typing.{TypingState}
use Rattle.check_expr.specs.Keeping.{KeepsTyping}
use Rattle.check_flow.specs.Keeping.{KeepsLayouts}
use Rattle.check_library.specs.Keeping.{KeepsAsked}
use Rattle.stage_check.specs.Keeping.{KeepsChecking}

pub keeps_itself : (w : TypingState) → KeepsChecking w w
keeps_itself w = stagings.keeps_itself w.stage

pub keeps_then : (a b c : TypingState) → KeepsChecking a b → KeepsChecking b c → KeepsChecking a c
keeps_then a b c f g = stagings.keeps_then a.stage b.stage c.stage f g

-- ---- what did not change

same_heap : (old new : LuaState) → new ≡ old → KeepsHeap old new
same_heap old new same = subst (KeepsHeap old) (sym same) (heaps.keeps_itself old)

same_exports : (old new : ExportState) → new ≡ old → KeepsExports old new
same_exports old new same = subst (KeepsExports old) (sym same) (exports_stay old)

-- ---- bodies

pub keeps_body : (old new : TypingState) → KeepsTyping old new → KeepsChecking old new
keeps_body old new k =
    let a = old.stage in
    let b = new.stage in
    record {
      heap = same_heap a.heap b.heap k.heap;
      functions = k.store.functions;
      terms = k.store.terms;
      types = stagings.types_front a.store.types b.store.types k.store.types;
      symbols = subst (IsFront a.store.symbols) (sym k.store.symbols) (heaps.front_self a.store.symbols);
      quotes = k.store.quotes;
      constants = subst (IsFront a.store.constants) (sym k.store.constants) (heaps.front_self a.store.constants);
      statics = k.store.statics;
      structs = subst (IsFront a.kept.structs) (sym k.structs) (heaps.front_self a.kept.structs);
      exports = same_exports a.exports b.exports k.exports;
      memory = k.memory;
    }

-- ---- layouts

-- all but the types is what was there
pub record StoreStays (old new : Held) : Type 0 where
  pub functions : AllStay old new
  pub terms : IsFront old.terms new.terms
  pub symbols : IsFront old.symbols new.symbols
  pub quotes : IsFront old.quotes new.quotes
  pub constants : IsFront old.constants new.constants
  pub statics : IsFront old.statics new.statics

store_stays : (old new : Held) → new ≡ record old { types = new.types } → StoreStays old new
store_stays old new same = subst (StoreStays old) (sym same) (record {
  functions = λ f. stays-same (state_of old f);
  terms = heaps.front_self old.terms;
  symbols = heaps.front_self old.symbols;
  quotes = heaps.front_self old.quotes;
  constants = heaps.front_self old.constants;
  statics = heaps.front_self old.statics;
})

pub keeps_layout : (old new : StageState) → KeepsLayouts old new → KeepsStaging old new
keeps_layout old new k =
    let store = store_stays old.store new.store k.store in
    record {
      heap = same_heap old.heap new.heap k.heap;
      functions = store.functions;
      terms = store.terms;
      types = k.types;
      symbols = store.symbols;
      quotes = store.quotes;
      constants = store.constants;
      statics = store.statics;
      structs = subst (IsFront old.kept.structs) (sym k.structs) (heaps.front_self old.kept.structs);
      exports = same_exports old.exports new.exports k.exports;
      memory = k.memory;
    }

-- ---- functions of the library that ask

-- functions, terms and quotes are what was there
pub record NodesStay (old new : Held) : Type 0 where
  pub functions : AllStay old new
  pub terms : IsFront old.terms new.terms
  pub quotes : IsFront old.quotes new.quotes

nodes_stay : (old new : Held) → new ≡ record old {
  types = new.types;
  symbols = new.symbols;
  globals = new.globals;
  constants = new.constants;
  statics = new.statics;
} → NodesStay old new
nodes_stay old new same = subst (NodesStay old) (sym same) (record {
  functions = λ f. stays-same (state_of old f);
  terms = heaps.front_self old.terms;
  quotes = heaps.front_self old.quotes;
})

pub keeps_asked : (old new : StageState) → KeepsAsked old new → KeepsStaging old new
keeps_asked old new k =
    let nodes = nodes_stay old.store new.store k.store in
    record {
      heap = k.heap;
      functions = nodes.functions;
      terms = nodes.terms;
      types = k.types;
      symbols = k.symbols;
      quotes = nodes.quotes;
      constants = k.constants;
      statics = k.statics;
      structs = k.structs;
      exports = k.exports;
      memory = k.memory;
    }

pub asked_on : {T E : Type 0} (r : Result T E) (old new : StageState) → OnOk r (KeepsAsked old new) → OnOk r (KeepsStaging old new)
asked_on r old new kept = on_ok_weaker r (λ k. keeps_asked old new k) kept
