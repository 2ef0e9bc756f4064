-- What later worlds keep, by one step and the next.
use Rattle.std.proofs.Common.{◌≡◌, ℕ, List, [], ◌∷◌, ◌++◌, refl, sym, subst, ◌∙◌, Bool, true, false, Option, Some, None, length}
use Rattle.std.specs.Prelude.{position}
use Rattle.tl_base.specs.declared.ids.EnvId.{EnvId}
use Rattle.tl_base.specs.declared.ids.FnId.{FnId}
use Rattle.tl_base.specs.declared.ids.NodeId.{NodeId}
use Rattle.tl_base.specs.declared.ids.TermId.{TermId}
use Rattle.tl_base.specs.declared.ids.TextId.{TextId}
use Rattle.tl_base.specs.declared.ids.TypeId.{TypeId}
use Rattle.tl_base.specs.declared.place.Place.{Place}
use Rattle.lua_value.specs.declared.value.Value.{Value}
use Rattle.lua_table.specs.LuaState.{LuaState}
use Rattle.lua_table.specs.Heap.{with_text as heap_text, with_env as heap_env}
use Rattle.lua_table.specs.Cells.{declare}
use Rattle.lua_table.specs.Keeping.{KeepsHeap, IsFront}
use Rattle.lua_table.proofs.Keeping.{front_self, front_more}
use Rattle.lua_table.proofs.Keeping.{keeps_itself as heap_itself}
use Rattle.terra_types.specs.declared.types.TypeForm.{TypeForm}
use Rattle.terra_types.specs.Making.{is_same, types_in, with_form}
use Rattle.terra_term.specs.declared.lists.Parameter.{Parameter}
use Rattle.terra_term.specs.declared.store.FunctionState.TheVariants as states
use Rattle.terra_term.specs.declared.store.FunctionState.{FunctionState}
use Rattle.terra_term.specs.declared.store.Quote.{Quote}
use Rattle.terra_term.specs.declared.store.TextBytes.{TextBytes}
use Rattle.terra_term.specs.declared.term.Term.{Term}
use Rattle.terra_term.specs.Held.{Held, state_of, with_term, with_symbol, with_quote, with_types, with_function, with_defined}
use Rattle.terra_term.specs.Keeping.{AllStay, Stays}
use Rattle.terra_term.proofs.Staying.{stays-same, defining-stays, declaring-stays}
use Rattle.exotype.specs.World.{StageState, with_heap, with_store}
use Rattle.spec_machine.specs.Keeping.{KeepsStage, KeepsStore}
use Rattle.spec_machine.specs.Kept.{store_itself, keeps_itself, keeps_then}

-- a world that is another one, which is kept
pub kept_as : (u v w : StageState) → v ≡ w → KeepsStage u w → KeepsStage u v
kept_as u v w is kept = subst (KeepsStage u) (sym is) kept

-- another heap
pub keeps_heap : (w : StageState) (heap : LuaState) → KeepsHeap w.heap heap → KeepsStage w (with_heap w heap)
keeps_heap w heap kept = record {
  heap = kept;
  store = store_itself w.store;
  structs = front_self w.kept.structs;
  properties = refl;
  exports = refl;
  memory = refl;
}

-- another store
pub keeps_store : (w : StageState) (store : Held) → KeepsStore w.store store → KeepsStage w (with_store w store)
keeps_store w store kept = record {
  heap = heap_itself w.heap;
  store = kept;
  structs = front_self w.kept.structs;
  properties = refl;
  exports = refl;
  memory = refl;
}

-- ---- words of the store

pub store_term : (s : Held) (t : Term) → KeepsStore s (with_term s t)
store_term s t = record {
  functions = λ f. stays-same (state_of s f);
  terms = front_more s.terms (t ∷ []);
  types = front_self s.types;
  symbols = front_self s.symbols;
  quotes = front_self s.quotes;
  statics = front_self s.statics;
  names = front_self s.names;
  constants = refl;
  globals = refl;
  typed = refl;
}

pub store_symbol : (s : Held) (of : Option TypeId) → KeepsStore s (with_symbol s of)
store_symbol s of = record {
  functions = λ f. stays-same (state_of s f);
  terms = front_self s.terms;
  types = front_self s.types;
  symbols = front_more s.symbols (record { of = of } ∷ []);
  quotes = front_self s.quotes;
  statics = front_self s.statics;
  names = front_self s.names;
  constants = refl;
  globals = refl;
  typed = refl;
}

pub store_quote : (s : Held) (q : Quote) → KeepsStore s (with_quote s q)
store_quote s q = record {
  functions = λ f. stays-same (state_of s f);
  terms = front_self s.terms;
  types = front_self s.types;
  symbols = front_self s.symbols;
  quotes = front_more s.quotes (q ∷ []);
  statics = front_self s.statics;
  names = front_self s.names;
  constants = refl;
  globals = refl;
  typed = refl;
}

pub store_function : (s : Held) (of : Option TypeId) (place : Place) → KeepsStore s (with_function s of place)
store_function s of place = record {
  functions = declaring-stays s of place;
  terms = front_self s.terms;
  types = front_self s.types;
  symbols = front_self s.symbols;
  quotes = front_self s.quotes;
  statics = front_self s.statics;
  names = front_self s.names;
  constants = refl;
  globals = refl;
  typed = refl;
}

pub store_defined : (s : Held) (f : FnId) (t : TermId) (place : Place) → state_of s f ≡ states.Undefined → KeepsStore s (with_defined s f t place)
store_defined s f t place none = record {
  functions = defining-stays s f t place none;
  terms = front_self s.terms;
  types = front_self s.types;
  symbols = front_self s.symbols;
  quotes = front_self s.quotes;
  statics = front_self s.statics;
  names = front_self s.names;
  constants = refl;
  globals = refl;
  typed = refl;
}
