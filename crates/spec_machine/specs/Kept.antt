-- What is kept by nothing, and by one step and the next.
use Rattle.std.proofs.Common.{refl, ◌∙◌}
use Rattle.lua_table.proofs.Keeping.{front_self, front_then}
use Rattle.lua_table.proofs.Keeping.{keeps_itself as heap_itself, keeps_then as heap_then}
use Rattle.terra_term.specs.Held.{Held, state_of}
use Rattle.terra_term.proofs.Staying.{stays-same, stays-then}
use Rattle.exotype.specs.World.{StageState}
use Rattle.spec_machine.specs.Keeping.{KeepsStage, KeepsStore}

-- ---- the store

pub store_itself : (s : Held) → KeepsStore s s
store_itself s = record {
  functions = λ f. stays-same (state_of s f);
  terms = front_self s.terms;
  types = front_self s.types;
  symbols = front_self s.symbols;
  quotes = front_self s.quotes;
  statics = front_self s.statics;
  names = front_self s.names;
  constants = refl;
  globals = refl;
  typed = refl;
}

pub store_then : (a b c : Held) → KeepsStore a b → KeepsStore b c → KeepsStore a c
store_then a b c f g = record {
  functions = λ x. stays-then (state_of a x) (state_of b x) (state_of c x) (f.functions x) (g.functions x);
  terms = front_then a.terms b.terms c.terms f.terms g.terms;
  types = front_then a.types b.types c.types f.types g.types;
  symbols = front_then a.symbols b.symbols c.symbols f.symbols g.symbols;
  quotes = front_then a.quotes b.quotes c.quotes f.quotes g.quotes;
  statics = front_then a.statics b.statics c.statics f.statics g.statics;
  names = front_then a.names b.names c.names f.names g.names;
  constants = g.constants ∙ f.constants;
  globals = g.globals ∙ f.globals;
  typed = g.typed ∙ f.typed;
}

-- ---- the world

pub keeps_itself : (w : StageState) → KeepsStage w w
keeps_itself w = record {
  heap = heap_itself w.heap;
  store = store_itself w.store;
  structs = front_self w.kept.structs;
  properties = refl;
  exports = refl;
  memory = refl;
}

pub keeps_then : (u v w : StageState) → KeepsStage u v → KeepsStage v w → KeepsStage u w
keeps_then u v w f g = record {
  heap = heap_then u.heap v.heap w.heap f.heap g.heap;
  store = store_then u.store v.store w.store f.store g.store;
  structs = front_then u.kept.structs v.kept.structs w.kept.structs f.structs g.structs;
  properties = g.properties ∙ f.properties;
  exports = g.exports ∙ f.exports;
  memory = g.memory ∙ f.memory;
}
