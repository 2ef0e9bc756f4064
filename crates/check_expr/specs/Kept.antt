-- What is kept by nothing, and by one step and the next: the laws that the machine's `keeps` has.
use Rattle.std.proofs.Common.{refl, subst, ◌∙◌}
use Rattle.lua_table.proofs.Keeping.{front_self, front_then}
use Rattle.terra_term.specs.Held.{Held, state_of}
use Rattle.terra_term.proofs.Staying.{stays-same, stays-then}
use Rattle.exotype.specs.World.{StageState}
use Rattle.exotype.specs.declared.property.Known.{Known}
use Rattle.exotype.specs.declared.property.Known.TheVariants as known
use Rattle.exotype.specs.Properties.{known_of}
use Rattle.check_model.specs.Keeping.{StaysKnown}
use Rattle.check_model.specs.Typing.{TypingState}
use Rattle.check_expr.specs.Keeping.{KeepsTyping, KeepsStage, KeepsStore}

pub store_itself : (s : Held) → KeepsStore s s
store_itself s = record {
  functions = λ f. stays-same (state_of s f);
  types = front_self s.types;
  terms = front_self s.terms;
  typed = front_self s.typed;
  statics = front_self s.statics;
  symbols = refl;
  quotes = front_self s.quotes;
  names = refl;
  constants = refl;
  globals = refl;
}

pub store_then : (a b c : Held) → KeepsStore a b → KeepsStore b c → KeepsStore a c
store_then a b c f g = record {
  functions = λ x. stays-then (state_of a x) (state_of b x) (state_of c x) (f.functions x) (g.functions x);
  types = front_then a.types b.types c.types f.types g.types;
  terms = front_then a.terms b.terms c.terms f.terms g.terms;
  typed = front_then a.typed b.typed c.typed f.typed g.typed;
  statics = front_then a.statics b.statics c.statics f.statics g.statics;
  symbols = g.symbols ∙ f.symbols;
  quotes = front_then a.quotes b.quotes c.quotes f.quotes g.quotes;
  names = g.names ∙ f.names;
  constants = g.constants ∙ f.constants;
  globals = g.globals ∙ f.globals;
}

pub known_itself : (k : Known) → StaysKnown k k
known_itself known.Unasked = tt
known_itself known.Asked = tt
known_itself (known.Value v) = refl
known_itself (known.Refused kind) = refl

known_then : (a b c : Known) → StaysKnown a b → StaysKnown b c → StaysKnown a c
known_then known.Unasked b c f g = tt
known_then known.Asked b c f g = tt
known_then (known.Value v) b c f g = subst (λ x. StaysKnown x c) f g
known_then (known.Refused kind) b c f g = subst (λ x. StaysKnown x c) f g

pub stage_itself : (w : StageState) → KeepsStage w w
stage_itself w = record {
  heap = refl;
  store = store_itself w.store;
  structs = refl;
  known = λ p. known_itself (known_of w.kept p);
  exports = refl;
  memory = refl;
}

pub keeps_itself : (w : TypingState) → KeepsTyping w w
keeps_itself w = stage_itself w.stage

pub keeps_then : (u v w : TypingState) → KeepsTyping u v → KeepsTyping v w → KeepsTyping u w
keeps_then u v w f g = record {
  heap = g.heap ∙ f.heap;
  store = store_then u.stage.store v.stage.store w.stage.store f.store g.store;
  structs = g.structs ∙ f.structs;
  known = λ p. known_then (known_of u.stage.kept p) (known_of v.stage.kept p) (known_of w.stage.kept p) (f.known p) (g.known p);
  exports = g.exports ∙ f.exports;
  memory = g.memory ∙ f.memory;
}
