-- What is kept where a value became a term.
use Rattle.std.proofs.Common.{ℕ, Bool, true, List, [], ◌∷◌, length, Option, Some, None}
use Rattle.tl_base.specs.declared.place.Place.{Place}
use Rattle.lua_table.proofs.Keeping.{front_more}
use Rattle.terra_term.specs.declared.term.Expression.TheVariants as expressions
use Rattle.terra_term.specs.declared.term.Term.{Term}
use Rattle.terra_term.specs.declared.term.Term.TheVariants as terms
use Rattle.terra_term.specs.Held.{Held, with_term, with_static, with_text, text_address, room_for, placed_text, ended}
use Rattle.exotype.specs.World.{StageState}
use Rattle.exotype.specs.Becoming.{Becoming, Leaf, Text, Spliced, Again, Not, store_after, after}
use Rattle.check_expr.specs.Keeping.{KeepsStage, KeepsStore}
use Rattle.check_expr.specs.Kept.{store_itself, store_then}
use Rattle.check_expr.proofs.Keeping.{keeps_store}

store_term : (s : Held) (t : Term) → KeepsStore s (with_term s t)
store_term s t =
    let same = store_itself s in
    record {
      functions = same.functions;
      types = same.types;
      terms = front_more s.terms (t ∷ []);
      typed = same.typed;
      statics = same.statics;
      symbols = same.symbols;
      quotes = same.quotes;
      names = same.names;
      constants = same.constants;
      globals = same.globals;
    }

store_static : (s : Held) (is_text : Bool) (bytes : List ℕ) → KeepsStore s (with_static s is_text bytes)
store_static s is_text bytes =
    let same = store_itself s in
    record {
      functions = same.functions;
      types = same.types;
      terms = same.terms;
      typed = same.typed;
      statics = front_more s.statics _;
      symbols = same.symbols;
      quotes = same.quotes;
      names = same.names;
      constants = same.constants;
      globals = same.globals;
    }

-- the store with a text, if there is room for it
abbrev if_room : Option ℕ → Held → Held → Held
if_room None s t = s
if_room (Some address) s t = t

-- the store with a text, if it isn't there
abbrev if_new : Option ℕ → Held → Held → Held
if_new None s t = t
if_new (Some address) s t = s

keeps_if_room : (o : Option ℕ) (s t : Held) → KeepsStore s t → KeepsStore s (if_room o s t)
keeps_if_room None s t kept = store_itself s
keeps_if_room (Some address) s t kept = kept

keeps_if_new : (o : Option ℕ) (s t : Held) → KeepsStore s t → KeepsStore s (if_new o s t)
keeps_if_new None s t kept = kept
keeps_if_new (Some address) s t kept = store_itself s

store_text : (s : Held) (memory : ℕ) (bytes : List ℕ) → KeepsStore s (with_text s memory bytes)
store_text s memory bytes =
    let room = room_for memory s.statics (length bytes) in
    let more = with_static s true bytes in
    keeps_if_new (text_address s.statics bytes) s (if_room room s more) (keeps_if_room room s more (store_static s true bytes))

-- the store with the leaf of a static's address
abbrev with_address : Held → Place → Option ℕ → Held
with_address s at (Some address) = with_term s (terms.Expression at (expressions.Static address))
with_address s at None = s

keeps_address : (o : Option ℕ) (s t : Held) (at : Place) → KeepsStore s t → KeepsStore s (with_address t at o)
keeps_address (Some address) s t at kept =
    let leaf = terms.Expression at (expressions.Static address) in
    store_then s t (with_term t leaf) kept (store_term t leaf)
keeps_address None s t at kept = kept

store_became : (s : Held) (memory : ℕ) (at : Place) (b : Becoming) → KeepsStore s (store_after s memory at b)
store_became s memory at (Leaf leaf) = store_term s (terms.Expression at leaf)
store_became s memory at (Text bytes) =
    keeps_address (placed_text memory s.statics (ended bytes)) s (with_text s memory (ended bytes)) at (store_text s memory (ended bytes))
store_became s memory at (Spliced t) = store_itself s
store_became s memory at (Again source made) = store_term s (terms.Expression at (expressions.Typed source made))
store_became s memory at (Not fault) = store_itself s

pub keeps_became : (w : StageState) (at : Place) (b : Becoming) → KeepsStage w (after w at b)
keeps_became w at b = keeps_store w (store_after w.store w.memory at b) (store_became w.store w.memory at b)
