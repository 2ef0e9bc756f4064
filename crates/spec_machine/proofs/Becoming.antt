-- What is kept where a value or a literal became a term, and where a name is kept.
use Rattle.std.proofs.Common.{◌≡◌, ℕ, Bool, true, false, List, [], ◌∷◌, ◌++◌, length, Option, Some, None, refl}
use Rattle.tl_base.specs.declared.ids.TextId.{TextId}
use Rattle.tl_base.specs.declared.place.Place.{Place}
use Rattle.lua_table.specs.Heap.{text_at}
use Rattle.lua_table.specs.Keeping.{IsFront}
use Rattle.lua_table.proofs.Keeping.{front_self, front_more}
use Rattle.terra_term.specs.declared.store.TextBytes.{TextBytes}
use Rattle.terra_term.specs.declared.term.Expression.TheVariants as expressions
use Rattle.terra_term.specs.declared.term.Term.TheVariants as terms
use Rattle.terra_term.proofs.Staying.{stays-same}
use Rattle.terra_term.specs.Held.{Held, state_of, with_term, with_static, with_text, with_name, text_address, room_for, placed_text}
use Rattle.terra_term.specs.Held.{name_place, ended}
use Rattle.exotype.specs.World.{StageState, with_store}
use Rattle.exotype.specs.Becoming.{Becoming, Leaf, Text, Spliced, Again, Not, store_after, after}
use Rattle.spec_model.specs.Making as making
use Rattle.spec_machine.specs.Keeping.{KeepsStage, KeepsStore}
use Rattle.spec_machine.specs.Kept.{store_itself, store_then}
use Rattle.spec_machine.proofs.Keeping.{keeps_store, store_term}

-- ---- statics

store_static : (s : Held) (is_text : Bool) (bytes : List ℕ) → KeepsStore s (with_static s is_text bytes)
store_static s is_text bytes = record {
  functions = λ f. stays-same (state_of s f);
  terms = front_self s.terms;
  types = front_self s.types;
  symbols = front_self s.symbols;
  quotes = front_self s.quotes;
  statics = front_more s.statics _;
  names = front_self s.names;
  constants = refl;
  globals = refl;
  typed = refl;
}

-- the store with a text, if there is room for it
abbrev if_room : Option ℕ → Held → Held → Held
if_room None s t = s
if_room (Some address) s t = t

-- the store with a text, if it isn't there
abbrev if_new : Option ℕ → Held → Held → Held
if_new None s t = t
if_new (Some address) s t = s

keeps_if_room : (o : Option ℕ) (s t : Held) → KeepsStore s t → KeepsStore s (if_room o s t)
keeps_if_room None s t kept = store_itself s
keeps_if_room (Some address) s t kept = kept

keeps_if_new : (o : Option ℕ) (s t : Held) → KeepsStore s t → KeepsStore s (if_new o s t)
keeps_if_new None s t kept = kept
keeps_if_new (Some address) s t kept = store_itself s

store_text : (s : Held) (memory : ℕ) (bytes : List ℕ) → KeepsStore s (with_text s memory bytes)
store_text s memory bytes =
    let room = room_for memory s.statics (length bytes) in
    let more = with_static s true bytes in
    keeps_if_new (text_address s.statics bytes) s (if_room room s more) (keeps_if_room room s more (store_static s true bytes))

-- ---- what a value became

-- the store with the leaf of a static's address
abbrev with_address : Held → Place → Option ℕ → Held
with_address s at (Some address) = with_term s (terms.Expression at (expressions.Static address))
with_address s at None = s

keeps_address : (o : Option ℕ) (s t : Held) (at : Place) → KeepsStore s t → KeepsStore s (with_address t at o)
keeps_address (Some address) s t at kept =
    let leaf = terms.Expression at (expressions.Static address) in
    store_then s t (with_term t leaf) kept (store_term t leaf)
keeps_address None s t at kept = kept

store_became : (s : Held) (memory : ℕ) (at : Place) (b : Becoming) → KeepsStore s (store_after s memory at b)
store_became s memory at (Leaf leaf) = store_term s (terms.Expression at leaf)
store_became s memory at (Text bytes) =
    keeps_address (placed_text memory s.statics (ended bytes)) s (with_text s memory (ended bytes)) at (store_text s memory (ended bytes))
store_became s memory at (Spliced t) = store_itself s
store_became s memory at (Again source made) = store_term s (terms.Expression at (expressions.Typed source made))
store_became s memory at (Not fault) = store_itself s

pub keeps_became : (w : StageState) (at : Place) (b : Becoming) → KeepsStage w (after w at b)
keeps_became w at b = keeps_store w (store_after w.store w.memory at b) (store_became w.store w.memory at b)

-- ---- names

abbrev kept_names : Option ℕ → List TextBytes → TextId → List ℕ → List TextBytes
kept_names (Some i) names text bytes = names
kept_names None names text bytes = names ++ record { text = text; bytes = bytes } ∷ []

names_front : (o : Option ℕ) (names : List TextBytes) (text : TextId) (bytes : List ℕ) → IsFront names (kept_names o names text bytes)
names_front (Some i) names text bytes = front_self names
names_front None names text bytes = front_more names (record { text = text; bytes = bytes } ∷ [])

store_name : (s : Held) (text : TextId) (bytes : List ℕ) → KeepsStore s (with_name s text bytes)
store_name s text bytes = record {
  functions = λ f. stays-same (state_of s f);
  terms = front_self s.terms;
  types = front_self s.types;
  symbols = front_self s.symbols;
  quotes = front_self s.quotes;
  statics = front_self s.statics;
  names = names_front (name_place s.names text) s.names text bytes;
  constants = refl;
  globals = refl;
  typed = refl;
}

pub keeps_name : (w : StageState) (text : TextId) → KeepsStage w (making.with_name w text)
keeps_name w text = keeps_store w (with_name w.store text (text_at w.heap text)) (store_name w.store text (text_at w.heap text))

pub keeps_bytes : (w : StageState) (text : TextId) (bytes : List ℕ) → KeepsStage w (with_store w (with_name w.store text bytes))
keeps_bytes w text bytes = keeps_store w (with_name w.store text bytes) (store_name w.store text bytes)
