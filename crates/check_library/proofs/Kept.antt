-- What each change of the world keeps.
use Rattle.std.proofs.Common.{◌≡◌, ℕ, false, List, ◌∷◌, [], ◌++◌, Option, Some, None, OnOk, refl, sym, ◌∙◌, ap}
use Rattle.std.proofs.Common.{subst}
use Rattle.std.specs.Prelude.{Result, Ok, Err, length}
use Rattle.std.proofs.lemmas.Result.{on_ok_weaker}
use Rattle.tl_base.specs.declared.ids.FnId.{FnId}
use Rattle.tl_base.specs.declared.ids.TextId.{TextId}
use Rattle.tl_base.specs.declared.ids.TypeId.{TypeId}
use Rattle.lua_table.specs.Keeping.{IsFront, KeepsHeap}
use Rattle.lua_table.proofs.Keeping as heaps
use Rattle.terra_term.specs.Held.{Held, state_of, room_for, next_static, with_static}
use Rattle.terra_term.specs.Keeping.{Stays, AllStay}
use Rattle.terra_term.proofs.Staying.{stays-same}
use Rattle.exotype.specs.World.{ExportState, StageState, with_heap, with_store}
use Rattle.exotype.specs.Types.{with_pointer, with_function}
use Rattle.terra_lib.specs.Exports.{marked, with_exported}
use Rattle.terra_lib.specs.Keeping.{KeepsExports, KeepsWorld}
use Rattle.terra_lib.proofs.Kept as library
use Rattle.check_library.specs.Keeping.{KeepsAsked}
use Rattle.check_library.specs.Layouts.{with_global_in}

-- ---- what the functions that ask nothing keep

store_is : (s t : Held) → t ≡ record s { types = t.types; symbols = t.symbols; constants = t.constants }
    → t ≡ record s { types = t.types; symbols = t.symbols; globals = t.globals; constants = t.constants; statics = t.statics }
store_is s t e = e ∙ ap (λ (x : Held). record s {
  types = t.types;
  symbols = t.symbols;
  globals = x.globals;
  constants = t.constants;
  statics = x.statics;
}) (sym e)

pub keeps_more : (old new : StageState) → KeepsWorld old new → KeepsAsked old new
keeps_more old new k = record {
  heap = k.heap;
  store = store_is old.store new.store k.store;
  types = k.types;
  symbols = k.symbols;
  globals = subst (λ (s : Held). IsFront old.store.globals s.globals) (sym k.store) (heaps.front_self old.store.globals);
  constants = k.constants;
  statics = subst (λ (s : Held). IsFront old.store.statics s.statics) (sym k.store) (heaps.front_self old.store.statics);
  structs = k.structs;
  properties = k.properties;
  exports = k.exports;
  memory = k.memory;
}

pub keeps_on : {T E : Type 0} (r : Result T E) (old new : StageState) → OnOk r (KeepsWorld old new) → OnOk r (KeepsAsked old new)
keeps_on r old new k = on_ok_weaker r (keeps_more old new) k

pub keeps_itself : (w : StageState) → KeepsAsked w w
keeps_itself w = keeps_more w w (library.keeps_world w)

pub stays_defined : (a b : StageState) → KeepsAsked a b → AllStay a.store b.store
stays_defined a b k f = subst (λ (s : Held). Stays (state_of a.store f) (state_of s f)) (sym k.store) (stays-same (state_of a.store f))

-- ---- one change and the next

store_then : (a b c : Held)
    → b ≡ record a { types = b.types; symbols = b.symbols; globals = b.globals; constants = b.constants; statics = b.statics }
    → c ≡ record b { types = c.types; symbols = c.symbols; globals = c.globals; constants = c.constants; statics = c.statics }
    → c ≡ record a { types = c.types; symbols = c.symbols; globals = c.globals; constants = c.constants; statics = c.statics }
store_then a b c f g = g ∙ ap (λ (x : Held). record x {
  types = c.types;
  symbols = c.symbols;
  globals = c.globals;
  constants = c.constants;
  statics = c.statics;
}) f

pub keeps_then : (a b c : StageState) → KeepsAsked a b → KeepsAsked b c → KeepsAsked a c
keeps_then a b c f g = record {
  heap = heaps.keeps_then a.heap b.heap c.heap f.heap g.heap;
  store = store_then a.store b.store c.store f.store g.store;
  types = library.types_then a.store.types b.store.types c.store.types f.types g.types;
  symbols = heaps.front_then a.store.symbols b.store.symbols c.store.symbols f.symbols g.symbols;
  globals = heaps.front_then a.store.globals b.store.globals c.store.globals f.globals g.globals;
  constants = heaps.front_then a.store.constants b.store.constants c.store.constants f.constants g.constants;
  statics = heaps.front_then a.store.statics b.store.statics c.store.statics f.statics g.statics;
  structs = heaps.front_then a.kept.structs b.kept.structs c.kept.structs f.structs g.structs;
  properties = g.properties ∙ f.properties;
  exports = library.exports_then a.exports b.exports c.exports f.exports g.exports;
  memory = g.memory ∙ f.memory;
}

pub then_on : {T E : Type 0} (r : Result T E) (a b c : StageState) → KeepsAsked a b → OnOk r (KeepsAsked b c)
    → OnOk r (KeepsAsked a c)
then_on r a b c f g = on_ok_weaker r (keeps_then a b c f) g

-- ---- each change

-- other exports alone
keeps_exports : (w : StageState) (e : ExportState) → KeepsExports w.exports e → KeepsAsked w (record w { exports = e })
keeps_exports w e k = record {
  heap = heaps.keeps_itself w.heap;
  store = refl;
  types = (library.keeps_world w).types;
  symbols = heaps.front_self w.store.symbols;
  globals = heaps.front_self w.store.globals;
  constants = heaps.front_self w.store.constants;
  statics = heaps.front_self w.store.statics;
  structs = heaps.front_self w.kept.structs;
  properties = refl;
  exports = k;
  memory = refl;
}

pub keeps_marked : (w : StageState) → KeepsAsked w (marked w)
keeps_marked w = keeps_exports w _ (record { list = heaps.front_self w.exports.list; saved = λ h. refl })

pub keeps_exported : (w : StageState) (key : TextId) (f : FnId) → KeepsAsked w (with_exported w key f)
keeps_exported w key f = keeps_exports w _ (record { list = heaps.front_more w.exports.list _; saved = λ h. h })

pub keeps_pointer : (w : StageState) (t : TypeId) → KeepsAsked w (with_pointer w t)
keeps_pointer w t = keeps_more w (with_pointer w t) (library.keeps_pointer w t)

pub keeps_function : (w : StageState) (ps : List TypeId) (r : TypeId) → KeepsAsked w (with_function w ps r)
keeps_function w ps r = keeps_more w (with_function w ps r) (library.keeps_function w ps r)

-- a static, and a global whose bytes it has
abbrev placed : (w : StageState) (t : TypeId) (bytes : List ℕ) → Held
placed w t bytes =
    let s = with_static w.store false bytes in
    record s { globals = w.store.globals ++ record { of = t; address = next_static w.store.statics } ∷ [] }

keeps_placed : (w : StageState) (t : TypeId) (bytes : List ℕ) → KeepsAsked w (with_store w (placed w t bytes))
keeps_placed w t bytes = record {
  heap = heaps.keeps_itself w.heap;
  store = refl;
  types = (library.keeps_world w).types;
  symbols = heaps.front_self w.store.symbols;
  globals = heaps.front_more w.store.globals _;
  constants = heaps.front_self w.store.constants;
  statics = heaps.front_more w.store.statics _;
  structs = heaps.front_self w.kept.structs;
  properties = refl;
  exports = library.exports_stay w.exports;
  memory = refl;
}

-- the store with a global, if there is room for it
abbrev if_room : Option ℕ → Held → Held → Held
if_room None s t = s
if_room (Some address) s t = t

keeps_if_room : (w : StageState) (o : Option ℕ) (t : Held) → KeepsAsked w (with_store w t)
    → KeepsAsked w (with_store w (if_room o w.store t))
keeps_if_room w None t kept = keeps_itself w
keeps_if_room w (Some address) t kept = kept

pub keeps_global : (w : StageState) (t : TypeId) (bytes : List ℕ) → KeepsAsked w (with_global_in w t bytes)
keeps_global w t bytes =
    keeps_if_room w (room_for w.memory w.store.statics (length bytes)) (placed w t bytes) (keeps_placed w t bytes)

-- ---- as calls leave the world

-- a world that is one that keeps
pub kept_as : (w new made : StageState) → new ≡ made → KeepsAsked w made → KeepsAsked w new
kept_as w new made e k = subst (λ (x : StageState). KeepsAsked w x) (sym e) k

pub always : {T E P : Type 0} (r : Result T E) → P → OnOk r P
always (Ok x) p = p
always (Err x) p = tt

-- a world where the heap alone is another
pub heap_on : {T E : Type 0} (r : Result T E) (w v new : StageState) → v ≡ w → new ≡ with_heap v new.heap
    → OnOk r (KeepsHeap v.heap new.heap) → OnOk r (KeepsAsked w new)
heap_on r w v new same heap kept = keeps_on r w new (library.heap_on r w v new same heap kept)

-- a world in which `saveobj` counts as called
pub marked_on : {T E : Type 0} (r : Result T E) (w v made new : StageState) → v ≡ w → made ≡ marked v
    → OnOk r (KeepsAsked made new) → OnOk r (KeepsAsked w new)
marked_on r w v made new same mark kept =
    on_ok_weaker r (λ k. subst (λ (x : StageState). KeepsAsked x new) same
    (keeps_then v (marked v) new (keeps_marked v) (subst (λ (x : StageState). KeepsAsked x new) mark k))) kept

-- a world behind one that keeps
pub behind_on : {T E : Type 0} (r : Result T E) (w v made new : StageState) → v ≡ made → KeepsAsked w made
    → OnOk r (KeepsAsked v new) → OnOk r (KeepsAsked w new)
behind_on r w v made new is first kept = then_on r w v new (kept_as w v made is first) kept
