-- What each change that the library makes of the world keeps.
use Rattle.std.proofs.Common.{ℕ, ◌≡◌, Bool, true, false, List, ◌∷◌, [], Option, Some, None, if◌then◌else◌, OnOk, refl, sym, ◌∙◌, ap, subst}
use Rattle.std.specs.Prelude.{Result, Ok, Err}
use Rattle.std.proofs.lemmas.Result.{on_ok_weaker}
use Rattle.tl_base.specs.declared.ids.TypeId.{TypeId}
use Rattle.tl_base.specs.declared.ids.TableId.{TableId}
use Rattle.tl_base.specs.declared.place.Place.{Place}
use Rattle.lua_value.specs.declared.value.Value.{Value}
use Rattle.lua_table.specs.LuaState.{LuaState}
use Rattle.lua_table.specs.Heap.{with_table}
use Rattle.lua_table.specs.Keeping.{IsFront, KeepsHeap}
use Rattle.lua_table.proofs.Keeping as heaps
use Rattle.terra_types.specs.declared.layout.Layout.{Layout}
use Rattle.terra_types.specs.declared.types.TypeForm.{TypeForm}
use Rattle.terra_types.specs.declared.types.TypeForm.TheVariants as forms
use Rattle.terra_types.specs.Keeping.{KeepsForm, KeepsTypes}
use Rattle.terra_types.specs.Making.{with_form}
use Rattle.terra_types.proofs.Staying.{keeps_itself, keeps-form, keeps-struct}
use Rattle.terra_term.specs.Held.{Held, state_of, with_types}
use Rattle.terra_term.specs.Held as stores
use Rattle.terra_term.specs.Keeping.{Stays, AllStay}
use Rattle.terra_term.proofs.Staying.{stays-same}
use Rattle.exotype.specs.World.{ExportState, StageState, with_heap, with_store}
use Rattle.exotype.specs.Types.{with_pointer, with_array, with_function, with_struct, is_type, names_types}
use Rattle.spec_model.specs.Making.{with_symbol}
use Rattle.terra_lib.specs.Lists.{appended, all_appended}
use Rattle.terra_lib.specs.Symbols.{constant, with_constant}
use Rattle.terra_lib.specs.Keeping.{KeepsExports, KeepsWorld}

pub types_stay : (types : List TypeForm) → KeepsTypes types types
types_stay types i form at = (form, (at, keeps_itself form))

laid_then : (n : ℕ) (p : Place) (layout : Option Layout) (new : TypeForm) → KeepsForm (forms.Struct n p layout) new
    → (l : Option Layout) × (new ≡ forms.Struct n p l)
laid_then n p None new h = h
laid_then n p (Some l) new h = (Some l, h)

form_then : (a b c : TypeForm) → KeepsForm a b → KeepsForm b c → KeepsForm a c
form_then (forms.Integer i) b c f g = subst (λ (x : TypeForm). KeepsForm x c) f g
form_then forms.Bool b c f g = subst (λ (x : TypeForm). KeepsForm x c) f g
form_then forms.Unit b c f g = subst (λ (x : TypeForm). KeepsForm x c) f g
form_then (forms.Pointer t) b c f g = subst (λ (x : TypeForm). KeepsForm x c) f g
form_then (forms.Array t n) b c f g = subst (λ (x : TypeForm). KeepsForm x c) f g
form_then (forms.Function ps r) b c f g = subst (λ (x : TypeForm). KeepsForm x c) f g
form_then (forms.Struct n p None) b c f g = laid_then n p f.0 c (subst (λ (x : TypeForm). KeepsForm x c) f.1 g)
form_then (forms.Struct n p (Some l)) b c f g = subst (λ (x : TypeForm). KeepsForm x c) f g

pub types_then : (a b c : List TypeForm) → KeepsTypes a b → KeepsTypes b c → KeepsTypes a c
types_then a b c f g i form at =
    let first = f i form at in
    let later = g i first.0 first.1.0 in
    (later.0, (later.1.0, form_then form first.0 later.0 first.1.1 later.1.1))

pub exports_stay : (e : ExportState) → KeepsExports e e
exports_stay e = record { list = heaps.front_self e.list; saved = λ h. h }

pub exports_then : (a b c : ExportState) → KeepsExports a b → KeepsExports b c → KeepsExports a c
exports_then a b c f g = record {
  list = heaps.front_then a.list b.list c.list f.list g.list;
  saved = λ h. g.saved (f.saved h);
}

pub keeps_in_heap : (w : StageState) (heap : LuaState) → KeepsHeap w.heap heap → KeepsWorld w (with_heap w heap)
keeps_in_heap w heap h = record {
  heap = h;
  store = refl;
  types = types_stay w.store.types;
  symbols = heaps.front_self w.store.symbols;
  constants = heaps.front_self w.store.constants;
  structs = heaps.front_self w.kept.structs;
  properties = refl;
  exports = exports_stay w.exports;
  memory = refl;
}

pub keeps_world : (w : StageState) → KeepsWorld w w
keeps_world w = keeps_in_heap w w.heap (heaps.keeps_itself w.heap)

-- a world with another store, which has other types, symbols and constants alone
keeps_store : (w : StageState) (s : Held) → s ≡ record w.store { types = s.types; symbols = s.symbols; constants = s.constants }
    → KeepsTypes w.store.types s.types → IsFront w.store.symbols s.symbols → IsFront w.store.constants s.constants
    → KeepsWorld w (with_store w s)
keeps_store w s same types symbols constants = record {
  heap = heaps.keeps_itself w.heap;
  store = same;
  types = types;
  symbols = symbols;
  constants = constants;
  structs = heaps.front_self w.kept.structs;
  properties = refl;
  exports = exports_stay w.exports;
  memory = refl;
}

pub keeps_symbol : (w : StageState) (of : Option TypeId) → KeepsWorld w (with_symbol w of)
keeps_symbol w of =
    keeps_store w (stores.with_symbol w.store of) refl (types_stay w.store.types) (heaps.front_more w.store.symbols _)
    (heaps.front_self w.store.constants)

pub keeps_constant : (w : StageState) (t : TypeId) (bits : ℕ) → KeepsWorld w (with_constant w t bits)
keeps_constant w t bits =
    keeps_store w (stores.with_constant w.store (constant t bits)) refl (types_stay w.store.types) (heaps.front_self w.store.symbols)
    (heaps.front_more w.store.constants _)

-- a world with a type of this form
keeps_form : (w : StageState) (form : TypeForm) → KeepsWorld w (with_store w (with_types w.store (with_form w.store.types form)))
keeps_form w form =
    keeps_store w (with_types w.store (with_form w.store.types form)) refl (keeps-form w.store.types form) (heaps.front_self w.store.symbols)
    (heaps.front_self w.store.constants)

pub keeps_if : (w v : StageState) (b : Bool) → KeepsWorld w v → KeepsWorld w (if b then v else w)
keeps_if w v true h = h
keeps_if w v false h = keeps_world w

pub keeps_pointer : (w : StageState) (t : TypeId) → KeepsWorld w (with_pointer w t)
keeps_pointer w t = keeps_if w _ (is_type w.store.types t) (keeps_form w (forms.Pointer t))

pub keeps_array : (w : StageState) (t : TypeId) (n : ℕ) → KeepsWorld w (with_array w t n)
keeps_array w t n = keeps_if w _ (is_type w.store.types t) (keeps_form w (forms.Array t n))

pub keeps_function : (w : StageState) (ps : List TypeId) (r : TypeId) → KeepsWorld w (with_function w ps r)
keeps_function w ps r = keeps_if w _ (names_types w ps r) (keeps_form w (forms.Function ps r))

pub keeps_struct : (w : StageState) (place : Place) → KeepsWorld w (with_struct w place)
keeps_struct w place =
    let one = with_table w.heap in
    let two = with_table one in
    record {
      heap =
          heaps.keeps_then w.heap one (with_table two) (heaps.keeps_table w.heap)
          (heaps.keeps_then one two (with_table two) (heaps.keeps_table one) (heaps.keeps_table two));
      store = refl;
      types = keeps-struct w.store.types place;
      symbols = heaps.front_self w.store.symbols;
      constants = heaps.front_self w.store.constants;
      structs = heaps.front_more w.kept.structs _;
      properties = refl;
      exports = exports_stay w.exports;
      memory = refl;
    }

pub stays_defined : (a b : StageState) → KeepsWorld a b → AllStay a.store b.store
stays_defined a b k f = subst (λ (s : Held). Stays (state_of a.store f) (state_of s f)) (sym k.store) (stays-same (state_of a.store f))

pub keeps_appended : (heap : LuaState) (t : TableId) (vs : List Value) → KeepsHeap heap (all_appended heap t vs)
keeps_appended heap t [] = heaps.keeps_itself heap
keeps_appended heap t (v ∷ vs) =
    heaps.keeps_then heap (appended heap t v) (all_appended (appended heap t v) t vs) (heaps.keeps_stored heap t _ v)
    (keeps_appended (appended heap t v) t vs)

-- ---- as calls leave the world

pub always : {T E P : Type 0} (r : Result T E) → P → OnOk r P
always (Ok x) p = p
always (Err x) p = tt

-- a world where the heap alone is another
pub heap_after : (w v new : StageState) → v ≡ w → new ≡ with_heap v new.heap → KeepsHeap v.heap new.heap → KeepsWorld w new
heap_after w v new same heap kept =
    subst (λ (x : StageState). KeepsWorld x new) same
    (subst (λ (x : StageState). KeepsWorld v x) (sym heap) (keeps_in_heap v new.heap kept))

pub heap_on : {T E : Type 0} (r : Result T E) (w v new : StageState) → v ≡ w → new ≡ with_heap v new.heap
    → OnOk r (KeepsHeap v.heap new.heap) → OnOk r (KeepsWorld w new)
heap_on r w v new same heap kept = on_ok_weaker r (λ k. heap_after w v new same heap k) kept

-- a world where the store alone is another
pub store_after : (w v new made : StageState) → v ≡ w → new ≡ with_store v new.store → new.store ≡ made.store
    → made ≡ with_store v made.store → KeepsWorld v made → KeepsWorld w new
store_after w v new made same store is by kept =
    let there : new ≡ made = store ∙ ap (λ (s : Held). with_store v s) is ∙ sym by in
    subst (λ (x : StageState). KeepsWorld x new) same (subst (λ (x : StageState). KeepsWorld v x) (sym there) kept)
