-- What is kept by nothing, by one turn and the next, and by each layer.
use Rattle.std.proofs.Common.{◌≡◌, List, refl, sym, ◌∙◌, ap, subst}
use Rattle.std.specs.Prelude.{slice_get, Result, OnOk}
use Rattle.std.proofs.lemmas.Result.{on_ok_weaker}
use Rattle.std.proofs.lemmas.Option.{slice_get_within}
use Rattle.lua_table.specs.LuaState.{LuaState}
use Rattle.lua_table.specs.Keeping.{IsFront, KeepsHeap}
use Rattle.lua_table.proofs.Keeping as heaps
use Rattle.terra_types.specs.declared.types.TypeForm.{TypeForm}
use Rattle.terra_types.specs.Keeping.{KeepsTypes}
use Rattle.terra_types.proofs.Growing.{get-left}
use Rattle.terra_types.proofs.Staying as type_forms
use Rattle.terra_term.specs.Held.{Held, state_of}
use Rattle.terra_term.specs.Keeping.{AllStay}
use Rattle.terra_term.proofs.Staying.{stays-same, stays-then}
use Rattle.exotype.specs.World.{StageState, with_heap}
use Rattle.terra_lib.specs.Keeping.{KeepsWorld}
use Rattle.terra_lib.proofs.Kept.{types_stay, types_then, exports_stay, exports_then}
use Rattle.stage_library.specs.Keeping.{KeepsStaging}

-- ---- types

pub types_front : (old new : List TypeForm) → IsFront old new → KeepsTypes old new
types_front old new front i form at = (
  form,
  (
    ap (λ (l : List TypeForm). slice_get l i) front.1
        ∙ get-left old front.0 i (slice_get_within old i form at) ∙ at,
    type_forms.keeps_itself form,
  ),
)

-- ---- the world

pub keeps_in_heap : (w : StageState) (heap : LuaState) → KeepsHeap w.heap heap → KeepsStaging w (with_heap w heap)
keeps_in_heap w heap h = record {
  heap = h;
  functions = λ f. stays-same (state_of w.store f);
  terms = heaps.front_self w.store.terms;
  types = types_stay w.store.types;
  symbols = heaps.front_self w.store.symbols;
  quotes = heaps.front_self w.store.quotes;
  constants = heaps.front_self w.store.constants;
  statics = heaps.front_self w.store.statics;
  structs = heaps.front_self w.kept.structs;
  exports = exports_stay w.exports;
  memory = refl;
}

pub keeps_itself : (w : StageState) → KeepsStaging w w
keeps_itself w = keeps_in_heap w w.heap (heaps.keeps_itself w.heap)

pub keeps_then : (a b c : StageState) → KeepsStaging a b → KeepsStaging b c → KeepsStaging a c
keeps_then a b c f g = record {
  heap = heaps.keeps_then a.heap b.heap c.heap f.heap g.heap;
  functions = λ x. stays-then (state_of a.store x) (state_of b.store x) (state_of c.store x) (f.functions x) (g.functions x);
  terms = heaps.front_then a.store.terms b.store.terms c.store.terms f.terms g.terms;
  types = types_then a.store.types b.store.types c.store.types f.types g.types;
  symbols = heaps.front_then a.store.symbols b.store.symbols c.store.symbols f.symbols g.symbols;
  quotes = heaps.front_then a.store.quotes b.store.quotes c.store.quotes f.quotes g.quotes;
  constants = heaps.front_then a.store.constants b.store.constants c.store.constants f.constants g.constants;
  statics = heaps.front_then a.store.statics b.store.statics c.store.statics f.statics g.statics;
  structs = heaps.front_then a.kept.structs b.kept.structs c.kept.structs f.structs g.structs;
  exports = exports_then a.exports b.exports c.exports f.exports g.exports;
  memory = g.memory ∙ f.memory;
}

-- ---- what each layer keeps

-- functions, terms, quotes and statics are those that were there
store_same : (old new : Held) → new ≡ record old { types = new.types; symbols = new.symbols; constants = new.constants }
    → AllStay old new × IsFront old.terms new.terms × IsFront old.quotes new.quotes × IsFront old.statics new.statics
store_same old new same =
    let P : Held → Type 0 =
    λ h. AllStay old h × IsFront old.terms h.terms × IsFront old.quotes h.quotes × IsFront old.statics h.statics in
    subst P (sym same) (
      λ f. stays-same (state_of old f),
      heaps.front_self old.terms,
      heaps.front_self old.quotes,
      heaps.front_self old.statics,
    )

pub keeps_terra : (old new : StageState) → KeepsWorld old new → KeepsStaging old new
keeps_terra old new k =
    let same = store_same old.store new.store k.store in
    record {
      heap = k.heap;
      functions = same.0;
      terms = same.1;
      types = k.types;
      symbols = k.symbols;
      quotes = same.2;
      constants = k.constants;
      statics = same.3;
      structs = k.structs;
      exports = k.exports;
      memory = k.memory;
    }

-- ---- as calls leave the world

-- a world where the heap alone is another
pub heap_after : (w v new : StageState) → v ≡ w → new ≡ with_heap v new.heap → KeepsHeap v.heap new.heap → KeepsStaging w new
heap_after w v new same heap kept =
    subst (λ (x : StageState). KeepsStaging x new) same
    (subst (λ (x : StageState). KeepsStaging v x) (sym heap) (keeps_in_heap v new.heap kept))

pub heap_on : {T E : Type 0} (r : Result T E) (w v new : StageState) → v ≡ w → new ≡ with_heap v new.heap
    → OnOk r (KeepsHeap v.heap new.heap) → OnOk r (KeepsStaging w new)
heap_on r w v new same heap kept = on_ok_weaker r (λ k. heap_after w v new same heap k) kept

pub terra_on : {T E : Type 0} (r : Result T E) (old new : StageState) → OnOk r (KeepsWorld old new) → OnOk r (KeepsStaging old new)
terra_on r old new kept = on_ok_weaker r (λ k. keeps_terra old new k) kept
