-- What is kept where types are made, and the state of a function that isn't defined.
use Rattle.std.proofs.Common.{◌≡◌, ℕ, Bool, true, false, List, [], ◌∷◌, ◌++◌, refl, Option, Some, None}
use Rattle.std.specs.Prelude.{position, if◌then◌else◌}
use Rattle.tl_base.specs.declared.ids.TypeId.{TypeId}
use Rattle.tl_base.specs.declared.place.Place.{Place}
use Rattle.lua_table.specs.Keeping.{IsFront, KeepsHeap}
use Rattle.lua_table.specs.LuaState.{LuaState}
use Rattle.lua_table.specs.Heap.{with_table}
use Rattle.lua_table.proofs.Keeping.{front_self, front_more, keeps_table, keeps_then}
use Rattle.terra_types.specs.declared.types.TypeForm.{TypeForm}
use Rattle.terra_types.specs.declared.types.TypeForm.TheVariants as forms
use Rattle.terra_types.specs.Making.{is_same, types_in, with_form}
use Rattle.terra_types.specs.Making as types
use Rattle.terra_term.specs.declared.store.FunctionState.{FunctionState}
use Rattle.terra_term.specs.declared.store.FunctionState.TheVariants as states
use Rattle.terra_term.specs.Held.{Held, with_types}
use Rattle.exotype.specs.World.{StageState, with_store}
use Rattle.exotype.specs.Types.{is_type, with_pointer, with_three_tables, with_struct}
use Rattle.spec_model.specs.Making.{undefined_state}
use Rattle.spec_machine.specs.Keeping.{KeepsStage, KeepsStore}
use Rattle.spec_machine.specs.Kept.{store_itself, keeps_itself}
use Rattle.spec_machine.proofs.Keeping.{keeps_store}

pub undefined_is : (s : FunctionState) → undefined_state s ≡ true → s ≡ states.Undefined
undefined_is states.Undefined is = refl
undefined_is (states.Defined t) is = absurd (cc is)
undefined_is (states.Typing t) is = absurd (cc is)
undefined_is (states.Typed t made) is = absurd (cc is)
undefined_is (states.Refused t why) is = absurd (cc is)

-- ---- types

store_types : (s : Held) (new : List TypeForm) → IsFront s.types new → KeepsStore s (with_types s new)
store_types s new front =
    let same = store_itself s in
    record {
      functions = same.functions;
      terms = same.terms;
      types = front;
      symbols = same.symbols;
      quotes = same.quotes;
      statics = same.statics;
      names = same.names;
      constants = same.constants;
      globals = same.globals;
      typed = same.typed;
    }

form_front : (place : Option ℕ) (old : List TypeForm) (form : TypeForm) → IsFront old (types_in place old form)
form_front (Some place) old form = front_self old
form_front None old form = front_more old (form ∷ [])

pointer_by : (there : Bool) (w v : StageState) → KeepsStage w v → KeepsStage w (if there then v else w)
pointer_by true w v kept = kept
pointer_by false w v kept = keeps_itself w

pub keeps_pointer : (w : StageState) (t : TypeId) → KeepsStage w (with_pointer w t)
keeps_pointer w t =
    let old = w.store.types in
    let new = with_form old (forms.Pointer t) in
    pointer_by (is_type old t) w (with_store w (with_types w.store new))
    (keeps_store w (with_types w.store new)
    (store_types w.store new (form_front (position (is_same (forms.Pointer t)) old) old (forms.Pointer t))))

three_tables : (s : LuaState) → KeepsHeap s (with_three_tables s)
three_tables s =
    let one = with_table s in
    let two = with_table one in
    keeps_then s one (with_table two) (keeps_table s) (keeps_then one two (with_table two) (keeps_table one) (keeps_table two))

pub keeps_struct : (w : StageState) (place : Place) → KeepsStage w (with_struct w place)
keeps_struct w place = record {
  heap = three_tables w.heap;
  store = store_types w.store (types.with_struct w.store.types place) (front_more w.store.types _);
  structs = front_more w.kept.structs _;
  properties = refl;
  exports = refl;
  memory = refl;
}
