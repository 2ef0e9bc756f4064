-- What calls of the library write, each kind: a sound world stays sound, and keeps what was there.
use Rattle.std.proofs.Common.{◌≡◌, ℕ, ◌+◌, ◌/◌, ◌<◌, ◌≤◌, Bool, true, false, List, [], ◌∷◌, ◌++◌, length, Option, Some, None, refl, sym, ap}
use Rattle.std.proofs.Common.{◌∙◌, subst, arith, slice_get}
use Rattle.std.specs.Prelude.{◌^◌, if◌then◌else◌}
use Rattle.std.proofs.lemmas.List.{length-append}
use mathlib.Core.Logic.{inl}
use Rattle.std.proofs.lemmas.Bool.{leb-true}
use Rattle.tl_base.specs.declared.ids.TypeId.{TypeId}
use Rattle.tl_base.specs.declared.place.Place.{Place}
use Rattle.lua_table.specs.LuaState.{LuaState}
use Rattle.lua_table.proofs.Keeping.{front_self, front_then}
use Rattle.terra_types.specs.declared.types.TypeForm.{TypeForm}
use Rattle.terra_types.proofs.Pushing.{where-push, come, Where, before, last}
use Rattle.terra_term.specs.declared.store.Export.{Export}
use Rattle.terra_term.specs.declared.store.Static.{Static}
use Rattle.terra_term.specs.declared.store.Symbol.{Symbol}
use Rattle.terra_term.specs.declared.store.TerraConstant.{TerraConstant}
use Rattle.terra_term.specs.declared.store.TerraGlobal.{TerraGlobal}
use Rattle.terra_term.specs.Held.{next_static, has_room, room_for, with_types, with_symbol, with_constant, with_global}
use Rattle.terra_term.specs.WellTyped.{has_layout}
use Rattle.exotype.specs.World.{StageState, ExportState, with_export, with_heap, with_store}
use Rattle.exotype.specs.Types.{with_struct}
use Rattle.check_sound.specs.Sound.{foreseen, IsThereIfAny, ConstantIsSound, IsSound}
use Rattle.check_sound.proofs.Tests.{none-some}
use Rattle.check_sound.specs.Exports.{HasName, IsOutward, AreCounted}
use Rattle.check_sound.specs.Growing.{Grows, WasReady, AreFine, Leads}
use Rattle.check_sound.proofs.Grows.{grows-twice}
use Rattle.check_sound.proofs.Leading.{declared-twice, leads-itself, leads-twice, was-ready-on, were-counted-on, outward-on}
use Rattle.check_sound.proofs.Statics.{fits-same, fits-more}
use Rattle.check_sound.proofs.Worlds.{fair-of}
use Rattle.library_sound.specs.Leaving.{Leaves}
use Rattle.library_sound.proofs.Extending.{Extends, extended, extended-sound, extended-grows}
use Rattle.check_sound.proofs.NewTypes.{Follows, follows-struct, keeps-types}

-- ---- nothing, and one after the other

-- heap, tables of structs and exports are no part of it
others-extend : (w : StageState) → IsSound w → (heap : LuaState) (exports : ExportState) →
    Extends w (record w { heap = heap; exports = exports })
others-extend w old heap exports = record {
  functions = refl;
  terms = refl;
  typed_nodes = refl;
  quotes = refl;
  memory = refl;
  properties = refl;
  types = old.types;
  lies = (fair-of w old).lies;
  keeps = keeps-types w.store.types;
  statics = λ i x at. inl at;
  globals = λ i x at. inl at;
  constants = λ i x at. inl at;
  fits = fits-same w (record w { heap = heap; exports = exports }) refl refl old.fits;
  symbols = λ i x at. inl at;
}

pub heap-leaves : (w : StageState) → IsSound w → (heap : LuaState) → Leaves w (with_heap w heap)
heap-leaves w old heap = extended w (with_heap w heap) old (others-extend w old heap w.exports) refl

pub leaves-itself : (w : StageState) → IsSound w → Leaves w w
leaves-itself w old = (old, leads-itself w)

pub leaves-twice : (w v x : StageState) → Leaves w v → Leaves v x → Leaves w x
leaves-twice w v x a b = (b.0, leads-twice w v x a.1 b.1)

-- `saveobj` was called, and the exports are the same
module _ (w : StageState) (saved : Bool) where
  abbrev pub saving : StageState
  saving = record w { exports = record { list = w.exports.list; saved = saved } }

  saving-fine : Grows w saving → AreFine w → AreFine saving
  saving-fine g h = record {
    names = h.names;
    differ = h.differ;
    ready = λ i e at. was-ready-on w saving g e.function (h.ready i e at);
    outward = λ i e at. outward-on w saving g e.function (h.ready i e at) (h.outward i e at);
    many = h.many;
    functions = h.functions;
    nodes = h.nodes;
    counted = were-counted-on w saving g w.exports.list h.functions h.nodes h.counted;
  }

pub saved-leaves : (w : StageState) → IsSound w → (saved : Bool) →
    Leaves w (record w { exports = record { list = w.exports.list; saved = saved } })
saved-leaves w old saved =
    let x = others-extend w old w.heap (record { list = w.exports.list; saved = saved }) in
    let grows = extended-grows w (saving w saved) old x in (
      extended-sound w (saving w saved) old x,
      record {
        grows = grows;
        declared = λ f g at. record { now = g; at = at; declared = refl };
        typing = λ f t h. h;
        memory = refl;
        exports = front_self w.exports.list;
        fine = saving-fine w saved grows;
      },
    )

-- ---- a new export

-- what is known of an export that comes to the others
pub record MayCome (w : StageState) (x : Export) : Type 0 where
  pub named : HasName x
  pub free : (i : ℕ) (e : Export) → slice_get w.exports.list i ≡ Some e → e.name ≡ x.name → ⊥
  pub few : length w.exports.list < 4000000
  pub ready : WasReady w x.function
  pub outward : IsOutward w x.function

-- what holds of each export, and of the new one
each : (P : Export → Type 0) (es : List Export) (x : Export) → ((i : ℕ) (e : Export) → slice_get es i ≡ Some e → P e) → P x →
    (i : ℕ) (e : Export) → Where es x i e → P e
each P es x old new i e (before lt at) = old i e at
each P es x old new i e (last same is) = subst P is new

-- no two have one name
two-differ : (w : StageState) → AreFine w → (x : Export) → MayCome w x → (i j : ℕ) (d e : Export) →
    Where w.exports.list x i d → Where w.exports.list x j e → d.name ≡ e.name → i ≡ j
two-differ w fine x come i j d e (before a at) (before b there) same = fine.differ i j d e at there same
two-differ w fine x come i j d e (before a at) (last b is) same =
    absurd (come.free i d at (same ∙ ap (λ (y : Export). y.name) (sym is)))
two-differ w fine x come i j d e (last a is) (before b there) same =
    absurd (come.free j e there (sym same ∙ ap (λ (y : Export). y.name) (sym is)))
two-differ w fine x come i j d e (last a is) (last b here) same = a ∙ sym b

module _ (w : StageState) (old : IsSound w) (x : Export) where
  abbrev pub exporting : StageState
  exporting = record w { exports = with_export w.exports x }

  pub exporting-grows : Grows w exporting
  exporting-grows = extended-grows w exporting old (others-extend w old w.heap (with_export w.exports x))

  -- exports are fine with it that were fine before, and were counted with it
  exporting-fine : MayCome w x → (fs : List ℕ) (n : ℕ) → AreCounted w (w.exports.list ++ x ∷ []) fs n → AreFine w →
      AreFine exporting
  exporting-fine come fs n counted fine = record {
    names = λ i e at.
        each HasName w.exports.list x fine.names come.named i e (where-push w.exports.list x i e at);
    differ = λ i j d e at there same.
        two-differ w fine x come i j d e (where-push w.exports.list x i d at) (where-push w.exports.list x j e there) same;
    ready = λ i e at.
        was-ready-on w exporting exporting-grows e.function
        (each (λ (y : Export). WasReady w y.function) w.exports.list x fine.ready come.ready i e
        (where-push w.exports.list x i e at));
    outward = λ i e at.
        each (λ (y : Export). IsOutward exporting y.function) w.exports.list x
        (λ k y here. outward-on w exporting exporting-grows y.function (fine.ready k y here) (fine.outward k y here))
        (outward-on w exporting exporting-grows x.function come.ready come.outward) i e
        (where-push w.exports.list x i e at);
    many = omega (arith, come.few, length-append w.exports.list (x ∷ []));
    functions = fs;
    nodes = n;
    counted = record { then = w; sound = old; grows = exporting-grows; counted = counted };
  }

  pub exporting-sound : IsSound exporting
  exporting-sound = extended-sound w exporting old (others-extend w old w.heap (with_export w.exports x))

  -- What leads to a world leads to it with another export too, if that was counted where exports were fine at the begin.
  pub exporting-leads : (begin : StageState) → Leads begin w → MayCome w x → (fs : List ℕ) (n : ℕ) →
      (AreFine begin → AreCounted w (w.exports.list ++ x ∷ []) fs n) → Leads begin exporting
  exporting-leads begin led come fs n counted = record {
    grows = grows-twice begin w exporting led.grows exporting-grows;
    declared = declared-twice begin w exporting led.declared (λ f g at. record { now = g; at = at; declared = refl });
    typing = λ f t h. led.typing f t h;
    memory = led.memory;
    exports = front_then begin.exports.list w.exports.list exporting.exports.list led.exports (x ∷ [], refl);
    fine = λ h. exporting-fine come fs n (counted h) (led.fine h);
  }

-- ---- types

pub types-leave : (w : StageState) → IsSound w → (ts : List TypeForm) → Follows w.store.types ts →
    Leaves w (with_store w (with_types w.store ts))
types-leave w old ts f =
    extended w (with_store w (with_types w.store ts)) old (record {
      functions = refl;
      terms = refl;
      typed_nodes = refl;
      quotes = refl;
      memory = refl;
      properties = refl;
      types = f.types;
      lies = f.lies;
      keeps = f.keeps;
      statics = λ i x at. inl at;
      globals = λ i x at. inl at;
      constants = λ i x at. inl at;
      fits = fits-same w (with_store w (with_types w.store ts)) refl refl old.fits;
      symbols = λ i x at. inl at;
    }) refl

pub struct-leaves : (w : StageState) → IsSound w → (place : Place) → Leaves w (with_struct w place)
struct-leaves w old place =
    let f = follows-struct w.store.types old.types (fair-of w old).lies place in
    extended w (with_struct w place) old (record {
      functions = refl;
      terms = refl;
      typed_nodes = refl;
      quotes = refl;
      memory = refl;
      properties = refl;
      types = f.types;
      lies = f.lies;
      keeps = f.keeps;
      statics = λ i x at. inl at;
      globals = λ i x at. inl at;
      constants = λ i x at. inl at;
      fits = fits-same w (with_struct w place) refl refl old.fits;
      symbols = λ i x at. inl at;
    }) refl

-- ---- symbols and constants

pub symbol-leaves : (w : StageState) → IsSound w → (of : Option TypeId) → IsThereIfAny w of →
    Leaves w (with_store w (with_symbol w.store of))
symbol-leaves w old of there =
    extended w (with_store w (with_symbol w.store of)) old (record {
      functions = refl;
      terms = refl;
      typed_nodes = refl;
      quotes = refl;
      memory = refl;
      properties = refl;
      types = old.types;
      lies = (fair-of w old).lies;
      keeps = keeps-types w.store.types;
      statics = λ i x at. inl at;
      globals = λ i x at. inl at;
      constants = λ i x at. inl at;
      fits = fits-same w (with_store w (with_symbol w.store of)) refl refl old.fits;
      symbols = λ i x at.
          come (λ (s : Symbol). IsThereIfAny (with_store w (with_symbol w.store of)) s.of) w.store.symbols
          (record { of = of }) (still of there) i x (where-push w.store.symbols (record { of = of }) i x at);
    }) refl
  where
    still : (o : Option TypeId) → IsThereIfAny w o → IsThereIfAny (with_store w (with_symbol w.store of)) o
    still None h = tt
    still (Some t) h = h

pub constant-leaves : (w : StageState) → IsSound w → (c : TerraConstant) → ConstantIsSound w c →
    Leaves w (with_store w (with_constant w.store c))
constant-leaves w old c sound =
    extended w (with_store w (with_constant w.store c)) old (record {
      functions = refl;
      terms = refl;
      typed_nodes = refl;
      quotes = refl;
      memory = refl;
      properties = refl;
      types = old.types;
      lies = (fair-of w old).lies;
      keeps = keeps-types w.store.types;
      statics = λ i x at. inl at;
      globals = λ i x at. inl at;
      constants = λ i x at.
          come (λ (k : TerraConstant). ConstantIsSound (with_store w (with_constant w.store c)) k) w.store.constants c
          sound i x (where-push w.store.constants c i x at);
      fits = fits-same w (with_store w (with_constant w.store c)) refl refl old.fits;
      symbols = λ i x at. inl at;
    }) refl

-- ---- globals

room-is : (memory : ℕ) (ss : List Static) (size a : ℕ) → room_for memory ss size ≡ Some a → has_room memory ss size ≡ true
room-is memory ss size a h = by (has_room memory ss size) refl h
  where
    by : (c : Bool) → has_room memory ss size ≡ c → (if c then Some (next_static ss) else None) ≡ Some a →
        has_room memory ss size ≡ true
    by true room h = room
    by false room h = absurd (none-some a h)

room-address : (memory : ℕ) (ss : List Static) (size : ℕ) → memory ≤ 67108864 → has_room memory ss size ≡ true →
    next_static ss < 2 ^ 64
room-address memory ss size m room =
    let below : next_static ss + size ≤ 1073741824 + memory / 2 = leb-true (next_static ss + size)
    (1073741824 + memory / 2) room in
    omega (arith, below, m)

module _ (w : StageState) (old : IsSound w) (t : TypeId) (bytes : List ℕ) (laid : has_layout (foreseen w) t ≡ true) where
  abbrev new-static : Static
  new-static = record { address = next_static w.store.statics; is_text = false; bytes = bytes }

  abbrev new-global : TerraGlobal
  new-global = record { of = t; address = next_static w.store.statics }

  abbrev placed : StageState
  placed = with_store w (record w.store {
    statics = w.store.statics ++ new-static ∷ [];
    globals = w.store.globals ++ new-global ∷ [];
  })

  placed-leaves : next_static w.store.statics < 2 ^ 64 → has_room w.memory w.store.statics (length bytes) ≡ true →
      Leaves w placed
  placed-leaves small room =
      extended w placed old (record {
        functions = refl;
        terms = refl;
        typed_nodes = refl;
        quotes = refl;
        memory = refl;
        properties = refl;
        types = old.types;
        lies = (fair-of w old).lies;
        keeps = keeps-types w.store.types;
        statics = λ i x at.
            come (λ (s : Static). s.address < 2 ^ 64) w.store.statics new-static small i x
            (where-push w.store.statics new-static i x at);
        globals = λ i x at.
            come (λ (g : TerraGlobal). (has_layout (foreseen placed) g.of ≡ true) × (g.address < 2 ^ 64)) w.store.globals
            new-global (laid, small) i x (where-push w.store.globals new-global i x at);
        constants = λ i x at. inl at;
        fits = fits-more w placed false bytes refl refl room old.fits;
        symbols = λ i x at. inl at;
      }) refl

  global-by : (o : Option ℕ) → room_for w.memory w.store.statics (length bytes) ≡ o →
      Leaves w (with_store w (with_global w.store w.memory t bytes))
  global-by None room = rw room (leaves-itself w old)
  global-by (Some a) room =
      let has = room-is w.memory w.store.statics (length bytes) a room in
      rw room (placed-leaves (room-address w.memory w.store.statics (length bytes) old.memory has) has)

  pub global-leaves : Leaves w (with_store w (with_global w.store w.memory t bytes))
  global-leaves = global-by (room_for w.memory w.store.statics (length bytes)) refl
