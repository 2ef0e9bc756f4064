-- Whether there is room for one more static, and a global without room.
use Rattle.std.proofs.Common.{◌≡◌, ℕ, zero, suc, ◌+◌, ◌-◌, ◌/◌, Bool, true, false, List, [], ◌∷◌, length}
use Rattle.std.proofs.Common.{Option, Some, None, if◌then◌else◌, ◌++◌, refl, sym, ap, ◌∙◌, arith}
use Rattle.std.specs.Prelude.{slice_get}
use Rattle.tl_base.specs.declared.ids.GlobalId.{GlobalId}
use Rattle.tl_base.specs.declared.ids.TypeId.{TypeId}
use Rattle.tl_base.specs.declared.place.Place.{Place}
use Rattle.tl_base.specs.Layer.{State, state}
use Rattle.terra_term.specs.declared.store.Static.{Static}
use Rattle.terra_term.specs.Held.{Held, end_from, has_room, next_global, next_static, with_static}
use Rattle.exotype.specs.declared.fault.Fault.TheVariants as faults
use Rattle.exotype.specs.World.{StageState, with_store}
use Rattle.terra_lib.specs.Answers.{Turned, raised}
use Rattle.check_model.specs.Typing.{bytes_in}
use Rattle.check_library.specs.Layouts.{first_bytes, global_turned, global_or_full}

abbrev end_at : ℕ → Option Static → ℕ
end_at e None = e
end_at e (Some s) = s.address + length s.bytes

-- the end of all statics is that of the last one
end_of : (e : ℕ) (ss : List Static) (n : ℕ) (s : Static) → length ss ≡ suc n → Some s ≡ slice_get ss n
    → s.address + length s.bytes ≡ end_from e ss
end_of e [] n s len is = absurd (omega (arith, len))
end_of e (x ∷ []) zero s len is = ap (λ (o : Option Static). end_at e o) is
end_of e (x ∷ []) (suc n) s len is = absurd (omega (arith, len))
end_of e (x ∷ y ∷ ss) zero s len is = absurd (omega (arith, len))
end_of e (x ∷ y ∷ ss) (suc n) s len is = end_of (x.address + length x.bytes) (y ∷ ss) n s (omega (arith, len)) is

pub end_of_last : (e : ℕ) (ss : List Static) (s : Static) → Some s ≡ slice_get ss (length ss - 1)
    → s.address + length s.bytes ≡ end_from e ss
end_of_last e [] s is = absurd (cc is)
end_of_last e (x ∷ xs) s is = end_of e (x ∷ xs) (length (x ∷ xs) - 1) s (omega arith) is

none_at : (ss : List Static) (n : ℕ) → length ss ≡ suc n → None ≡ slice_get ss n → length ss ≡ 0
none_at [] n len is = refl
none_at (x ∷ xs) zero len is = absurd (cc is)
none_at (x ∷ xs) (suc n) len is =
    let rest : length xs ≡ suc n = omega (arith, len) in
    let none = none_at xs n rest is in
    absurd (omega (arith, rest, none))

pub end_of_none : (e : ℕ) (ss : List Static) → None ≡ slice_get ss (length ss - 1) → e ≡ end_from e ss
end_of_none e [] is = refl
end_of_none e (x ∷ xs) is = absurd (omega (arith, none_at (x ∷ xs) (length (x ∷ xs) - 1) (omega arith) is))

bytes_count : (n number : ℕ) → length (first_bytes n number) ≡ n
bytes_count zero number = refl
bytes_count (suc n) number = ap suc (bytes_count n (number / 256))

abbrev if_room : Option ℕ → Held → Held → Held
if_room None s t = s
if_room (Some address) s t = t

abbrev placed : StageState → TypeId → List ℕ → Held
placed w t bytes =
    let s = with_static w.store false bytes in
    record s { globals = w.store.globals ++ record { of = t; address = next_static w.store.statics } ∷ [] }

abbrev turned_by : Bool → State StageState → Held → GlobalId → ℕ → Place → Turned
turned_by b s made g a place =
    global_or_full (state (with_store s.world (if_room (if b then Some a else None) s.world.store made)) s.left)
    (if b then Some g else None) place

-- without room for so many bytes, that statics are full is raised
pub is_full : (s : State StageState) (t : TypeId) (size bits : ℕ) (place : Place)
    → has_room s.world.memory s.world.store.statics size ≡ false
    → raised s place faults.StaticsFull ≡ global_turned s t (first_bytes size bits) place
is_full s t size bits place none =
    let bytes = first_bytes size bits in
    let w = s.world in
    let count = ap (λ (n : ℕ). has_room w.memory w.store.statics n) (bytes_count size bits) in
    sym (ap (λ (b : Bool). turned_by b s (placed w t bytes) (next_global w.store) (next_static w.store.statics) place) (count ∙ none))

pub no_room : (s : State StageState) (t : TypeId) (size bits : ℕ) (place : Place) (room : Bool)
    → room ≡ has_room s.world.memory s.world.store.statics size → room ≡ false → size ≡ bytes_in s.world t
    → raised s place faults.StaticsFull ≡ global_turned s t (first_bytes (bytes_in s.world t) bits) place
no_room s t size bits place room is none count =
    is_full s t size bits place (sym is ∙ none) ∙ ap (λ (n : ℕ). global_turned s t (first_bytes n bits) place) count
