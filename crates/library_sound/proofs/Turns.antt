-- What holds of each way to answer holds of an answer; and answers that change the heap alone.
use Rattle.std.proofs.Common.{◌≡◌, ℕ, ◌-◌, Bool, true, false, Option, Some, None, refl}
use Rattle.std.specs.Prelude.{nat_le, if◌then◌else◌}
use Rattle.tl_base.specs.declared.place.Place.{Place}
use Rattle.tl_base.specs.Layer.{State, state}
use Rattle.lua_value.specs.declared.library.LibFn.{LibFn}
use Rattle.lua_table.specs.LuaState.{LuaState}
use Rattle.lua_table.specs.declared.call.LibTurn.TheVariants as turns
use Rattle.lua_base.specs.Calls as base
use Rattle.exotype.specs.declared.fault.Fault.{Fault}
use Rattle.exotype.specs.Faults.{fault_text}
use Rattle.exotype.specs.World.{StageState}
use Rattle.terra_lib.specs.Answers.{Turned, turned, on_heap, bad_argument, raised, paying, given}
use Rattle.check_sound.specs.Sound.{IsSound}
use Rattle.library_sound.specs.Leaving.{Leaves}
use Rattle.library_sound.proofs.Writes.{leaves-itself, heap-leaves}

-- ---- by the ways to answer

pub either-way : {A : Type 0} (P : A → Type 0) (c : Bool) (x y : A) → (c ≡ true → P x) → (c ≡ false → P y) →
    P (if c then x else y)
either-way P true x y f g = f refl
either-way P false x y f g = g refl

pub if-given : {X : Type 0} (P : Turned → Type 0) (o : Option X) (other : Turned) (go : X → Turned) → P other →
    ((x : X) → o ≡ Some x → P (go x)) → P (given o other go)
if-given P None other go f g = f
if-given P (Some x) other go f g = g x refl

-- ---- the world

-- an answer in a sound world leaves one to which it leads
abbrev pub Good : State StageState → Turned → Type 0
Good s t = Leaves s.world t.left.world

pub heap-good : (s : State StageState) → IsSound s.world → (go : State LuaState → base.Turned) → Good s (on_heap s go)
heap-good s old go = heap-leaves s.world old (go (state s.world.heap s.left)).left.world

pub bad-good : (s : State StageState) → IsSound s.world → (place : Place) (position : ℕ) (f : LibFn) →
    Good s (bad_argument s place position f)
bad-good s old place position f = heap-good s old (λ h. base.bad_argument h place position f)

pub raised-good : (s : State StageState) → IsSound s.world → (place : Place) (fault : Fault) → Good s (raised s place fault)
raised-good s old place fault = heap-good s old (λ h. base.raised h place (fault_text fault))

pub paying-good : (s : State StageState) → IsSound s.world → (units : ℕ) (go : State StageState → Turned) →
    ((n : ℕ) → Good s (go (state s.world n))) → Good s (paying s units go)
paying-good s old units go h =
    either-way (Good s) (nat_le units s.left) (go (state s.world (s.left - units))) (turned turns.Spent s)
    (λ e. h (s.left - units)) (λ e. leaves-itself s.world old)
