-- What a call of Terra's library answers, and what it pays: the words in which the functions are defined.
use Rattle.std.specs.Prelude.{ℕ, ◌-◌, nat_le, if◌then◌else◌, List, [], ◌∷◌, Option, Some, None}
use Rattle.tl_base.specs.declared.place.Place.{Place}
use Rattle.tl_base.specs.Layer.{State, state}
use Rattle.lua_value.specs.declared.library.LibFn.{LibFn}
use Rattle.lua_value.specs.declared.value.Value.{Value}
use Rattle.lua_table.specs.LuaState.{LuaState}
use Rattle.lua_table.specs.declared.call.LibTurn.{LibTurn}
use Rattle.lua_table.specs.declared.call.LibTurn.TheVariants as turns
use Rattle.lua_base.specs.Calls as base
use Rattle.exotype.specs.declared.fault.Fault.{Fault}
use Rattle.exotype.specs.Faults.{fault_text}
use Rattle.exotype.specs.World.{StageState, with_heap}
-- the type that an argument is
pub use Rattle.lua_value.specs.Values.{type_in}

-- what a function answers, with the world and the units that it leaves
pub record Turned : Type 0 where
  pub turn : LibTurn
  pub left : State StageState

abbrev pub turned : LibTurn → State StageState → Turned
turned turn left = record { turn = turn; left = left }

-- what is answered by the heap alone: the rest of the world stays
abbrev pub in_world : StageState → base.Turned → Turned
in_world w t = turned t.turn (state (with_heap w t.left.world) t.left.left)

abbrev pub on_heap : State StageState → (State LuaState → base.Turned) → Turned
on_heap s go = in_world s.world (go (state s.world.heap s.left))

-- raises that the argument of this position isn't of its form, with the place of the call before the text, which is paid for
abbrev pub bad_argument : State StageState → Place → ℕ → LibFn → Turned
bad_argument s place position f = on_heap s (λ h. base.bad_argument h place position f)

-- raises a fault in the same way
abbrev pub raised : State StageState → Place → Fault → Turned
raised s place fault = on_heap s (λ h. base.raised h place (fault_text fault))

-- gives values, for nothing, and leaves a world
abbrev pub gives : State StageState → StageState → List Value → Turned
gives s w vs = turned (turns.Values vs) (state w s.left)

abbrev pub gives_one : State StageState → StageState → Value → Turned
gives_one s w v = gives s w (v ∷ [])

-- goes on behind a payment; where it is larger than what is left, nothing is done
abbrev pub paying : State StageState → ℕ → (State StageState → Turned) → Turned
paying s units go = if nat_le units s.left then go (state s.world (s.left - units)) else turned turns.Spent s

-- what is done with a value, or else where there is none
abbrev pub given : {X : Type 0} → Option X → Turned → (X → Turned) → Turned
given None other go = other
given (Some x) other go = go x
