-- What a call of the library answers, and what it pays: the words in which the functions are defined.
use Rattle.std.specs.Prelude.{ℕ, ◌+◌, ◌-◌, nat_le, if◌then◌else◌, List, ◌++◌, length, codes}
use Rattle.std.specs.Fmt.{decimal}
use Rattle.tl_base.specs.declared.place.Place.{Place}
use Rattle.tl_base.specs.Layer.{State, state}
use Rattle.tl_base.specs.declared.text.TheConstants.Text.{MAX_LEN}
use Rattle.lua_value.specs.declared.value.Value.{Value}
use Rattle.lua_value.specs.declared.value.Value.TheVariants as values
use Rattle.lua_value.specs.declared.library.LibFn.{LibFn}
use Rattle.lua_value.specs.Library.{library_text}
use Rattle.lua_table.specs.LuaState.{LuaState}
use Rattle.lua_table.specs.Heap.{with_text, interned_id}
use Rattle.lua_table.specs.declared.call.LibTurn.{LibTurn}
use Rattle.lua_table.specs.declared.call.LibTurn.TheVariants as turns
use Rattle.lua_ops.specs.Placed.{placed}
pub use Rattle.lua_table.specs.Heap.{text_units}

-- what a function answers, with the heap and the units that it leaves
pub record Turned : Type 0 where
  pub turn : LibTurn
  pub left : State LuaState

abbrev pub turned : LibTurn → State LuaState → Turned
turned turn left = record { turn = turn; left = left }

-- ---- what is paid

-- an answer in a heap, for so many units; where they are more than what is left, nothing is done
abbrev pub paying : State LuaState → ℕ → LibTurn → LuaState → Turned
paying s units turn world =
    if nat_le units s.left then turned turn (state world (s.left - units)) else turned turns.Spent s

-- the text of these bytes, which is paid for, and what is answered with it
abbrev pub with_made : State LuaState → List ℕ → (Value → LibTurn) → Turned
with_made s bytes turn =
    paying s (text_units (length bytes)) (turn (values.Text (interned_id s.world bytes))) (with_text s.world bytes)

-- which argument of a function isn't of its form, with the place of the call before it
abbrev pub bad_argument_text : ℕ → ℕ → ℕ → LibFn → List ℕ
bad_argument_text line word position f =
    decimal line ++ codes ":" ++ decimal word ++ codes ": bad argument " ++ decimal position ++ codes " to " ++ library_text f

-- raises that an argument isn't of its form
abbrev pub bad_argument : State LuaState → Place → ℕ → LibFn → Turned
bad_argument s place position f = with_made s (bad_argument_text place.line place.word position f) (λ v. turns.Raise v place)

-- gives values, for nothing
abbrev pub gives : State LuaState → List Value → Turned
gives s vs = turned (turns.Values vs) s

-- raises a text, with the place of the call before it
abbrev pub raised : State LuaState → Place → List ℕ → Turned
raised s place text = with_made s (placed place text) (λ v. turns.Raise v place)

-- Answers with the text of these bytes, which is paid for. One that is longer than texts can be is not made and not paid: that it is
-- too long is raised.
abbrev pub making : State LuaState → Place → List ℕ → (Value → LibTurn) → Turned
making s place bytes turn =
    if nat_le (length bytes) MAX_LEN then with_made s bytes turn else raised s place (codes "text too long")
