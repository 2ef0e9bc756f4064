-- The functions that raise errors, and the one that catches them (Lua 5.1 manual, section 5.1).
use Rattle.std.specs.Prelude.{ℤ, pos, true, false, List, [], ◌∷◌, codes, Option, Some, None, if◌then◌else◌}
use Rattle.std.specs.Fmt.{signed_decimal}
use Rattle.std.specs.Ordering.{int_eq}
use Rattle.tl_base.specs.declared.place.Place.{Place}
use Rattle.tl_base.specs.Layer.{State}
use Rattle.lua_value.specs.declared.library.LibFn.TheVariants.{Assert, Error, Pcall}
use Rattle.lua_value.specs.declared.value.Value.{Value}
use Rattle.lua_value.specs.declared.value.Value.TheVariants as values
use Rattle.lua_value.specs.Values.{is_true}
use Rattle.lua_table.specs.LuaState.{LuaState}
use Rattle.lua_table.specs.Heap.{text_at}
use Rattle.lua_table.specs.declared.call.Back.{Back}
use Rattle.lua_table.specs.declared.call.Back.TheVariants as backs
use Rattle.lua_table.specs.declared.call.LibNext.TheVariants as nexts
use Rattle.lua_table.specs.declared.call.LibTurn.TheVariants as turns
use Rattle.lua_base.specs.Calls.{Turned, turned, gives, with_made, making, bad_argument}
use Rattle.lua_ops.specs.Placed.{placed}
use Rattle.lua_base.specs.Arguments.{argument, number_or}

-- ---- assert

-- The message of an assertion that doesn't hold is raised as it is, without a place: a text, or a number as a text. Nil is none.
abbrev pub assertion_failed : State LuaState → Value → Place → Turned
assertion_failed s values.Nil place = with_made s (codes "assertion failed!") (λ v. turns.Raise v place)
assertion_failed s (values.Text id) place = turned (turns.Raise (values.Text id) place) s
assertion_failed s (values.Number z) place = making s place (signed_decimal z) (λ v. turns.Raise v place)
assertion_failed s v place = bad_argument s place 2 Assert

-- `assert` gives its arguments where the first one counts as true
abbrev pub assert_turned : State LuaState → List Value → Place → Turned
assert_turned s [] place = bad_argument s place 1 Assert
assert_turned s (v ∷ vs) place = if is_true v then gives s (v ∷ vs) else assertion_failed s (argument vs 0) place

-- ---- error

-- raises a value at a call; a text gets a place before it, where there is one to put there
abbrev pub raised_with : State LuaState → Value → Place → Option Place → Turned
raised_with s (values.Text id) place (Some at) =
    making s place (placed at (text_at s.world id)) (λ v. turns.Raise v place)
raised_with s v place at = turned (turns.Raise v place) s

-- Level 1 puts the place of the call of `error` before a text, level 2 that of the call of the function that called it, and level 0
-- nothing. There are no other levels.
abbrev pub error_at : State LuaState → Value → Place → Option Place → Option ℤ → Turned
error_at s v place outer (Some level) =
    if int_eq level (pos 0) then raised_with s v place None
    else (if int_eq level (pos 1) then raised_with s v place (Some place)
    else (if int_eq level (pos 2) then raised_with s v place outer else bad_argument s place 2 Error))
error_at s v place outer None = bad_argument s place 2 Error

-- `error` raises its first argument, at the level that its second one is, and at level 1 without one
abbrev pub error_turned : State LuaState → List Value → Place → Option Place → Turned
error_turned s vs place outer = error_at s (argument vs 0) place outer (number_or s.world (argument vs 1) (pos 1))

-- ---- pcall

-- `pcall` calls its first argument with the others
abbrev pub pcall_turned : State LuaState → List Value → Place → Turned
pcall_turned s [] place = bad_argument s place 1 Pcall
pcall_turned s (f ∷ vs) place = turned (turns.CallBack f vs nexts.Pcall) s

-- it gives true and the values of the call, or false and the value that was raised
abbrev pub pcall_back : State LuaState → Back → Turned
pcall_back s (backs.Values vs) = gives s (values.Boolean true ∷ vs)
pcall_back s (backs.Raised v place) = gives s (values.Boolean false ∷ v ∷ [])
