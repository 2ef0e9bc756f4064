-- A text that is too long to be made.
use Rattle.std.proofs.Common.{◌≡◌, ℕ, ◌<◌, ◌≤◌, true, false, List, length, codes, refl, arith}
use Rattle.std.specs.Prelude.{nat_le}
use Rattle.std.proofs.lemmas.Bool.Decides.{nat_tests}
use Rattle.tl_base.specs.declared.place.Place.{Place}
use Rattle.tl_base.specs.Layer.{State}
use Rattle.lua_value.specs.declared.value.Value.{Value}
use Rattle.lua_table.specs.LuaState.{LuaState}
use Rattle.lua_table.specs.declared.call.LibTurn.{LibTurn}
use Rattle.lua_base.specs.Calls.{making, raised, with_made}

is_long : (n : ℕ) → 65535 < n → nat_le n 65535 ≡ false
is_long n h = grind (arith, nat_tests)

is_short : (n : ℕ) → n ≤ 65535 → nat_le n 65535 ≡ true
is_short n h = grind (arith, nat_tests)

pub too_long : (s : State LuaState) (place : Place) (bytes : List ℕ) (turn : Value → LibTurn) → 65535 < length bytes
    → making s place bytes turn ≡ raised s place (codes "text too long")
too_long s place bytes turn h = rw (is_long (length bytes) h) refl

pub short_enough : (s : State LuaState) (place : Place) (bytes : List ℕ) (turn : Value → LibTurn) → length bytes ≤ 65535
    → making s place bytes turn ≡ with_made s bytes turn
short_enough s place bytes turn h = rw (is_short (length bytes) h) refl
