-- Values that are moved one by one.
use Rattle.std.proofs.Common.{◌≡◌, ◌≤◌, ◌<◌, ◌-◌, ◌+◌, ℕ, suc, ℤ, pos, negsuc, neg_ℤ, ◌+ℤ◌, ◌≤ℤ◌, refl, arith}
use Rattle.std.proofs.lemmas.Int.{ints}
use Rattle.tl_base.specs.declared.ids.TableId.{TableId}
use Rattle.lua_value.specs.Numbers.{IsInProfile}
use Rattle.lua_table.specs.LuaState.{LuaState}
use Rattle.lua_textlib.specs.Tables.{held, with_held, shifted_up, shifted_down}

-- a number of the profile lies between these
pub at_least : (z : ℤ) → IsInProfile z → neg_ℤ (pos 99999999999999) ≤ℤ z
at_least (pos n) h = omega (arith, ints)
at_least (negsuc n) h = let few : suc n ≤ 99999999999999 = h in omega (arith, ints, few)

pub at_most : (z : ℤ) → IsInProfile z → z ≤ℤ pos 99999999999999
at_most (pos n) h = let few : n ≤ 99999999999999 = h in omega (arith, ints, few)
at_most (negsuc n) h = omega (arith, ints)

pub down_step : (s s' : LuaState) (t : TableId) (z next from to : ℤ) (n m : ℕ) → s' ≡ with_held s t to (held s t from) →
    to ≡ z → from ≡ z +ℤ pos 1 → next ≡ z +ℤ pos 1 → m ≡ suc n → shifted_down s' t next n ≡ shifted_down s t z m
down_step s s' t z next from to n m es et ef en em = rw (es, et, ef, en, em) refl

pub up_step : (s s' : LuaState) (t : TableId) (z from to : ℤ) (n m : ℕ) → s' ≡ with_held s t to (held s t from) →
    to ≡ z +ℤ pos (n + 1) → from ≡ z +ℤ pos n → m ≡ suc n → shifted_up s' t z n ≡ shifted_up s t z m
up_step s s' t z from to n m es et ef em = rw (es, et, ef, em) refl
