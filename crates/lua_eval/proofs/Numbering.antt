-- Values that are stored under the numbers from one on, as far as these are in the profile.
use Rattle.std.proofs.Common.{◌≡◌, ℕ, ◌+◌, ◌<◌, ◌≤◌, Bool, true, false, List, [], ◌∷◌, length, drop, get_or, refl, sym, ap, ◌∙◌, arith}
use Rattle.std.proofs.lemmas.Bool.Decides.{nat_tests}
use Rattle.std.proofs.lemmas.List.{at_drop_more, at_drop_all}
use Rattle.std.specs.Prelude.{nat_le, nat_lt, pos, Some, None, if◌then◌else◌}
use Rattle.tl_tree.specs.Numbers.{fitting}
use Rattle.tl_base.specs.declared.ids.TableId.{TableId}
use Rattle.lua_value.specs.Numbers.{largest_size}
use Rattle.lua_value.specs.Values.{is_nil}
use Rattle.lua_value.specs.declared.value.Value.{Value}
use Rattle.lua_value.specs.declared.value.Value.TheVariants.{Nil}
use Rattle.lua_table.specs.LuaState.{LuaState}
use Rattle.lua_table.specs.Heap.{with_stored}
use Rattle.lua_model.specs.Plans.{whole, whole_from}
use Rattle.lua_model.specs.Tables.{with_values}

le_is : (n m : ℕ) → nat_le n m ≡ true → n ≤ m
le_is n m e = grind (arith, nat_tests)

le_is_not : (n m : ℕ) → nat_le n m ≡ false → m < n
le_is_not n m e = grind (arith, nat_tests)

not_le : (n m : ℕ) → m < n → nat_le n m ≡ false
not_le n m past = grind (arith, nat_tests)

lt_is_not : (n m : ℕ) → nat_lt n m ≡ false → m ≤ n
lt_is_not n m e = grind (arith, nat_tests)

-- a number past the profile is nil
pub past_is_nil : (n : ℕ) → largest_size < n → is_nil (whole n) ≡ true
past_is_nil n past =
    ap (λ (b : Bool). is_nil (whole_from (if b then Some (pos n) else None))) (not_le n largest_size past)

nil_by : (n : ℕ) (b : Bool) → nat_le n largest_size ≡ b → is_nil (whole_from (if b then Some (pos n) else None)) ≡ true → largest_size < n
nil_by n true e is = absurd cc
nil_by n false e is = le_is_not n largest_size e

-- and nil is none in it
pub nil_is_past : (n : ℕ) → is_nil (whole n) ≡ true → largest_size < n
nil_is_past n is = nil_by n (nat_le n largest_size) refl is

full_by : (n : ℕ) (b : Bool) → nat_le n largest_size ≡ b → is_nil (whole_from (if b then Some (pos n) else None)) ≡ false → n ≤ largest_size
full_by n true e is = le_is n largest_size e
full_by n false e is = absurd cc

pub full_is_within : (n : ℕ) → is_nil (whole n) ≡ false → n ≤ largest_size
full_is_within n is = full_by n (nat_le n largest_size) refl is

-- nothing is stored past the profile
pub stored_past : (table : TableId) (n : ℕ) (vs : List Value) (s : LuaState) → largest_size < n → with_values table n vs s ≡ s
stored_past table n [] s past = refl
stored_past table n (v ∷ vs) s past =
    ap (λ (b : Bool). with_values table (n + 1) vs (if b then s else with_stored s table (whole n) v)) (past_is_nil n past)
    ∙ stored_past table (n + 1) vs s (omega arith)

-- one value more
pub stored_next : (table : TableId) (n i : ℕ) (vs : List Value) (s : LuaState) → i < length vs → is_nil (whole n) ≡ false
    → with_values table n (drop i vs) s ≡ with_values table (n + 1) (drop (i + 1) vs) (with_stored s table (whole n) (get_or vs i Nil))
stored_next table n i vs s within full =
    at_drop_more (λ us. with_values table n us s) vs i Nil within
    ∙ ap (λ (b : Bool). with_values table (n + 1) (drop (i + 1) vs) (if b then s else with_stored s table (whole n) (get_or vs i Nil))) full

pub stored_end : (table : TableId) (n i : ℕ) (vs : List Value) (s : LuaState) → length vs ≤ i → with_values table n (drop i vs) s ≡ s
stored_end table n i vs s past = at_drop_all (λ us. with_values table n us s) vs i past

unfit_by : (n : ℕ) (b : Bool) → nat_lt n 18446744073709551616 ≡ b → (if b then Some n else None) ≡ None → largest_size < n
unfit_by n true e none = absurd cc
unfit_by n false e none =
    let size : 18446744073709551616 ≤ n = lt_is_not n 18446744073709551616 e in omega arith

nil_of_nil : (v : Value) → is_nil v ≡ true → v ≡ Nil
nil_of_nil Nil is = refl
nil_of_nil v is = absurd cc

-- a number that 64 bits don't hold is nil
pub unfit_is_nil : (n : ℕ) → fitting n ≡ None → whole n ≡ Nil
unfit_is_nil n none = nil_of_nil (whole n) (past_is_nil n (unfit_by n (nat_lt n 18446744073709551616) refl none))

fit_by : (n m : ℕ) (b : Bool) → (if b then Some n else None) ≡ Some m → n ≡ m
fit_by n m true e = cc
fit_by n m false e = cc

-- a number that 64 bits hold is itself
pub fit_is_whole : (n m : ℕ) → fitting n ≡ Some m → whole m ≡ whole n
fit_is_whole n m e = ap whole (sym (fit_by n m (nat_lt n 18446744073709551616) e))
