-- The functions that work on tables (Lua 5.1 manual, section 5.1).
use Rattle.std.specs.Prelude.{ℕ, zero, suc, ◌+◌, ℤ, pos, ◌+ℤ◌, ◌-ℤ◌, List, [], ◌∷◌, ◌++◌, codes, nat_lt, Option, Some, None, if◌then◌else◌}
use Rattle.tl_base.specs.declared.ids.TableId.{TableId}
use Rattle.tl_base.specs.declared.place.Place.{Place}
use Rattle.tl_base.specs.Layer.{State, state}
use Rattle.lua_value.specs.declared.library.LibFn.{LibFn}
use Rattle.lua_value.specs.declared.library.LibFn.TheVariants.{GetMetatable, Ipairs, IpairsNext, Next, Pairs as PairsFn, RawEqual, RawGet}
use Rattle.lua_value.specs.declared.library.LibFn.TheVariants.{RawSet, SetMetatable, Unpack}
use Rattle.lua_value.specs.declared.value.Value.{Value}
use Rattle.lua_value.specs.declared.value.Value.TheVariants as values
use Rattle.lua_value.specs.Numbers.{number_from}
use Rattle.lua_value.specs.Values.{is_nil, same_value}
use Rattle.lua_table.specs.LuaState.{LuaState}
use Rattle.lua_table.specs.Heap.{table_at, metatable_at, with_metatable, with_stored}
use Rattle.lua_table.specs.Pairs.{Pairs, value_in, border_of, next_in}
use Rattle.lua_table.specs.declared.next.Next.{Next as Found}
use Rattle.lua_table.specs.declared.next.Next.TheVariants.{Entry, Last, NoKey}
use Rattle.lua_table.specs.declared.call.LibTurn.TheVariants as turns
use Rattle.lua_base.specs.Calls.{Turned, turned, gives, paying, raised, bad_argument}
use Rattle.lua_base.specs.Arguments.{argument, has_argument, number_in, number_or, table_in}

abbrev pub on_found : State LuaState → LibFn → Place → Option TableId → (TableId → Turned) → Turned
on_found s f place (Some t) go = go t
on_found s f place None go = bad_argument s place 1 f

-- goes on with the table that the first argument of a function has to be
abbrev pub on_table : State LuaState → LibFn → List Value → Place → (TableId → Turned) → Turned
on_table s f vs place go = on_found s f place (table_in (argument vs 0)) go

-- goes on where a function has an argument of this number, from 0, which may be any value
abbrev pub on_argument : State LuaState → LibFn → List Value → Place → ℕ → Turned → Turned
on_argument s f vs place i go = if has_argument vs i then go else bad_argument s place (i + 1) f

-- ---- metatables

abbrev pub table_or_nil : Option TableId → Value
table_or_nil (Some t) = values.Table t
table_or_nil None = values.Nil

-- the metatable of a value, and nil where it has none; tables alone have one
abbrev pub metatable_of : LuaState → Value → Value
metatable_of s (values.Table t) = table_or_nil (metatable_at s t)
metatable_of s v = values.Nil

abbrev pub getmetatable_turned : State LuaState → List Value → Place → Turned
getmetatable_turned s vs place =
    on_argument s GetMetatable vs place 0 (gives s (metatable_of s.world (argument vs 0) ∷ []))

-- gives a table a metatable, or takes it away with nil
abbrev pub given_metatable : State LuaState → TableId → Value → Place → Turned
given_metatable s t values.Nil place =
    turned (turns.Values (values.Table t ∷ [])) (state (with_metatable s.world t None) s.left)
given_metatable s t (values.Table m) place =
    turned (turns.Values (values.Table t ∷ [])) (state (with_metatable s.world t (Some m)) s.left)
given_metatable s t v place = bad_argument s place 2 SetMetatable

-- `setmetatable` gives the table
abbrev pub setmetatable_turned : State LuaState → List Value → Place → Turned
setmetatable_turned s vs place =
    on_table s SetMetatable vs place (λ t.
    on_argument s SetMetatable vs place 1 (given_metatable s t (argument vs 1) place))

-- ---- without handlers

abbrev pub rawequal_turned : State LuaState → List Value → Place → Turned
rawequal_turned s vs place =
    on_argument s RawEqual vs place 0
    (on_argument s RawEqual vs place 1 (gives s (values.Boolean (same_value (argument vs 0) (argument vs 1)) ∷ [])))

abbrev pub rawget_turned : State LuaState → List Value → Place → Turned
rawget_turned s vs place =
    on_table s RawGet vs place (λ t.
    on_argument s RawGet vs place 1 (gives s (value_in (table_at s.world t) (argument vs 1) ∷ [])))

-- `rawset` gives the table
abbrev pub stored_raw : State LuaState → TableId → Value → Value → Place → Turned
stored_raw s t key v place =
    if is_nil key then raised s place (codes "table index is nil")
    else turned (turns.Values (values.Table t ∷ [])) (state (with_stored s.world t key v) s.left)

abbrev pub rawset_turned : State LuaState → List Value → Place → Turned
rawset_turned s vs place =
    on_table s RawSet vs place (λ t.
    on_argument s RawSet vs place 1
    (on_argument s RawSet vs place 2 (stored_raw s t (argument vs 1) (argument vs 2) place)))

-- ---- walks

-- an entry gives its key and its value, and the end gives nil
abbrev pub found : State LuaState → Place → Found → Turned
found s place (Entry key v) = gives s (key ∷ v ∷ [])
found s place Last = gives s (values.Nil ∷ [])
found s place NoKey = raised s place (codes "invalid key to 'next'")

-- `next` gives the entry after that of a key, and the first one for nil
abbrev pub next_turned : State LuaState → List Value → Place → Turned
next_turned s vs place = on_table s Next vs place (λ t. found s place (next_in (table_at s.world t) (argument vs 1)))

-- `pairs` gives what a generic `for` walks over a table with: `next`, the table and nil
abbrev pub pairs_turned : State LuaState → List Value → Place → Turned
pairs_turned s vs place =
    on_table s PairsFn vs place (λ t. gives s (values.Library Next ∷ values.Table t ∷ values.Nil ∷ []))

-- `ipairs` gives a function that goes to the next number, the table and 0
abbrev pub ipairs_turned : State LuaState → List Value → Place → Turned
ipairs_turned s vs place =
    on_table s Ipairs vs place (λ t. gives s (values.Library IpairsNext ∷ values.Table t ∷ values.Number (pos 0) ∷ []))

abbrev pub value_if_any : Pairs → Option ℤ → Value
value_if_any pairs (Some z) = value_in pairs (values.Number z)
value_if_any pairs None = values.Nil

-- the value under a whole number; no value stands under one that is out of the profile
abbrev pub value_under : Pairs → ℤ → Value
value_under pairs z = value_if_any pairs (number_from z)

abbrev pub step_to : State LuaState → Option ℤ → Value → Turned
step_to s (Some z) v = if is_nil v then gives s [] else gives s (values.Number z ∷ v ∷ [])
step_to s None v = gives s []

abbrev pub step_from : State LuaState → TableId → Place → Option ℤ → Turned
step_from s t place (Some z) =
    step_to s (number_from (z +ℤ pos 1)) (value_under (table_at s.world t) (z +ℤ pos 1))
step_from s t place None = bad_argument s place 2 IpairsNext

-- that function gives the next number and the value under it, and nothing where this is nil
abbrev pub ipairs_next_turned : State LuaState → List Value → Place → Turned
ipairs_next_turned s vs place =
    on_table s IpairsNext vs place (λ t. step_from s t place (number_in s.world (argument vs 1)))

-- ---- unpack

-- so many values from a number on
abbrev pub values_from : Pairs → ℤ → ℕ → List Value
values_from pairs z zero = []
values_from pairs z (suc n) = values_from pairs z n ++ value_under pairs (z +ℤ pos n) ∷ []

-- how many numbers there are from one to another
abbrev pub count_to : ℤ → ℕ
count_to (pos n) = n
count_to z = 0

abbrev pub counted : ℤ → ℤ → ℕ
counted first last = count_to (last -ℤ first +ℤ pos 1)

-- so many values are moved, each of which is paid for; more than 4,096 aren't given
abbrev pub unpacked : State LuaState → TableId → Place → ℤ → ℕ → Turned
unpacked s t place first count =
    if nat_lt 4096 count then raised s place (codes "too many results")
    else paying s count (turns.Values (values_from (table_at s.world t) first count)) s.world

abbrev pub unpack_to : State LuaState → TableId → Place → ℤ → Option ℤ → Turned
unpack_to s t place first (Some last) = unpacked s t place first (counted first last)
unpack_to s t place first None = bad_argument s place 3 Unpack

abbrev pub unpack_from : State LuaState → TableId → Value → Place → Option ℤ → Turned
unpack_from s t last place (Some first) =
    unpack_to s t place first (number_or s.world last (pos (border_of (table_at s.world t))))
unpack_from s t last place None = bad_argument s place 2 Unpack

-- `unpack` gives the values under the numbers from its second argument, which is 1 where it isn't there, to its third, which is the
-- table's border where it isn't there
abbrev pub unpack_turned : State LuaState → List Value → Place → Turned
unpack_turned s vs place =
    on_table s Unpack vs place (λ t. unpack_from s t (argument vs 2) place (number_or s.world (argument vs 1) (pos 1)))
