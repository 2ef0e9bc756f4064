-- The functions on tables (Lua 5.1 manual, section 5.5). They read and store what a table holds itself, and ask for no handler. The end of
-- a table's list is its border.
use Rattle.std.specs.Prelude.{ℕ, zero, suc, ◌+◌, ◌-◌, ℤ, pos, ◌+ℤ◌, List, [], ◌∷◌, ◌++◌, length, ◌==◌, ◌&&◌, nat_le, nat_lt, int_le, Option}
use Rattle.std.specs.Prelude.{Some, None, Result, Ok, Err, if◌then◌else◌}
use Rattle.std.specs.Int.{int_gap}
use Rattle.tl_base.specs.declared.ids.TableId.{TableId}
use Rattle.tl_base.specs.declared.place.Place.{Place}
use Rattle.tl_base.specs.Layer.{State, state}
use Rattle.lua_value.specs.declared.library.LibFn.TheVariants.{Concat, TableInsert, Remove}
use Rattle.lua_value.specs.declared.value.Value.{Value}
use Rattle.lua_value.specs.declared.value.Value.TheVariants as values
use Rattle.lua_table.specs.LuaState.{LuaState}
use Rattle.lua_table.specs.Heap.{table_at, with_stored}
use Rattle.lua_table.specs.Pairs.{value_in}
use Rattle.lua_table.specs.declared.call.LibTurn.TheVariants as turns
use Rattle.lua_base.specs.Arguments.{argument, number_in, number_or, table_in}
use Rattle.lua_base.specs.Calls.{Turned, gives, paying, bad_argument}
use Rattle.lua_textlib.specs.Arguments.{given, text_in, text_or}
use Rattle.lua_textlib.specs.Answers.{one_value, making_or, grown}
use Rattle.lua_textlib.specs.declared.refusal.Refusal.{Refusal}
use Rattle.lua_textlib.specs.declared.refusal.Refusal.TheVariants.{BadArgument, Spent}
pub use Rattle.lua_table.specs.Heap.{end_of}

-- what a table holds under a whole number
abbrev pub held : LuaState → TableId → ℤ → Value
held s t z = value_in (table_at s t) (values.Number z)

abbrev pub with_held : LuaState → TableId → ℤ → Value → LuaState
with_held s t z v = with_stored s t (values.Number z) v

-- ---- concat

-- what was joined of a table's values, or what ended it, and the units that are left
pub record Joined : Type 0 where
  pub made : Result (List ℕ) Refusal
  pub left : ℕ

-- a value of a table with what stands before it; the table isn't of its form where the value is neither a text nor a number
abbrev pub joined_value : LuaState → List ℕ → List ℕ → Value → Result (List ℕ) Refusal
joined_value s made before v = given (text_in s v) (Err (BadArgument 1)) (λ bytes. grown made (before ++ bytes))

-- a value under a number is paid for, and then read
abbrev pub joined_step : LuaState → TableId → List ℕ → ℤ → List ℕ → ℕ → Joined
joined_step s t before z made left =
    if nat_le 1 left then record { made = joined_value s made before (held s t z); left = left - 1 }
    else record { made = Err Spent; left = left }

abbrev pub and_then : Result (List ℕ) Refusal → ℕ → (List ℕ → ℕ → Joined) → Joined
and_then (Ok made) left go = go made left
and_then (Err refusal) left go = record { made = Err refusal; left = left }

-- so many values of a table, from one on. `before` stands before the first one of them, and the separator before the others
abbrev pub joined : LuaState → TableId → List ℕ → List ℕ → ℤ → ℕ → List ℕ → ℕ → Joined
joined s t separator before z zero made left = record { made = Ok made; left = left }
joined s t separator before z (suc n) made left =
    let step = joined_step s t before z made left in
    and_then step.made step.left (λ more rest. joined s t separator separator (z +ℤ pos 1) n more rest)

-- how many whole numbers there are from one to another one, which is among them
abbrev pub count_between : ℤ → ℤ → ℕ
count_between i j = if int_le i j then int_gap i j + 1 else 0

-- what is answered of joined values
abbrev pub joined_turned : LuaState → Joined → Place → Turned
joined_turned s j place = making_or (state s j.left) j.made place Concat

-- `concat` gives the text of a table's values from a number to another one, or of its list, with a separator between them, or nothing
abbrev pub concat_turned : State LuaState → List Value → Place → Turned
concat_turned s vs place =
    given (table_in (argument vs 0)) (bad_argument s place 1 Concat) (λ t.
    given (text_or s.world (argument vs 1) []) (bad_argument s place 2 Concat) (λ separator.
    given (number_or s.world (argument vs 2) (pos 1)) (bad_argument s place 3 Concat) (λ i.
    given (number_or s.world (argument vs 3) (pos (end_of s.world t))) (bad_argument s place 4 Concat) (λ j.
    joined_turned s.world (joined s.world t separator [] i (count_between i j) [] s.left) place))))

-- ---- insert

-- so many values, from a number on, are each moved to the next number, the last one first
abbrev pub shifted_up : LuaState → TableId → ℤ → ℕ → LuaState
shifted_up s t z zero = s
shifted_up s t z (suc n) = shifted_up (with_held s t (z +ℤ pos (n + 1)) (held s t (z +ℤ pos n))) t z n

-- a value is put under a number, behind the shift of those from there to the end. Each of these is paid for
abbrev pub inserted : State LuaState → TableId → ℤ → Value → Turned
inserted s t z v =
    let shift = int_gap z (pos (end_of s.world t + 1)) in
    paying s (shift + 1) (turns.Values []) (with_held (shifted_up s.world t z shift) t z v)

-- `insert` puts a value behind the end of a list, or under a number, for which the values from there on make way. It has
-- two arguments or three
abbrev pub insert_turned : State LuaState → List Value → Place → Turned
insert_turned s vs place =
    given (table_in (argument vs 0)) (bad_argument s place 1 TableInsert) (λ t.
    if nat_lt (length vs) 2 then bad_argument s place 2 TableInsert
    else (if length vs == 2 then inserted s t (pos (end_of s.world t + 1)) (argument vs 1)
    else given (number_in s.world (argument vs 1)) (bad_argument s place 2 TableInsert) (λ z.
    if length vs == 3 then inserted s t z (argument vs 2) else bad_argument s place 4 TableInsert)))

-- ---- remove

-- so many values behind a number are each moved to the number before, the first one first
abbrev pub shifted_down : LuaState → TableId → ℤ → ℕ → LuaState
shifted_down s t z zero = s
shifted_down s t z (suc n) = shifted_down (with_held s t z (held s t (z +ℤ pos 1))) t (z +ℤ pos 1) n

-- the value under a number of a list is taken out: those behind it are shifted, and the end is emptied. Each of these is paid for
abbrev pub removed : State LuaState → TableId → ℤ → Turned
removed s t z =
    let shift = int_gap z (pos (end_of s.world t)) in
    paying s (shift + 1) (one_value (held s.world t z)) (with_held (shifted_down s.world t z shift) t (pos (end_of s.world t)) values.Nil)

-- `remove` takes the value under a number of a list out, or the last one, and gives it. Outside of the list it does nothing
abbrev pub remove_turned : State LuaState → List Value → Place → Turned
remove_turned s vs place =
    given (table_in (argument vs 0)) (bad_argument s place 1 Remove) (λ t.
    given (number_or s.world (argument vs 1) (pos (end_of s.world t))) (bad_argument s place 2 Remove) (λ z.
    if int_le (pos 1) z && int_le z (pos (end_of s.world t)) then removed s t z else gives s []))

-- a step that left this text, or was refused
abbrev pub grew : Option Refusal → List ℕ → Result (List ℕ) Refusal
grew None made = Ok made
grew (Some refusal) made = Err refusal
