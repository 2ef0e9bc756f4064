-- What stands in a table after its values were moved one by one.
use Rattle.std.proofs.Common.{◌≡◌, ◌≤◌, ◌<◌, ◌+◌, ℕ, zero, suc, inl, inr, ℤ, pos, ◌+ℤ◌, ◌<ℤ◌, List, length, refl, sym, ◌∙◌, ap, arith}
use Rattle.std.proofs.Math.ListN.{length-set}
use Rattle.std.proofs.lemmas.Bool.{cases_lt}
use Rattle.std.proofs.lemmas.Int.{ints}
use Rattle.std.proofs.lemmas.List.{get_or-set_same}
use Rattle.tl_base.specs.declared.ids.TableId.{TableId}
use Rattle.lua_value.specs.declared.value.Value.{Value}
use Rattle.lua_value.specs.declared.value.Value.TheVariants as values
use Rattle.lua_table.specs.LuaState.{LuaState}
use Rattle.lua_table.specs.Heap.{no_table, table_at, metatable_at}
use Rattle.lua_table.specs.declared.table.HeldTable.{HeldTable}
use Rattle.lua_table.specs.Pairs.{Pairs, value_in, with_value}
use Rattle.lua_table.proofs.Stored.{value_there, value_elsewhere}
use Rattle.lua_ops.proofs.Numbers.{not_equal}
use Rattle.lua_textlib.specs.Tables.{held, with_held, shifted_up, shifted_down}

-- ---- one store

stored_table : (s : LuaState) (t : TableId) (z : ℤ) (v : Value) → t.0 < length s.tables →
    table_at (with_held s t z v) t ≡ with_value (table_at s t) (values.Number z) v
stored_table s t z v h =
    let made : HeldTable = record { table = with_value (table_at s t) (values.Number z) v; metatable = metatable_at s t } in
    ap (λ (held : HeldTable). held.table) (get_or-set_same s.tables t.0 made no_table h)

held_there : (s : LuaState) (t : TableId) (z : ℤ) (v : Value) → t.0 < length s.tables → held (with_held s t z v) t z ≡ v
held_there s t z v h =
    ap (λ (ps : Pairs). value_in ps (values.Number z)) (stored_table s t z v h) ∙ value_there (table_at s t) (values.Number z) v

held_elsewhere : (s : LuaState) (t : TableId) (z k : ℤ) (v : Value) → t.0 < length s.tables → (k ≡ z → ⊥) →
    held (with_held s t z v) t k ≡ held s t k
held_elsewhere s t z k v h other =
    ap (λ (ps : Pairs). value_in ps (values.Number k)) (stored_table s t z v h)
    ∙ value_elsewhere (table_at s t) (values.Number z) v (values.Number k) (not_equal k z other)

still : (s : LuaState) (t : TableId) (z : ℤ) (v : Value) → t.0 < length s.tables → t.0 < length (with_held s t z v).tables
still s t z v h = omega (arith, h, length-set s.tables t.0 (record { table = with_value (table_at s t) (values.Number z) v; metatable = metatable_at s t }))

-- ---- values that are moved up

up_still : (s : LuaState) (t : TableId) (z : ℤ) (n : ℕ) → t.0 < length s.tables → t.0 < length (shifted_up s t z n).tables
up_still s t z zero h = h
up_still s t z (suc n) h =
    up_still (with_held s t (z +ℤ pos (n + 1)) (held s t (z +ℤ pos n))) t z n (still s t (z +ℤ pos (n + 1)) (held s t (z +ℤ pos n)) h)

up_else : (s : LuaState) (t : TableId) (z : ℤ) (n : ℕ) (k : ℤ) → t.0 < length s.tables → ((i : ℕ) → i < n → k ≡ z +ℤ pos (i + 1) → ⊥) →
    held (shifted_up s t z n) t k ≡ held s t k
up_else s t z zero k h other = refl
up_else s t z (suc n) k h other =
    let v = held s t (z +ℤ pos n) in
    up_else (with_held s t (z +ℤ pos (n + 1)) v) t z n k (still s t (z +ℤ pos (n + 1)) v h) (λ i l e. other i (omega (arith, l)) e)
    ∙ held_elsewhere s t (z +ℤ pos (n + 1)) k v h (other n (omega arith))

up_moved : (s : LuaState) (t : TableId) (z : ℤ) (n i : ℕ) → t.0 < length s.tables → i < n →
    held (shifted_up s t z n) t (z +ℤ pos (i + 1)) ≡ held s t (z +ℤ pos i)
up_moved s t z zero i h l = absurd (omega (arith, l))
up_moved s t z (suc n) i h l =
    let v = held s t (z +ℤ pos n) in
    let next = with_held s t (z +ℤ pos (n + 1)) v in
    let there : t.0 < length next.tables = still s t (z +ℤ pos (n + 1)) v h in
    elim (cases_lt i n) [
      | inl below ↦
          up_moved next t z n i there below
          ∙ held_elsewhere s t (z +ℤ pos (n + 1)) (z +ℤ pos i) v h (λ e. omega (arith, ints, e, below))
      | inr last ↦
          let same : i ≡ n = omega (arith, l, last) in
          rw same (
          up_else next t z n (z +ℤ pos (n + 1)) there (λ j m e. omega (arith, ints, e, m))
          ∙ held_there s t (z +ℤ pos (n + 1)) v h)
    ]

-- ---- values that are moved down

down_still : (s : LuaState) (t : TableId) (z : ℤ) (n : ℕ) → t.0 < length s.tables → t.0 < length (shifted_down s t z n).tables
down_still s t z zero h = h
down_still s t z (suc n) h =
    down_still (with_held s t z (held s t (z +ℤ pos 1))) t (z +ℤ pos 1) n (still s t z (held s t (z +ℤ pos 1)) h)

down_else : (s : LuaState) (t : TableId) (z : ℤ) (n : ℕ) (k : ℤ) → t.0 < length s.tables → ((i : ℕ) → i < n → k ≡ z +ℤ pos i → ⊥) →
    held (shifted_down s t z n) t k ≡ held s t k
down_else s t z zero k h other = refl
down_else s t z (suc n) k h other =
    let v = held s t (z +ℤ pos 1) in
    down_else (with_held s t z v) t (z +ℤ pos 1) n k (still s t z v h) (λ i l e. other (i + 1) (omega (arith, l)) (omega (arith, ints, e)))
    ∙ held_elsewhere s t z k v h (λ e. other 0 (omega arith) (omega (arith, ints, e)))

down_moved : (s : LuaState) (t : TableId) (z : ℤ) (n i : ℕ) → t.0 < length s.tables → i < n →
    held (shifted_down s t z n) t (z +ℤ pos i) ≡ held s t (z +ℤ pos (i + 1))
down_moved s t z zero i h l = absurd (omega (arith, l))
down_moved s t z (suc n) zero h l =
    let v = held s t (z +ℤ pos 1) in
    let first : z +ℤ pos 0 ≡ z = omega (arith, ints) in
    ap (held (shifted_down (with_held s t z v) t (z +ℤ pos 1) n) t) first
    ∙ down_else (with_held s t z v) t (z +ℤ pos 1) n z (still s t z v h) (λ j m e. omega (arith, ints, e, m))
    ∙ held_there s t z v h
down_moved s t z (suc n) (suc i) h l =
    let v = held s t (z +ℤ pos 1) in
    let next = with_held s t z v in
    let from : z +ℤ pos (suc i) ≡ (z +ℤ pos 1) +ℤ pos i = omega (arith, ints) in
    let to : (z +ℤ pos 1) +ℤ pos (i + 1) ≡ z +ℤ pos (suc i + 1) = omega (arith, ints) in
    ap (held (shifted_down next t (z +ℤ pos 1) n) t) from
    ∙ down_moved next t (z +ℤ pos 1) n i (still s t z v h) (omega (arith, l))
    ∙ ap (held next t) to
    ∙ held_elsewhere s t z (z +ℤ pos (suc i + 1)) v h (λ e. omega (arith, ints, e))

-- ---- the laws

pub insert_there : (s : LuaState) (t : TableId) (z : ℤ) (n : ℕ) (v : Value) → t.0 < length s.tables →
    held (with_held (shifted_up s t z n) t z v) t z ≡ v
insert_there s t z n v h = held_there (shifted_up s t z n) t z v (up_still s t z n h)

pub insert_moved : (s : LuaState) (t : TableId) (z : ℤ) (n : ℕ) (v : Value) (i : ℕ) → t.0 < length s.tables → i < n →
    held (with_held (shifted_up s t z n) t z v) t (z +ℤ pos (i + 1)) ≡ held s t (z +ℤ pos i)
insert_moved s t z n v i h l =
    held_elsewhere (shifted_up s t z n) t z (z +ℤ pos (i + 1)) v (up_still s t z n h) (λ e. omega (arith, ints, e)) ∙ up_moved s t z n i h l

pub insert_before : (s : LuaState) (t : TableId) (z : ℤ) (n : ℕ) (v : Value) (k : ℤ) → t.0 < length s.tables → k <ℤ z →
    held (with_held (shifted_up s t z n) t z v) t k ≡ held s t k
insert_before s t z n v k h l =
    held_elsewhere (shifted_up s t z n) t z k v (up_still s t z n h) (λ e. omega (arith, ints, e, l))
    ∙ up_else s t z n k h (λ i m e. omega (arith, ints, e, l))

pub insert_behind : (s : LuaState) (t : TableId) (z : ℤ) (n : ℕ) (v : Value) (k : ℤ) → t.0 < length s.tables → (z +ℤ pos n) <ℤ k →
    held (with_held (shifted_up s t z n) t z v) t k ≡ held s t k
insert_behind s t z n v k h l =
    held_elsewhere (shifted_up s t z n) t z k v (up_still s t z n h) (λ e. omega (arith, ints, e, l))
    ∙ up_else s t z n k h (λ i m e. omega (arith, ints, e, l, m))

pub remove_moved : (s : LuaState) (t : TableId) (z : ℤ) (n : ℕ) (i : ℕ) → t.0 < length s.tables → i < n →
    held (with_held (shifted_down s t z n) t (z +ℤ pos n) values.Nil) t (z +ℤ pos i) ≡ held s t (z +ℤ pos (i + 1))
remove_moved s t z n i h l =
    held_elsewhere (shifted_down s t z n) t (z +ℤ pos n) (z +ℤ pos i) values.Nil (down_still s t z n h) (λ e. omega (arith, ints, e, l)) ∙ down_moved s t z n i h l

pub remove_end : (s : LuaState) (t : TableId) (z : ℤ) (n : ℕ) → t.0 < length s.tables →
    held (with_held (shifted_down s t z n) t (z +ℤ pos n) values.Nil) t (z +ℤ pos n) ≡ values.Nil
remove_end s t z n h = held_there (shifted_down s t z n) t (z +ℤ pos n) values.Nil (down_still s t z n h)

pub remove_before : (s : LuaState) (t : TableId) (z : ℤ) (n : ℕ) (k : ℤ) → t.0 < length s.tables → k <ℤ z →
    held (with_held (shifted_down s t z n) t (z +ℤ pos n) values.Nil) t k ≡ held s t k
remove_before s t z n k h l =
    held_elsewhere (shifted_down s t z n) t (z +ℤ pos n) k values.Nil (down_still s t z n h) (λ e. omega (arith, ints, e, l))
    ∙ down_else s t z n k h (λ i m e. omega (arith, ints, e, l))

pub remove_behind : (s : LuaState) (t : TableId) (z : ℤ) (n : ℕ) (k : ℤ) → t.0 < length s.tables → (z +ℤ pos n) <ℤ k →
    held (with_held (shifted_down s t z n) t (z +ℤ pos n) values.Nil) t k ≡ held s t k
remove_behind s t z n k h l =
    held_elsewhere (shifted_down s t z n) t (z +ℤ pos n) k values.Nil (down_still s t z n h) (λ e. omega (arith, ints, e, l))
    ∙ down_else s t z n k h (λ i m e. omega (arith, ints, e, l, m))
