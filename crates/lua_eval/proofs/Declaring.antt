-- Loops over declarations and cells.
use Rattle.std.proofs.Common.{◌≡◌, ℕ, zero, suc, ◌+◌, ◌-◌, ◌<◌, ◌≤◌, List, [], ◌∷◌, ◌++◌, length, drop, get_or, refl, sym, ap, ◌∙◌}
use Rattle.std.proofs.Common.{add-zero, arith}
use Rattle.std.proofs.lemmas.List.{at_drop_more, at_drop_all, get_or_past}
use Rattle.tl_base.specs.declared.ids.EnvId.{EnvId}
use Rattle.tl_base.specs.declared.ids.CellId.{CellId}
use Rattle.lua_value.specs.declared.value.Value.{Value}
use Rattle.lua_value.specs.declared.value.Value.TheVariants.{Nil}
use Rattle.lua_table.specs.LuaState.{LuaState}
use Rattle.lua_table.specs.Heap.{cell_at, with_cell}
use Rattle.lua_table.specs.Cells.{first_value, further_values, declare, declare_all, with_cells, values_from}

declare_suc : (k m : ℕ) (env : EnvId) (vs : List Value) (s : LuaState) → k ≡ suc m → declare_all k env vs s ≡ declare_all m env (further_values vs) (declare env (first_value vs) s)
declare_suc k m env vs s e = rw e refl

-- one declaration more
pub declare_next : (n i : ℕ) (env : EnvId) (vs : List Value) (s : LuaState) → i < n → declare_all (n - i) env vs s ≡ declare_all (n - (i + 1)) env (further_values vs) (declare env (first_value vs) s)
declare_next n i env vs s h = declare_suc (n - i) (n - (i + 1)) env vs s (omega arith)

-- one fresh cell more
pub cells_next : (vs : List Value) (i : ℕ) (s : LuaState) → i < length vs → with_cells (drop i vs) s ≡ with_cells (drop (i + 1) vs) (with_cell s (get_or vs i Nil))
cells_next vs i s h = at_drop_more (λ us. with_cells us s) vs i Nil h

pub cells_end : (vs : List Value) (i : ℕ) (s : LuaState) → length vs ≤ i → with_cells (drop i vs) s ≡ s
cells_end vs i s h = at_drop_all (λ us. with_cells us s) vs i h

-- there is none past the last cell
pub past_cells : (s : LuaState) (id : CellId) → length s.cells ≤ id.0 → cell_at s id ≡ Nil
past_cells s id h = get_or_past s.cells id.0 Nil h

-- what one cell more holds
pub values_more : (s : LuaState) (cell : CellId) (n : ℕ) → values_from s cell (n + 1) ≡ values_from s cell n ++ cell_at s (record { 0 = cell.0 + n }) ∷ []
values_more s cell zero = ap (λ (m : ℕ). cell_at s (record { 0 = m }) ∷ []) (sym (add-zero cell.0))
values_more s cell (suc n) =
    let next : CellId = record { 0 = cell.0 + 1 } in
    let more : suc n + 1 ≡ suc (n + 1) = omega arith in
    let at : cell.0 + 1 + n ≡ cell.0 + suc n = omega arith in
    ap (λ (m : ℕ). values_from s cell m) more
    ∙ ap (λ (vs : List Value). cell_at s cell ∷ vs) (values_more s next n)
    ∙ ap (λ (m : ℕ). cell_at s cell ∷ (values_from s next n ++ cell_at s (record { 0 = m }) ∷ [])) at
