-- The heap with which a source begins, step by step.
use Rattle.std.proofs.Common.{◌≡◌, refl, codes}
use Rattle.tl_base.specs.declared.ids.TableId.{TableId}
use Rattle.tl_base.specs.declared.ids.TextId.{TextId}
use Rattle.lua_value.specs.declared.value.Value.TheVariants as values
use Rattle.lua_table.specs.LuaState.{LuaState}
use Rattle.lua_table.specs.Heap.{empty, next_table, with_table, with_text, interned_id}
use Rattle.lua_base.specs.Opening.{basic, on_texts, on_tables, opening, with_functions, with_globals, with_named}

pub globals_by : (h0 h1 h2 h3 h4 h5 h6 : LuaState) (g t u : TableId) (v : TextId) →
    h1 ≡ with_named h0 g (codes "_G") (values.Table g) →
    v ≡ interned_id h1 (codes "Lua 5.1") → h2 ≡ with_text h1 (codes "Lua 5.1") →
    h3 ≡ with_named h2 g (codes "_VERSION") (values.Text v) →
    h4 ≡ with_functions h3 g basic →
    h5 ≡ with_named h4 g (codes "string") (values.Table t) →
    h6 ≡ with_named h5 g (codes "table") (values.Table u) → h6 ≡ with_globals h0 g t u
unfolding with_globals
globals_by h0 h1 h2 h3 h4 h5 h6 g t u v e1 ev e2 e3 e4 e5 e6 =
    rw e6 (rw e5 (rw e4 (rw e3 (rw e2 (rw ev (rw e1 refl))))))

pub opening_by : (h0 h1 h2 h3 h4 h5 h6 : LuaState) (g t u : TableId) →
    h0 ≡ empty → g ≡ next_table h0 → h1 ≡ with_table h0 → t ≡ next_table h1 → h2 ≡ with_table h1 →
    u ≡ next_table h2 → h3 ≡ with_table h2 →
    h4 ≡ with_globals h3 g t u → h5 ≡ with_functions h4 t on_texts → h6 ≡ with_functions h5 u on_tables →
    h6 ≡ opening
opening_by h0 h1 h2 h3 h4 h5 h6 g t u e0 eg e1 et e2 eu e3 e4 e5 e6 =
    rw e6 (rw e5 (rw e4 (rw e3 (rw eu (rw e2 (rw et (rw e1 (rw eg (rw e0 refl)))))))))
