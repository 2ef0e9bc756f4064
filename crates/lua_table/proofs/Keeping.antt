-- Each word of a heap keeps what the heap has.
use Rattle.std.proofs.Common.{ℕ, ◌<◌, ◌≤◌, ◌≡◌, Bool, true, false, ◌==◌, List, [], ◌∷◌, ◌++◌, length, get_or, set, Option, Some, None, refl}
use Rattle.std.proofs.Common.{sym, ◌∙◌, ap, subst, arith}
use Rattle.std.proofs.Math.ListN.{get_or-append, length-set}
use Rattle.std.proofs.lemmas.Bool.Decides.{nat_tests}
use Rattle.std.proofs.lemmas.List.{length-append, append-nil, append_assoc, get_or-set_same, get_or-set_other}
use Rattle.tl_base.specs.declared.ids.NodeId.{NodeId}
use Rattle.tl_base.specs.declared.ids.TableId.{TableId}
use Rattle.tl_base.specs.declared.ids.CellId.{CellId}
use Rattle.tl_base.specs.declared.ids.EnvId.{EnvId}
use Rattle.tl_base.specs.declared.ids.ClosureId.{ClosureId}
use Rattle.lua_value.specs.declared.value.Value.{Value}
use Rattle.lua_table.specs.declared.env.Closure.{Closure}
use Rattle.lua_table.specs.declared.env.Env.{Env}
use Rattle.lua_table.specs.LuaState.{LuaState}
use Rattle.lua_table.specs.Heap.{with_table, with_stored, with_metatable, with_cell, with_set, with_env, env_at, with_declared}
use Rattle.lua_table.specs.Heap.{with_closure, with_macro, text_place, texts_with, with_text, with_printed, deeper, shallower}
use Rattle.lua_table.specs.Keeping.{IsFront, KeepsEnv, KeepsHeap}

pub front_self : {X : Type 0} (xs : List X) → IsFront xs xs
front_self xs = ([], sym (append-nil xs))

pub front_more : {X : Type 0} (xs ys : List X) → IsFront xs (xs ++ ys)
front_more xs ys = (ys, refl)

pub front_then : {X : Type 0} (xs ys zs : List X) → IsFront xs ys → IsFront ys zs → IsFront xs zs
front_then xs ys zs f g = (f.0 ++ g.0, g.1 ∙ ap (λ l. l ++ g.0) f.1 ∙ append_assoc xs f.0 g.0)

envs_same : (old new : LuaState) → new.envs ≡ old.envs → (id : EnvId) → KeepsEnv old new id
envs_same old new e id =
    let same : env_at new id ≡ env_at old id = ap (λ (envs : List Env). get_or envs id.0 (record { block = record { 0 = 0 }; outer = None; cells = [] })) e in
    record {
      owner = ap (λ (env : Env). env.block) same;
      outer = ap (λ (env : Env). env.outer) same;
      declared = subst (IsFront (env_at old id).cells) (sym (ap (λ (env : Env). env.cells) same)) (front_self (env_at old id).cells);
    }

pub keeps_itself : (s : LuaState) → KeepsHeap s s
keeps_itself s = record {
  texts = front_self s.texts;
  closures = front_self s.closures;
  macros = front_self s.macros;
  printed = front_self s.printed;
  environments = λ id h. envs_same s s refl id;
  more_envs = omega arith;
  more_tables = omega arith;
  more_cells = omega arith;
}

pub keeps_then : (a b c : LuaState) → KeepsHeap a b → KeepsHeap b c → KeepsHeap a c
keeps_then a b c f g = record {
  texts = front_then a.texts b.texts c.texts f.texts g.texts;
  closures = front_then a.closures b.closures c.closures f.closures g.closures;
  macros = front_then a.macros b.macros c.macros f.macros g.macros;
  printed = front_then a.printed b.printed c.printed f.printed g.printed;
  environments = λ id h.
      let first = f.environments id h in
      let within : id.0 < length b.envs = omega (arith, h, f.more_envs) in
      let later = g.environments id within in
      record {
        owner = later.owner ∙ first.owner;
        outer = later.outer ∙ first.outer;
        declared = front_then (env_at a id).cells (env_at b id).cells (env_at c id).cells first.declared later.declared;
      };
  more_envs = omega (arith, f.more_envs, g.more_envs);
  more_tables = omega (arith, f.more_tables, g.more_tables);
  more_cells = omega (arith, f.more_cells, g.more_cells);
}

-- a heap that is another one, then what is kept after it
pub heap_keeps_by : (s t w u : LuaState) → t ≡ w → KeepsHeap s w → KeepsHeap t u → KeepsHeap s u
heap_keeps_by s t w u is first later = keeps_then s t u (subst (KeepsHeap s) (sym is) first) later

-- a heap that is another one, which is kept
pub heap_kept_as : (s t w : LuaState) → t ≡ w → KeepsHeap s w → KeepsHeap s t
heap_kept_as s t w is kept = subst (KeepsHeap s) (sym is) kept

-- where the environments are as they were
keeps_by : (old new : LuaState) → IsFront old.texts new.texts → IsFront old.closures new.closures → IsFront old.macros new.macros → IsFront old.printed new.printed → new.envs ≡ old.envs → length old.tables ≤ length new.tables → length old.cells ≤ length new.cells → KeepsHeap old new
keeps_by old new t c m p e tables cells = record {
  texts = t;
  closures = c;
  macros = m;
  printed = p;
  environments = λ id h. envs_same old new e id;
  more_envs = omega (arith, ap length e);
  more_tables = tables;
  more_cells = cells;
}

longer : {X : Type 0} (xs ys : List X) → length xs ≤ length (xs ++ ys)
longer xs ys = omega (arith, length-append xs ys)

kept_set : {X : Type 0} (xs : List X) (i : ℕ) (x : X) → length xs ≤ length (set xs i x)
kept_set xs i x = omega (arith, length-set xs i x)

pub keeps_table : (s : LuaState) → KeepsHeap s (with_table s)
keeps_table s = keeps_by s (with_table s) (front_self s.texts) (front_self s.closures) (front_self s.macros) (front_self s.printed) refl (longer s.tables _) (omega arith)

pub keeps_stored : (s : LuaState) (id : TableId) (key value : Value) → KeepsHeap s (with_stored s id key value)
keeps_stored s id key value = keeps_by s (with_stored s id key value) (front_self s.texts) (front_self s.closures) (front_self s.macros) (front_self s.printed) refl (kept_set s.tables id.0 _) (omega arith)

pub keeps_metatable : (s : LuaState) (id : TableId) (metatable : Option TableId) → KeepsHeap s (with_metatable s id metatable)
keeps_metatable s id metatable = keeps_by s (with_metatable s id metatable) (front_self s.texts) (front_self s.closures) (front_self s.macros) (front_self s.printed) refl (kept_set s.tables id.0 _) (omega arith)

pub keeps_cell : (s : LuaState) (value : Value) → KeepsHeap s (with_cell s value)
keeps_cell s value = keeps_by s (with_cell s value) (front_self s.texts) (front_self s.closures) (front_self s.macros) (front_self s.printed) refl (omega arith) (longer s.cells _)

pub keeps_set : (s : LuaState) (id : CellId) (value : Value) → KeepsHeap s (with_set s id value)
keeps_set s id value = keeps_by s (with_set s id value) (front_self s.texts) (front_self s.closures) (front_self s.macros) (front_self s.printed) refl (omega arith) (kept_set s.cells id.0 value)

pub keeps_closure : (s : LuaState) (closure : Closure) → KeepsHeap s (with_closure s closure)
keeps_closure s closure = keeps_by s (with_closure s closure) (front_self s.texts) (front_more s.closures _) (front_self s.macros) (front_self s.printed) refl (omega arith) (omega arith)

pub keeps_macro : (s : LuaState) (function : ClosureId) → KeepsHeap s (with_macro s function)
keeps_macro s function = keeps_by s (with_macro s function) (front_self s.texts) (front_self s.closures) (front_more s.macros _) (front_self s.printed) refl (omega arith) (omega arith)

texts_front : (place : Option ℕ) (texts : List (List ℕ)) (bytes : List ℕ) → IsFront texts (texts_with place texts bytes)
texts_front (Some place) texts bytes = front_self texts
texts_front None texts bytes = front_more texts (bytes ∷ [])

pub keeps_text : (s : LuaState) (bytes : List ℕ) → KeepsHeap s (with_text s bytes)
keeps_text s bytes = keeps_by s (with_text s bytes) (texts_front (text_place s.texts bytes) s.texts bytes) (front_self s.closures) (front_self s.macros) (front_self s.printed) refl (omega arith) (omega arith)

pub keeps_printed : (s : LuaState) (bytes : List ℕ) → KeepsHeap s (with_printed s bytes)
keeps_printed s bytes = keeps_by s (with_printed s bytes) (front_self s.texts) (front_self s.closures) (front_self s.macros) (front_more s.printed bytes) refl (omega arith) (omega arith)

pub keeps_deeper : (s : LuaState) → KeepsHeap s (deeper s)
keeps_deeper s = keeps_by s (deeper s) (front_self s.texts) (front_self s.closures) (front_self s.macros) (front_self s.printed) refl (omega arith) (omega arith)

pub keeps_shallower : (s : LuaState) → KeepsHeap s (shallower s)
keeps_shallower s = keeps_by s (shallower s) (front_self s.texts) (front_self s.closures) (front_self s.macros) (front_self s.printed) refl (omega arith) (omega arith)

-- one environment in the place of another
env_by : (old new : LuaState) (id : EnvId) (env : Env) → env_at new id ≡ env → env.block ≡ (env_at old id).block → env.outer ≡ (env_at old id).outer → IsFront (env_at old id).cells env.cells → KeepsEnv old new id
env_by old new id env e block outer cells = record {
  owner = ap (λ (v : Env). v.block) e ∙ block;
  outer = ap (λ (v : Env). v.outer) e ∙ outer;
  declared = subst (IsFront (env_at old id).cells) (sym (ap (λ (v : Env). v.cells) e)) cells;
}

no_env : Env
no_env = record { block = record { 0 = 0 }; outer = None; cells = [] }

pub keeps_env : (s : LuaState) (block : NodeId) (outer : Option EnvId) → KeepsHeap s (with_env s block outer)
unfolding no_env
keeps_env s block outer = record {
  texts = front_self s.texts;
  closures = front_self s.closures;
  macros = front_self s.macros;
  printed = front_self s.printed;
  environments = λ id h. env_by s (with_env s block outer) id (env_at s id) (get_or-append s.envs _ no_env id.0 h) refl refl (front_self (env_at s id).cells);
  more_envs = longer s.envs _;
  more_tables = omega arith;
  more_cells = omega arith;
}

declared_by : (s : LuaState) (env id : EnvId) (cell : CellId) (same : Bool) → (id.0 == env.0) ≡ same → id.0 < length s.envs → KeepsEnv s (with_declared s env cell) id
unfolding no_env
declared_by s env id cell true e h =
    let at : id.0 ≡ env.0 = grind (arith, nat_tests, e) in
    let made : Env = record { block = (env_at s env).block; outer = (env_at s env).outer; cells = (env_at s env).cells ++ cell ∷ [] } in
    let within : env.0 < length s.envs = omega (arith, at, h) in
    let old : env_at s id ≡ env_at s env = ap (λ n. get_or s.envs n no_env) at in
    let new : env_at (with_declared s env cell) id ≡ made = ap (λ n. get_or (set s.envs env.0 made) n no_env) at ∙ get_or-set_same s.envs env.0 made no_env within in
    env_by s (with_declared s env cell) id made new (ap (λ (v : Env). v.block) (sym old)) (ap (λ (v : Env). v.outer) (sym old))
    (subst (λ (cells : List CellId). IsFront cells made.cells) (sym (ap (λ (v : Env). v.cells) old)) (front_more (env_at s env).cells (cell ∷ [])))
declared_by s env id cell false e h =
    let other : id.0 ≡ env.0 → ⊥ = λ at. grind (arith, nat_tests, e, at) in
    env_by s (with_declared s env cell) id (env_at s id) (get_or-set_other s.envs env.0 id.0 _ no_env other) refl refl (front_self (env_at s id).cells)

pub keeps_declared : (s : LuaState) (env : EnvId) (cell : CellId) → KeepsHeap s (with_declared s env cell)
keeps_declared s env cell = record {
  texts = front_self s.texts;
  closures = front_self s.closures;
  macros = front_self s.macros;
  printed = front_self s.printed;
  environments = λ id h. declared_by s env id cell (id.0 == env.0) refl h;
  more_envs = kept_set s.envs env.0 _;
  more_tables = omega arith;
  more_cells = omega arith;
}
