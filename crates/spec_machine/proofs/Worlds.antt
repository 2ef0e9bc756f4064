-- Worlds of which one part is another one, as calls on that part leave them.
use Rattle.std.proofs.Common.{◌≡◌, ap, subst, ◌∙◌}
use Rattle.lua_table.specs.LuaState.{LuaState}
use Rattle.lua_table.specs.Keeping.{KeepsHeap}
use Rattle.terra_term.specs.Held.{Held}
use Rattle.exotype.specs.World.{StageState, with_heap, with_store}
use Rattle.spec_machine.specs.Keeping.{KeepsStage, KeepsStore}
use Rattle.spec_machine.proofs.Keeping.{kept_as, keeps_heap, keeps_store}

-- a world whose heap is this one
pub heap_is : (w v new : StageState) (heap : LuaState) → v ≡ w → new ≡ with_heap v new.heap → new.heap ≡ heap → new ≡ with_heap w heap
heap_is w v new heap same by is = by ∙ ap (λ (h : LuaState). with_heap v h) is ∙ ap (λ (x : StageState). with_heap x heap) same

-- a world whose store is this one
pub store_is : (w v new : StageState) (store : Held) → v ≡ w → new ≡ with_store v new.store → new.store ≡ store → new ≡ with_store w store
store_is w v new store same by is = by ∙ ap (λ (s : Held). with_store v s) is ∙ ap (λ (x : StageState). with_store x store) same

-- a world where the heap alone is another
pub heap_kept : (w v new : StageState) → v ≡ w → new ≡ with_heap v new.heap → KeepsHeap v.heap new.heap → KeepsStage w new
heap_kept w v new same by kept =
    subst (λ (x : StageState). KeepsStage x new) same (kept_as v new (with_heap v new.heap) by (keeps_heap v new.heap kept))

-- a world where the store alone is another
pub store_kept : (w v new : StageState) → v ≡ w → new ≡ with_store v new.store → KeepsStore v.store new.store → KeepsStage w new
store_kept w v new same by kept =
    subst (λ (x : StageState). KeepsStage x new) same (kept_as v new (with_store v new.store) by (keeps_store v new.store kept))

-- a world whose heap or store is made of what it was
pub heap_by : (w v new : StageState) (make : LuaState → LuaState)
    → v ≡ w → new ≡ with_heap v new.heap → new.heap ≡ make v.heap → new ≡ with_heap w (make w.heap)
heap_by w v new make same by is =
    by ∙ ap (λ (h : LuaState). with_heap v h) is ∙ ap (λ (x : StageState). with_heap x (make x.heap)) same

pub store_by : (w v new : StageState) (make : Held → Held)
    → v ≡ w → new ≡ with_store v new.store → new.store ≡ make v.store → new ≡ with_store w (make w.store)
store_by w v new make same by is =
    by ∙ ap (λ (s : Held). with_store v s) is ∙ ap (λ (x : StageState). with_store x (make x.store)) same
