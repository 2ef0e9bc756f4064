use Rattle.std.proofs.Common.{◌≡◌, refl, sym, ap, ◌∙◌, arith}
use Rattle.lua_table.specs.LuaState.{LuaState}
use Rattle.lua_table.specs.Heap.{interned_id, with_text}
use Rattle.lua_table.proofs.Keeping.{keeps_text}
use Rattle.exotype.specs.World.{StageState, with_heap}
use Rattle.exotype.specs.contracts.world.World.{the_view}
use Rattle.spec_machine.proofs.Keeping.{kept_as, keeps_heap}
use Rattle.spec_machine.proofs.Texts.{text_got, text_refused}
use Rattle.spec_machine.proofs.Worlds.{heap_by}
use Rattle.spec_machine.proofs.raise.text.Goals as goal

pub returns-then-bytes-gt-MAX_LEN-clause-means : goal.returns-then-bytes-gt-MAX_LEN-clause-means
returns-then-bytes-gt-MAX_LEN-clause-means c = text_refused c.args.bytes.now c.args.world.now (omega arith)

pub returns-clause-means : goal.returns-clause-means
returns-clause-means c =
    let a = c.args in
    let w = a.world.now in
    let v = the_view c.world.inside in
    let bytes = a.bytes.now in
    text_got bytes w _ c.in_ok-id.id (omega arith)
    (c.in_ok-id.ensures.id ∙ ap (λ (x : StageState). interned_id x.heap bytes) c.world.view_is)
    (heap_by w v _ (λ (h : LuaState). with_text h bytes) c.world.view_is refl c.in_ok-id.ensures.ok)

pub returns-clause-kept : goal.returns-clause-kept
returns-clause-kept c =
    let a = c.args in
    let w = a.world.now in
    let v = the_view c.world.inside in
    let bytes = a.bytes.now in
    kept_as w _ (with_heap w (with_text w.heap bytes)) (heap_by w v _ (λ (h : LuaState). with_text h bytes) c.world.view_is refl c.in_ok-id.ensures.ok)
    (keeps_heap w (with_text w.heap bytes) (keeps_text w.heap bytes))
