use Rattle.std.proofs.Common.{refl, sym, subst}
use Rattle.std.proofs.lemmas.Result.{on_ok_weaker}
use Rattle.lua_table.specs.LuaState.{LuaState}
use Rattle.lua_table.specs.Keeping.{KeepsHeap}
use Rattle.lua_table.proofs.Keeping.{keeps_printed}
use Rattle.exotype.specs.contracts.world.World.{the_view}
use Rattle.stage_library.proofs.Keeping.{heap_on}
use Rattle.stage_loop.proofs.raising.print.Goals as goal

pub returns-clause-kept : goal.returns-clause-kept
returns-clause-kept c =
    let heap = c.world.inside.heap in
    heap_on c.print.result _ (the_view c.world.inside) _ c.world.view_is refl
    (on_ok_weaker c.print.result
    (λ same. subst (λ (h : LuaState). KeepsHeap heap h) (sym same) (keeps_printed heap c.args.output.now)) c.print.ensures.ok)
