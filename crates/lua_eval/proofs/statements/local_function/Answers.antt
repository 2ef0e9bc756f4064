use Rattle.lua_eval.proofs.Turning.{local_function_goes}
use Rattle.lua_table.proofs.Keeping.{keeps_closure}
use Rattle.lua_table.proofs.Keeping.{heap_keeps_by}
use Rattle.lua_eval.proofs.statements.local_function.Goals as goal

pub returns-clause-means : goal.returns-clause-means
returns-clause-means c = λ items left fs.
    let a = c.args in
    local_function_goes items fs a.body a.scope c.new.result a.heap.now c.new_closure.new.self c.declare.new.heap left
    c.in_ok-made.made c.new.ensures c.in_ok-made.ensures.id c.in_ok-made.ensures.ok c.in_ok-declare.ensures.ok

pub returns-clause-kept : goal.returns-clause-kept
returns-clause-kept c =
    heap_keeps_by c.args.heap.now c.new_closure.new.self _ c.declare.new.heap c.in_ok-made.ensures.ok (keeps_closure c.args.heap.now _)
    c.in_ok-declare.ensures.kept
