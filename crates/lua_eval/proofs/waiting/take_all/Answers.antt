use Rattle.lua_eval.proofs.Waited.{take_goes}
use Rattle.lua_eval.proofs.waiting.take_all.Goals as goal

pub returns-clause-means : goal.returns-clause-means
returns-clause-means c = λ items left fs.
    let a = c.args in
    take_goes items fs a.wait a.scope.now a.values.now c.new.result a.heap.now c.take.new.heap left c.new.ensures c.in_ok-take.ensures.ok
