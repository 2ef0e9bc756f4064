use Rattle.std.proofs.Common.{[], ◌∷◌}
use Rattle.lua_model.specs.declared.end.End.TheVariants.{Fell}
use Rattle.lua_eval.proofs.Waited.{take_passes}
use Rattle.lua_eval.proofs.waiting.pass.Goals as goal

pub returns-in_ok-take-in-Nothing-clause-passes : goal.returns-in_ok-take-in-Nothing-clause-passes
returns-in_ok-take-in-Nothing-clause-passes c = λ items left go.
    let a = c.args in
    rw c.in-Nothing.is (take_passes items a.wait a.scope.now [] (go (Fell [])) a.heap.now c.take.new.heap left c.in_ok-take-in-Nothing.ensures.ok)

pub returns-in_ok-take-in-Gave-clause-passes : goal.returns-in_ok-take-in-Gave-clause-passes
returns-in_ok-take-in-Gave-clause-passes c = λ items left go.
    let a = c.args in
    rw c.in-Gave.is (take_passes items a.wait a.scope.now (a.given ∷ []) (go (Fell [])) a.heap.now c.take-in-Gave.new.heap left
    c.in_ok-take-in-Gave.ensures.ok)
