use Rattle.std.proofs.Common.{List, [], refl, sym, ap}
use Rattle.std.specs.Prelude.{Ok, Err}
use Rattle.lua_value.specs.declared.value.Value.{Value}
use Rattle.lua_model.specs.Plans.{LuaPlan}
use Rattle.lua_model.specs.Loops.{count}
use Rattle.lua_eval.proofs.Below.{moved}
use Rattle.lua_eval.proofs.Counting.{first_count_goes}
use Rattle.lua_eval.proofs.loops.first_count.Goals as goal

pub returns-in-Ok-clause-means : goal.returns-in-Ok-clause-means
returns-in-Ok-clause-means c = λ items fs.
    let a = c.args in
    let all = c.in-Ok.all in
    let s = a.heap.now in
    let left = a.budget.now in
    let counted : List Value → LuaPlan = λ out. count a.node a.scope all.0 all.1 all.2 out in
    first_count_goes items fs fs a.node a.first a.limit a.step a.place a.scope s s left left c.count.result
    (Ok all) c.in-Ok.ensures
    (moved items fs fs (counted []) (counted c.new-out.result) s s s left left c.count.result
    (ap counted (sym c.new-out.ensures)) refl (c.count.ensures items s left fs))

pub returns-in_ok-step-in-Err-clause-means : goal.returns-in_ok-step-in-Err-clause-means
returns-in_ok-step-in-Err-clause-means c = λ items fs.
    let a = c.args in
    first_count_goes items fs fs a.node a.first a.limit a.step a.place a.scope a.heap.now c.raise.new.heap a.budget.now
    c.raise.new.budget c.in_ok-step-in-Err.step (Err c.in-Err.fault) c.in-Err.ensures
    (c.in_ok-step-in-Err.ensures.means items fs)
