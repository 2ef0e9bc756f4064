use Rattle.std.proofs.Common.{List, ap}
use Rattle.tl_base.specs.declared.ids.NodeId.{NodeId}
use Rattle.lua_model.specs.Plans.{statements}
use Rattle.lua_eval.proofs.waiting.next_of.Goals as goal

pub returns-in-Some : goal.returns-in-Some
returns-in-Some c = λ scope out go.
    rw c.in-At.is (ap (λ (ns : List NodeId). statements ns scope out go) c.in-Some.ensures.cases.0)
