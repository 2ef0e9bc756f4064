use Rattle.lua_eval.proofs.AtOnce.{if-some}
use Rattle.lua_eval.proofs.quick.calculate_one.Goals as goal

pub returns-in-Length-clause-value : goal.returns-in-Length-clause-value
returns-in-Length-clause-value c =
    rw c.in-Length.is (if-some c.length_of.result c.length_of.ensures (λ v h. λ items place outer left. h items place left))
