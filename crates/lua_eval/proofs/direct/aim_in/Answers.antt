use Rattle.lua_eval.proofs.AtOnce.{if-some}
use Rattle.lua_eval.proofs.direct.aim_in.Goals as goal

pub returns-in-Index-clause-found : goal.returns-in-Index-clause-found
returns-in-Index-clause-found c =
    rw c.in-Index.is (if-some c.aim_at.result c.aim_at.ensures.found (λ aimed h. h))

pub returns-in-Select-clause-found : goal.returns-in-Select-clause-found
returns-in-Select-clause-found c =
    rw c.in-Select.is (if-some c.aim_named.result c.aim_named.ensures.found (λ aimed h. h))
