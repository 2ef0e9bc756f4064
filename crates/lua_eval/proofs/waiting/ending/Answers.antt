use Rattle.tl_base.proofs.Results.{if-ok}
use Rattle.lua_eval.proofs.waiting.ending.Goals as goal

pub returns-in-Plain-clause-found : goal.returns-in-Plain-clause-found
returns-in-Plain-clause-found c = rw c.in-Plain.is (if-ok c.ending.result c.ending.ensures.found (λ result it. it))
