use Rattle.tl_base.proofs.Results.{if-ok}
use Rattle.lua_eval.proofs.calling.called_on.Goals as goal

pub returns-in-Inside : goal.returns-in-Inside
returns-in-Inside c = record {
  means = rw c.in-Inside.is (if-ok c.inside_on.result c.inside_on.ensures.means (λ step it. it));
}
