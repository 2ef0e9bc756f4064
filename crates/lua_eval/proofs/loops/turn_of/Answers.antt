use Rattle.tl_base.proofs.Results.{if-ok}
use Rattle.lua_eval.proofs.loops.turn_of.Goals as goal

pub returns-in-While-clause-means : goal.returns-in-While-clause-means
returns-in-While-clause-means c = rw c.in-While.is (if-ok c.while_turn.result c.while_turn.ensures.means (λ v it. it))

pub returns-in-Repeat-clause-means : goal.returns-in-Repeat-clause-means
returns-in-Repeat-clause-means c = rw c.in-Repeat.is (if-ok c.repeat_turn.result c.repeat_turn.ensures.means (λ v it. it))

pub returns-in-Counted-clause-means : goal.returns-in-Counted-clause-means
returns-in-Counted-clause-means c = rw c.in-Counted.is (if-ok c.numeric_turn.result c.numeric_turn.ensures.means (λ v it. it))

pub returns-in-Listed-clause-means : goal.returns-in-Listed-clause-means
returns-in-Listed-clause-means c = rw c.in-Listed.is (if-ok c.generic_turn.result c.generic_turn.ensures.means (λ v it. it))
