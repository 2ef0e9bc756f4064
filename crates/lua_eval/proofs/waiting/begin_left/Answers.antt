use Rattle.tl_tree.specs.Arena.{items_of}
use Rattle.tl_base.proofs.Results.{if-ok}
use Rattle.lua_eval.proofs.waiting.begin_left.Goals as goal

pub returns-in-At-clause-means : goal.returns-in-At-clause-means
returns-in-At-clause-means c =
    rw c.in-Plain.is (rw c.in-At.is (if-ok c.begin_statements.result c.begin_statements.ensures.means (λ step it. it)))

pub returns-in-Within-clause-means : goal.returns-in-Within-clause-means
returns-in-Within-clause-means c =
    let a = c.args in
    rw c.in-Plain.is (if-ok c.go_on.result c.go_on.ensures.means (λ step it. it (items_of a.tree.now) a.heap.now a.budget.now))

pub returns-in-Calling-clause-means : goal.returns-in-Calling-clause-means
returns-in-Calling-clause-means c =
    let a = c.args in
    if-ok c.stop_on.result c.stop_on.ensures.means (λ step it. it (items_of a.tree.now) a.heap.now a.budget.now)
