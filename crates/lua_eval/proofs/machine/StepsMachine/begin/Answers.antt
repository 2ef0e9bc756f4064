use Rattle.tl_tree.specs.Arena.{items_of}
use Rattle.tl_base.proofs.Results.{if-ok}
use Rattle.lua_eval.proofs.machine.StepsMachine.begin.Goals as goal

pub returns-in-Target-clause-means : goal.returns-in-Target-clause-means
returns-in-Target-clause-means c =
    rw c.in-Target.is (if-ok c.target.result c.target.ensures.means (λ v it. it c.args.heap.now c.args.budget.now))

pub returns-in-Turn-clause-means : goal.returns-in-Turn-clause-means
returns-in-Turn-clause-means c = rw c.in-Turn.is (if-ok c.begin_turn.result c.begin_turn.ensures.means (λ v it. it))

pub returns-in-Read-clause-means : goal.returns-in-Read-clause-means
returns-in-Read-clause-means c =
    rw c.in-Read.is (if-ok c.read.result c.read.ensures.means (λ v it. it (items_of c.args.self.now.tree.now)))

pub returns-in-Store-clause-means : goal.returns-in-Store-clause-means
returns-in-Store-clause-means c =
    rw c.in-Store.is (if-ok c.store.result c.store.ensures.means (λ v it. it (items_of c.args.self.now.tree.now)))

pub returns-in-Expression-clause-means : goal.returns-in-Expression-clause-means
returns-in-Expression-clause-means c = rw c.in-Expression.is (if-ok c.node.result c.node.ensures.means (λ v it. it))

pub returns-in-Statement-clause-means : goal.returns-in-Statement-clause-means
returns-in-Statement-clause-means c = rw c.in-Statement.is (if-ok c.statement.result c.statement.ensures.means (λ v it. it))

pub returns-in-Callback-clause-means : goal.returns-in-Callback-clause-means
returns-in-Callback-clause-means c = rw c.in-Callback.is (if-ok c.call_closure.result c.call_closure.ensures.means (λ v it. it))
