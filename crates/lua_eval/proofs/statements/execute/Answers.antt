use Rattle.tl_tree.specs.Arena.{items_of}
use Rattle.tl_base.proofs.Results.{if-ok}
use Rattle.lua_eval.proofs.statements.execute.Goals as goal

pub returns-in-Do-clause-means : goal.returns-in-Do-clause-means
returns-in-Do-clause-means c =
    rw c.in-Do.is (if-ok c.block.result c.block.ensures.means (λ v it. it c.args.budget.now))

pub returns-in-While-clause-means : goal.returns-in-While-clause-means
returns-in-While-clause-means c =
    rw c.in-While.is (if-ok c.while_first.result c.while_first.ensures.means (λ v it. it (items_of c.args.tree.now) c.args.heap.now
    c.args.budget.now))

pub returns-in-If-clause-means : goal.returns-in-If-clause-means
returns-in-If-clause-means c = rw c.in-If.is (if-ok c.first_arm.result c.first_arm.ensures.means (λ v it. it))

pub returns-in-Function-clause-means : goal.returns-in-Function-clause-means
returns-in-Function-clause-means c =
    rw c.in-Function.is (if-ok c.define_at.result c.define_at.ensures.means (λ v it. it c.args.heap.now c.args.budget.now))

pub returns-in-LocalFunction-clause-means : goal.returns-in-LocalFunction-clause-means
returns-in-LocalFunction-clause-means c =
    rw c.in-LocalFunction.is (if-ok c.local_function.result c.local_function.ensures.means (λ v it. it (items_of c.args.tree.now)
    c.args.budget.now c.args.frames.now.items))

pub returns-in-Assign-clause-means : goal.returns-in-Assign-clause-means
returns-in-Assign-clause-means c = rw c.in-Assign.is (if-ok c.assign.result c.assign.ensures.means (λ v it. it))

pub returns-in-GenericFor-clause-means : goal.returns-in-GenericFor-clause-means
returns-in-GenericFor-clause-means c = rw c.in-GenericFor.is (if-ok c.generic_for.result c.generic_for.ensures.means (λ v it. it))

pub returns-in-Local-clause-means : goal.returns-in-Local-clause-means
returns-in-Local-clause-means c = rw c.in-Local.is (if-ok c.locals.result c.locals.ensures.means (λ v it. it))

pub returns-in-Return-clause-means : goal.returns-in-Return-clause-means
returns-in-Return-clause-means c = rw c.in-Return.is (if-ok c.return_values.result c.return_values.ensures.means (λ v it. it))
