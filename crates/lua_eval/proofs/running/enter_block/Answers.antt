use Rattle.std.proofs.Common.{[], Some}
use Rattle.tl_base.specs.Plan.{Give}
use Rattle.tl_tree.specs.Arena.{items_of}
use Rattle.lua_eval.proofs.Reached.{entering_passes}
use Rattle.lua_eval.proofs.Turning.{env_kept_on}
use Rattle.lua_eval.proofs.running.enter_block.Goals as goal

pub returns-in_ok-list-in-Some-clause-passes : goal.returns-in_ok-list-in-Some-clause-passes
returns-in_ok-list-in-Some-clause-passes c =
    let a = c.args in
    let items = items_of a.tree.now in
    let m = c.in-Some in
    rw m.is (entering_passes items m.node a.scope.now c.within-inner.result c.in_ok-env-in-Some.env c.block_statements-list.result.now
    c.in_ok-list-in-Some.list.now a.heap.now c.new_env.new.self c.flat.new.heap a.budget.now c.flat.new.budget
    c.within-inner.ensures c.in_ok-env-in-Some.ensures.id c.in_ok-env-in-Some.ensures.ok c.block_statements-list.ensures
    (c.in_ok-list-in-Some.ensures.passes [] Give))

pub returns-in_ok-list-in-Some-clause-kept : goal.returns-in_ok-list-in-Some-clause-kept
returns-in_ok-list-in-Some-clause-kept c =
    env_kept_on c.args.heap.now c.new_env.new.self c.flat.new.heap c.in-Some.node (Some c.args.scope.now.env) c.in_ok-env-in-Some.ensures.ok
    c.in_ok-list-in-Some.ensures.kept
