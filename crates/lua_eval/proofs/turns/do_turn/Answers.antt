use Rattle.std.proofs.Common.{◌∙◌, ap, Some, List}
use Rattle.std.specs.Prelude.{◌+ℤ◌}
use Rattle.tl_base.specs.Layer.{state}
use Rattle.tl_base.specs.Plan.{run}
use Rattle.tl_tree.specs.Arena.{items_of}
use Rattle.lua_value.specs.Numbers.{number_from}
use Rattle.lua_value.specs.declared.value.Value.{Value}
use Rattle.lua_value.specs.declared.value.Value.TheVariants as values
use Rattle.lua_table.specs.LuaState.{LuaState}
use Rattle.lua_table.specs.Cells.{declare}
use Rattle.lua_table.proofs.Keeping.{keeps_then}
use Rattle.lua_model.specs.declared.end.End.{End}
use Rattle.lua_model.specs.declared.scope.Scope.{Scope}
use Rattle.lua_model.specs.Loops.{after_turn, count_from}
use Rattle.lua_model.specs.Plans.{LuaPlan}
use Rattle.lua_eval.specs.Waiting.{stop_plan}
use Rattle.lua_eval.specs.Turns.{turned_plan}
use Rattle.lua_eval.specs.declared.turns.Turned.TheVariants as turned
use Rattle.lua_eval.proofs.Below.{jobs_of}
use Rattle.lua_eval.proofs.Counted.{variable_passes}
use Rattle.lua_eval.proofs.Turning.{env_kept_on}
use Rattle.lua_eval.proofs.turns.do_turn.Goals as goal

pub returns-then-ended-clause-passes : goal.returns-then-ended-clause-passes
returns-then-ended-clause-passes c = λ out.
    let a = c.args in
    let items = items_of a.tree.now in
    let scope = a.scope.now in
    let env = c.in_ok-env.env in
    let inner = c.within-inner.result in
    let t = c.declare.new.heap in
    let u = c.run_calls.new.heap in
    let mid = c.run_calls.new.budget in
    let go : List Value → LuaPlan = λ all. count_from a.node scope (number_from (a.at.now +ℤ a.by)) a.limit a.by all in
    let k : End → LuaPlan = λ r. after_turn r go in
    variable_passes items a.node a.block scope inner env (values.Number a.at.now) c.block_statements-list.result.now out go
    (turned_plan c.behind.result c.behind.new.at a.node scope a.limit a.by out) a.heap.now t u a.budget.now mid
    c.within-inner.ensures c.in_ok-env.ensures.id
    (c.in_ok-declare.ensures.ok ∙ ap (λ (s : LuaState). declare env (values.Number a.at.now) s) c.in_ok-env.ensures.ok)
    c.block_statements-list.ensures
    (λ later. c.in_ok-stop.ensures.passes out k later
    ∙ ap (λ (p : LuaPlan). run (jobs_of items) p (state u mid) later)
    (c.ended.ensures c.if-ended.true inner out k ∙ c.behind.ensures a.node scope out))

pub returns-clause-passes : goal.returns-clause-passes
returns-clause-passes c = λ out.
    let a = c.args in
    let items = items_of a.tree.now in
    let scope = a.scope.now in
    let env = c.in_ok-env.env in
    let inner = c.within-inner.result in
    let stop = c.in_ok-stop.stop in
    let t = c.declare.new.heap in
    let u = c.run_calls.new.heap in
    let mid = c.run_calls.new.budget in
    let go : List Value → LuaPlan = λ all. count_from a.node scope (number_from (a.at.now +ℤ a.by)) a.limit a.by all in
    let k : End → LuaPlan = λ r. after_turn r go in
    variable_passes items a.node a.block scope inner env (values.Number a.at.now) c.block_statements-list.result.now out go
    (turned_plan (turned.Inside stop env) a.at.now a.node scope a.limit a.by out) a.heap.now t u a.budget.now mid
    c.within-inner.ensures c.in_ok-env.ensures.id
    (c.in_ok-declare.ensures.ok ∙ ap (λ (s : LuaState). declare env (values.Number a.at.now) s) c.in_ok-env.ensures.ok)
    c.block_statements-list.ensures
    (λ later. c.in_ok-stop.ensures.passes out k later
    ∙ ap (λ (sc : Scope). run (jobs_of items) (stop_plan stop sc out k) (state u mid) later) c.within-inner.ensures)

pub returns-then-ended-clause-kept : goal.returns-then-ended-clause-kept
returns-then-ended-clause-kept c =
    env_kept_on c.args.heap.now c.new_env.new.self c.run_calls.new.heap c.args.node (Some c.args.scope.now.env) c.in_ok-env.ensures.ok
    (keeps_then c.new_env.new.self c.declare.new.heap c.run_calls.new.heap c.in_ok-declare.ensures.kept c.in_ok-stop.ensures.kept)

pub returns-clause-kept : goal.returns-clause-kept
returns-clause-kept c =
    env_kept_on c.args.heap.now c.new_env.new.self c.run_calls.new.heap c.args.node (Some c.args.scope.now.env) c.in_ok-env.ensures.ok
    (keeps_then c.new_env.new.self c.declare.new.heap c.run_calls.new.heap c.in_ok-declare.ensures.kept c.in_ok-stop.ensures.kept)
