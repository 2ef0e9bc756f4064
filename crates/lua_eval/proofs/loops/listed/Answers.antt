use Rattle.std.proofs.Common.{sym, ap, ◌∙◌, length, Some}
use Rattle.lua_table.specs.LuaState.{LuaState}
use Rattle.lua_eval.proofs.Turning.{env_kept_on, listed_turn, listed_over}
use Rattle.lua_table.specs.Cells.{declare_all}
use Rattle.lua_eval.proofs.loops.listed.Goals as goal

pub returns-then-is_nil-clause-means : goal.returns-then-is_nil-clause-means
returns-then-is_nil-clause-means c = λ items left fs.
    let a = c.args in
    listed_over items fs a.node a.names.now a.scope a.function a.state c.split_values-control.result.0 a.values.now a.out a.heap.now left
    c.split_values-control.ensures.first (sym c.is_nil.ensures.value ∙ c.if-is_nil.true)

pub returns-clause-means : goal.returns-clause-means
returns-clause-means c = λ items left fs.
    let a = c.args in
    let vs = a.values.now in
    let control = c.split_values-control.result.0 in
    let env = c.in_ok-env.env in
    listed_turn items fs a.node a.names.now a.scope a.function a.state control vs a.out a.heap.now c.declare_all.new.heap left env
    c.split_values-control.ensures.first (sym c.is_nil.ensures.value ∙ c.if-is_nil.false) c.in_ok-env.ensures.id
    (c.in_ok-declare_all.ensures.ok ∙ ap (λ (s : LuaState). declare_all (length a.names.now) env vs s) c.in_ok-env.ensures.ok)

pub returns-clause-kept : goal.returns-clause-kept
returns-clause-kept c =
    env_kept_on c.args.heap.now c.new_env.new.self c.declare_all.new.heap c.args.node (Some c.args.scope.env) c.in_ok-env.ensures.ok
    c.in_ok-declare_all.ensures.kept
