use Rattle.std.proofs.Common.{sym, refl, [], Some}
use Rattle.tl_base.specs.Plan.{Give}
use Rattle.tl_tree.specs.Arena.{items_of}
use Rattle.lua_model.specs.Plans.{statements}
use Rattle.tl_tree.specs.Code.{statements_at}
use Rattle.lua_eval.proofs.Below.{moved}
use Rattle.lua_eval.proofs.Turning.{env_kept}
use Rattle.lua_eval.proofs.Making.{entering_goes, statements_are}
use Rattle.lua_eval.proofs.statements.block.Goals as goal

pub returns-clause-means : goal.returns-clause-means
returns-clause-means c = λ left.
    let a = c.args in
    let items = items_of a.tree.now in
    let fs2 = c.statements.new.frames.items in
    let t = c.new_env.new.self in
    let inner = c.within.result in
    let ns = c.block_statements.result.now in
    let none = c.new-none.result in
    entering_goes items a.frames.now.items fs2 a.block a.scope inner (λ sc. statements (statements_at items a.block) sc [] Give)
    a.heap.now t t left left c.in_ok-step.step c.in_ok-env.env c.within.ensures c.in_ok-env.ensures.id c.in_ok-env.ensures.ok
    (moved items a.frames.now.items fs2 (statements (statements_at items a.block) inner [] Give) (statements ns inner none Give)
    t t t left left c.in_ok-step.step
    (statements_are (statements_at items a.block) ns inner inner [] none Give (sym c.block_statements.ensures) refl (sym c.new-none.ensures))
    refl (c.in_ok-step.ensures.means items t left))

pub returns-clause-kept : goal.returns-clause-kept
returns-clause-kept c =
    env_kept c.args.heap.now c.new_env.new.self c.args.block (Some c.args.scope.env) c.in_ok-env.ensures.ok
