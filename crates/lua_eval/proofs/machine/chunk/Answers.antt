use Rattle.std.proofs.Common.{List, [], sym, ap, ◌∙◌, None}
use Rattle.tl_base.specs.declared.ids.NodeId.{NodeId}
use Rattle.tl_base.specs.Plan.{Give}
use Rattle.tl_tree.specs.Arena.{items_of}
use Rattle.tl_tree.specs.Nodes.{last_of}
use Rattle.tl_tree.specs.Code.{statements_at}
use Rattle.lua_table.specs.Heap.{next_env, with_env}
use Rattle.lua_model.specs.Plans.{scope_at, statements}
use Rattle.lua_table.proofs.Keeping.{keeps_env}
use Rattle.lua_table.proofs.Keeping.{heap_kept_as}
use Rattle.lua_eval.proofs.Below.{moved}
use Rattle.lua_eval.proofs.Making.{statements_are}
use Rattle.lua_eval.proofs.machine.chunk.Goals as goal

pub returns-clause-means : goal.returns-clause-means
returns-clause-means c = λ left.
    let a = c.args in
    let items = items_of a.tree.now in
    let s = a.heap.now in
    let t = c.new_env.new.self in
    let ns = c.block_statements.result.now in
    let scope = c.scope_at.result in
    let none = c.new-none.result in
    moved items a.frames.now.items c.statements.new.frames.items
    (statements (statements_at items (last_of items)) (scope_at (next_env s)) [] Give) (statements ns scope none Give)
    (with_env s (last_of items) None) t t left left c.in_ok-begun.begun
    (statements_are (statements_at items (last_of items)) ns (scope_at (next_env s)) scope [] none Give
    (sym (c.block_statements.ensures ∙ ap (λ (n : NodeId). statements_at items n) c.root-root.ensures))
    (sym (c.scope_at.ensures ∙ ap scope_at c.in_ok-env.ensures.id)) (sym c.new-none.ensures))
    (sym (c.in_ok-env.ensures.ok ∙ ap (λ (n : NodeId). with_env s n None) c.root-root.ensures))
    (c.in_ok-begun.ensures.means items t left)

pub returns-clause-kept : goal.returns-clause-kept
returns-clause-kept c =
    let s = c.args.heap.now in
    heap_kept_as s c.new_env.new.self (with_env s c.root-root.result None) c.in_ok-env.ensures.ok (keeps_env s c.root-root.result None)
