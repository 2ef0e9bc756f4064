use Rattle.lua_table.proofs.Keeping.{keeps_closure}
use Rattle.lua_table.proofs.Keeping.{heap_keeps_by}
use Rattle.tl_tree.specs.Arena.{items_of}
use Rattle.tl_tree.specs.Nodes.{item_at}
use Rattle.lua_value.specs.declared.value.Value.TheVariants.{Nil}
use Rattle.lua_model.specs.Plans.{fell}
use Rattle.lua_model.specs.Assignments.{store_target}
use Rattle.lua_eval.proofs.Making.{closing_goes}
use Rattle.lua_eval.proofs.assignments.define_name.Goals as goal

pub returns-clause-means : goal.returns-clause-means
returns-clause-means c =
    let a = c.args in
    let items = items_of a.tree.now in
    closing_goes items a.frames.now.items c.store_target.new.frames.items a.function a.scope
    (λ f. store_target items (item_at items a.target) a.target a.scope Nil Nil f fell)
    a.heap.now c.new_closure.new.self c.store_target.new.heap a.budget.now c.store_target.new.budget c.in_ok-step.step
    c.in_ok-made.made c.in_ok-made.ensures.id c.in_ok-made.ensures.ok c.in_ok-step.ensures.means

pub returns-clause-kept : goal.returns-clause-kept
returns-clause-kept c =
    heap_keeps_by c.args.heap.now c.new_closure.new.self _ c.store_target.new.heap c.in_ok-made.ensures.ok (keeps_closure c.args.heap.now _) c.in_ok-step.ensures.kept
