use Rattle.std.proofs.Common.{ap, refl, ◌∙◌}
use Rattle.tl_tree.specs.Arena.{items_of}
use Rattle.lua_model.specs.Plans.{fell}
use Rattle.lua_model.specs.Assignments.{store_name}
use Rattle.lua_eval.proofs.Below.{moved}
use Rattle.lua_eval.proofs.Named.{store_known}
use Rattle.lua_eval.specs.Stores.{store_by_path}
use Rattle.lua_eval.specs.Slots.{path_of}
use Rattle.tl_tree.specs.Scopes.{binder}
use Rattle.lua_eval.proofs.assignments.store_name.Goals as goal

pub returns-clause-means : goal.returns-clause-means
returns-clause-means c =
    let a = c.args in
    let items = items_of a.tree.now in
    let path = c.path-found.result in
    moved items a.frames.now.items c.store_by_path.new.frames.items
    (store_name (binder items a.target) a.text.now a.place a.scope a.value fell)
    (store_by_path path a.text.now a.place a.scope a.value fell)
    a.heap.now a.heap.now c.store_by_path.new.heap a.budget.now c.store_by_path.new.budget c.in_ok-step.step
    (store_known (binder items a.target) path a.text.now a.place a.scope a.value fell
    (c.path-found.ensures ∙ ap path_of (c.requires a.target))) refl (c.in_ok-step.ensures.means items)
