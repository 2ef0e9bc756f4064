use Rattle.std.proofs.Common.{ap, refl, List, ◌∷◌, ◌++◌}
use Rattle.tl_base.specs.declared.ids.NodeId.{NodeId}
use Rattle.tl_tree.specs.Arena.{items_of}
use Rattle.lua_model.specs.Assignments.{define_in}
use Rattle.tl_tree.specs.Code.{if_any}
use Rattle.lua_eval.proofs.Below.{moved}
use Rattle.lua_eval.proofs.Listing.{none_is}
use Rattle.lua_eval.proofs.assignments.define_in.Goals as goal

pub returns-in_ok-step-in-None-clause-means : goal.returns-in_ok-step-in-None-clause-means
returns-in_ok-step-in-None-clause-means c =
    let a = c.args in
    let items = items_of a.tree.now in
    moved items a.frames.now.items c.define_method.new.frames.items
    (define_in items (a.rest.now ++ if_any a.method) a.function a.scope a.object)
    (define_in items (if_any a.method) a.function a.scope a.object)
    a.heap.now a.heap.now c.define_method.new.heap a.budget.now c.define_method.new.budget c.in_ok-step-in-None.step
    (ap (λ (l : List NodeId). define_in items (l ++ if_any a.method) a.function a.scope a.object) (none_is a.rest.now c.in-None.ensures.cases))
    refl c.in_ok-step-in-None.ensures.means

pub returns-in_ok-step-in-Some-clause-means : goal.returns-in_ok-step-in-Some-clause-means
returns-in_ok-step-in-Some-clause-means c =
    let a = c.args in
    let items = items_of a.tree.now in
    let first = c.in-Some.first.now in
    let rest = c.in-Some.rest.now in
    moved items a.frames.now.items c.define_next.new.frames.items
    (define_in items (a.rest.now ++ if_any a.method) a.function a.scope a.object)
    (define_in items (first ∷ (rest ++ if_any a.method)) a.function a.scope a.object)
    a.heap.now a.heap.now c.define_next.new.heap a.budget.now c.define_next.new.budget c.in_ok-step-in-Some.step
    (ap (λ (l : List NodeId). define_in items (l ++ if_any a.method) a.function a.scope a.object) c.in-Some.ensures.cases.0)
    refl c.in_ok-step-in-Some.ensures.means
