use Rattle.std.proofs.Common.{List, [], ◌∷◌, ap, ◌∙◌}
use Rattle.tl_base.specs.declared.ids.NodeId.{NodeId}
use Rattle.tl_base.specs.Layer.{state}
use Rattle.tl_base.specs.Plan.{run}
use Rattle.tl_tree.specs.Arena.{items_of}
use Rattle.lua_model.specs.declared.job.Job.TheVariants as jobs
use Rattle.lua_model.specs.declared.end.End.TheVariants.{Many}
use Rattle.lua_model.specs.Assignments.{assign_plan}
use Rattle.lua_eval.specs.AtOnce.{EndsAtOnce}
use Rattle.lua_eval.specs.Spots.{held_in}
use Rattle.lua_eval.specs.Storing.{StoresIn}
use Rattle.lua_eval.specs.declared.direct.Spot.TheVariants as spots
use Rattle.lua_eval.proofs.AtOnce.{never_gains}
use Rattle.lua_eval.proofs.Below.{jobs_of}
use Rattle.lua_eval.proofs.Waited.{store_waits}
use Rattle.lua_eval.proofs.waiting.storing.Goals as goal

pub returns-in-Local-clause-passes : goal.returns-in-Local-clause-passes
returns-in-Local-clause-passes c = λ later.
    let a = c.args in
    let m = c.in-Local in
    let items = items_of a.tree.now in
    let scope = a.scope.now in
    let s = a.heap.now in
    let target = c.in_ok-target.target in
    let node = c.in_ok-node.node in
    let aimed = c.in_ok-aimed.aimed in
    let spot = spots.Local m.depth m.position in
    let h : EndsAtOnce items (jobs.Target target scope) (Many (held_in spot)) s a.left s aimed.left = rw m.is at c.in_ok-aimed.ensures.found in
    let at : StoresIn items target scope spot = rw m.is at c.in_ok-aimed.ensures.at in
    ap (λ (ns : List NodeId). run (jobs_of items) (assign_plan items ns a.values.now scope) (state s a.left) later) c.in_ok-target.ensures
    ∙ ap (λ (es : List NodeId). run (jobs_of items) (assign_plan items (target ∷ []) es scope) (state s a.left) later) c.in_ok-node.ensures
    ∙ store_waits items target node scope m.depth m.position s a.left aimed.left h at later

pub returns-in-Local-clause-within : goal.returns-in-Local-clause-within
returns-in-Local-clause-within c =
    let a = c.args in
    let items = items_of a.tree.now in
    let s = a.heap.now in
    let aimed = c.in_ok-aimed.aimed in
    never_gains items (jobs.Target c.in_ok-target.target a.scope.now) (Many (held_in aimed.spot)) s s a.left aimed.left c.in_ok-aimed.ensures.found
