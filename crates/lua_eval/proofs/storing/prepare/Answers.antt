use Rattle.std.proofs.Common.{arith, ◌≡◌, ◌≤◌, true, ◌∙◌}
use Rattle.tl_tree.specs.Arena.{items_of}
use Rattle.lua_model.specs.declared.job.Job.TheVariants as jobs
use Rattle.lua_model.specs.declared.end.End.TheVariants.{One, Many}
use Rattle.lua_eval.specs.AtOnce.{EndsAtOnce}
use Rattle.lua_eval.specs.Spots.{held_in}
use Rattle.lua_eval.specs.Storing.{takes}
use Rattle.lua_eval.proofs.AtOnce.{never_gains}
use Rattle.lua_eval.proofs.Taking.{assign_passes}
use Rattle.lua_eval.proofs.storing.prepare.Goals as goal

pub returns-then-takes-clause-passes : goal.returns-then-takes-clause-passes
returns-then-takes-clause-passes c =
    let a = c.args in
    let items = items_of a.tree.now in
    let scope = a.scope.now in
    let s = a.heap.now in
    let aimed = c.in_ok-aimed.aimed in
    let found = c.in_ok-found.found in
    let first : c.aim.new.heap ≡ s = c.in_ok-aimed.ensures.same in
    let both : c.find.new.heap ≡ s = c.in_ok-found.ensures.same ∙ first in
    let value : EndsAtOnce items (jobs.Expression a.value scope) (One found.value) s aimed.left s found.left =
    rw first at c.in_ok-found.ensures.found in
    let taken : takes s aimed.spot ≡ true = rw both at (c.takes.ensures c.if-takes.true) in
    assign_passes items a.target a.value scope aimed.spot found.value s a.left aimed.left found.left c.in_ok-aimed.ensures.found
    value c.in_ok-aimed.ensures.at taken

pub returns-then-takes-clause-within : goal.returns-then-takes-clause-within
returns-then-takes-clause-within c =
    let a = c.args in
    let items = items_of a.tree.now in
    let scope = a.scope.now in
    let s = a.heap.now in
    let t = c.aim.new.heap in
    let aimed = c.in_ok-aimed.aimed in
    let found = c.in_ok-found.found in
    let first : aimed.left ≤ a.left =
    never_gains items (jobs.Target a.target scope) (Many (held_in aimed.spot)) s s a.left aimed.left c.in_ok-aimed.ensures.found in
    let second : found.left ≤ aimed.left =
    never_gains items (jobs.Expression a.value scope) (One found.value) t t aimed.left found.left c.in_ok-found.ensures.found in
    omega (arith, first, second)
