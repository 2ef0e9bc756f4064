use Rattle.std.proofs.Common.{arith, ◌≡◌, ◌≤◌, ◌∙◌}
use Rattle.tl_tree.specs.Arena.{items_of}
use Rattle.lua_model.specs.declared.job.Job.TheVariants as jobs
use Rattle.lua_model.specs.declared.end.End.TheVariants.{One, Many}
use Rattle.lua_eval.specs.AtOnce.{EndsAtOnce}
use Rattle.lua_eval.specs.Spots.{held_in}
use Rattle.lua_eval.specs.Storing.{IsBare, StoresIn}
use Rattle.lua_eval.proofs.AtOnce.{never_gains}
use Rattle.lua_eval.proofs.Taking.{pair_passes}
use Rattle.lua_eval.proofs.storing.prepare_pair.Goals as goal

pub returns-then-are_bare-clause-passes : goal.returns-then-are_bare-clause-passes
returns-then-are_bare-clause-passes c =
    let a = c.args in
    let items = items_of a.tree.now in
    let scope = a.scope.now in
    let s = a.heap.now in
    let first = c.in_ok-first.first in
    let second = c.in_ok-second.second in
    let one = c.in_ok-one.one in
    let other = c.in_ok-other.other in
    let s1 : c.aim.new.heap ≡ s = c.in_ok-first.ensures.same in
    let s2 : c.aim-2.new.heap ≡ s = c.in_ok-second.ensures.same ∙ s1 in
    let s3 : c.find.new.heap ≡ s = c.in_ok-one.ensures.same ∙ s2 in
    let s4 : c.find-2.new.heap ≡ s = c.in_ok-other.ensures.same ∙ s3 in
    let at : EndsAtOnce items (jobs.Target a.targets.1 scope) (Many (held_in second.spot)) s first.left s second.left =
    rw s1 at c.in_ok-second.ensures.found in
    let stores : StoresIn items a.targets.1 scope second.spot = c.in_ok-second.ensures.at in
    let v : EndsAtOnce items (jobs.Expression a.values.0 scope) (One one.value) s second.left s one.left =
    rw s2 at c.in_ok-one.ensures.found in
    let w : EndsAtOnce items (jobs.Expression a.values.1 scope) (One other.value) s one.left s other.left =
    rw s3 at c.in_ok-other.ensures.found in
    let bare : IsBare s first.spot = rw s4 at (c.are_bare.ensures.first c.if-are_bare.true) in
    let bare2 : IsBare s second.spot = rw s4 at (c.are_bare.ensures.second c.if-are_bare.true) in
    pair_passes items a.targets.0 a.targets.1 a.values.0 a.values.1 scope first.spot second.spot one.value other.value s
    a.left first.left second.left one.left other.left c.in_ok-first.ensures.found at v w c.in_ok-first.ensures.at stores bare bare2

pub returns-then-are_bare-clause-within : goal.returns-then-are_bare-clause-within
returns-then-are_bare-clause-within c =
    let a = c.args in
    let items = items_of a.tree.now in
    let scope = a.scope.now in
    let s = a.heap.now in
    let first = c.in_ok-first.first in
    let second = c.in_ok-second.second in
    let one = c.in_ok-one.one in
    let other = c.in_ok-other.other in
    let t = c.aim.new.heap in
    let u = c.aim-2.new.heap in
    let w = c.find.new.heap in
    let l1 : first.left ≤ a.left =
    never_gains items (jobs.Target a.targets.0 scope) (Many (held_in first.spot)) s s a.left first.left c.in_ok-first.ensures.found in
    let l2 : second.left ≤ first.left =
    never_gains items (jobs.Target a.targets.1 scope) (Many (held_in second.spot)) t t first.left second.left c.in_ok-second.ensures.found in
    let l3 : one.left ≤ second.left =
    never_gains items (jobs.Expression a.values.0 scope) (One one.value) u u second.left one.left c.in_ok-one.ensures.found in
    let l4 : other.left ≤ one.left =
    never_gains items (jobs.Expression a.values.1 scope) (One other.value) w w one.left other.left c.in_ok-other.ensures.found in
    omega (arith, l1, l2, l3, l4)
