use Rattle.std.proofs.Common.{arith, ◌≤◌, List, sym, ap, ◌∙◌}
use Rattle.tl_base.specs.Layer.{state}
use Rattle.tl_base.specs.Plan.{run}
use Rattle.tl_tree.specs.Arena.{items_of}
use Rattle.lua_value.specs.declared.value.Value.{Value}
use Rattle.lua_model.specs.declared.job.Job.TheVariants as jobs
use Rattle.lua_model.specs.declared.end.End.TheVariants.{One}
use Rattle.lua_model.specs.Plans.{LuaPlan, values_of}
use Rattle.lua_eval.specs.AtOnce.{Becomes}
use Rattle.lua_eval.proofs.AtOnce.{never_gains}
use Rattle.lua_eval.proofs.Below.{jobs_of}
use Rattle.lua_eval.proofs.Invoking.{call_prepared}
use Rattle.lua_eval.proofs.calling.prepare.Goals as goal

pub returns-in-Some-units-clause-passes : goal.returns-in-Some-units-clause-passes
returns-in-Some-units-clause-passes c = λ place.
    let a = c.args in
    let items = items_of a.tree.now in
    let scope = a.scope.now in
    let s = a.heap.now in
    let found = c.in-Some.found in
    let closure = c.in-Some-closure_of.closure in
    let left = c.in-Some-units.left in
    let none = c.new-args.result in
    let vs = c.find_all.new.values in
    let h : (go : List Value → LuaPlan) → Becomes items (values_of a.arguments.now scope none go) s found.left (go vs) s left =
    rw c.in-Some.ensures.same at (rw c.in-Some-units.is at c.in_ok-units.ensures.passes) in
    call_prepared items a.function a.arguments.now place scope found.value closure vs s a.left found.left left
    c.in-Some.ensures.found c.in-Some-closure_of.ensures
    (λ go later. ap (λ (us : List Value). run (jobs_of items) (values_of a.arguments.now scope us go) (state s found.left) later)
    (sym c.new-args.ensures) ∙ h go later)

pub returns-in-Some-units-clause-within : goal.returns-in-Some-units-clause-within
returns-in-Some-units-clause-within c =
    let a = c.args in
    let items = items_of a.tree.now in
    let s = a.heap.now in
    let found = c.in-Some.found in
    let first : found.left ≤ a.left =
    never_gains items (jobs.Expression a.function a.scope.now) (One found.value) s s a.left found.left c.in-Some.ensures.found in
    let second : c.in-Some-units.left ≤ found.left = rw c.in-Some-units.is at c.in_ok-units.ensures.within in
    omega (arith, first, second)
