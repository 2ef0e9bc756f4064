use Rattle.std.proofs.Common.{arith, ◌-◌, List, [], ◌∷◌, refl}
use Rattle.tl_base.specs.declared.machine.Step.TheVariants.{Return}
use Rattle.tl_base.specs.Plan.{Give}
use Rattle.tl_tree.specs.Arena.{items_of}
use Rattle.tl_tree.specs.Nodes.{item_at}
use Rattle.lua_value.specs.declared.value.Value.{Value}
use Rattle.lua_model.specs.declared.job.Job.TheVariants as jobs
use Rattle.lua_model.specs.declared.end.End.{End}
use Rattle.lua_model.specs.declared.end.End.TheVariants.{One, Returned}
use Rattle.lua_model.specs.Plans.{LuaPlan, on_all, values_of}
use Rattle.lua_model.specs.Statements.{statement_plan}
use Rattle.lua_eval.specs.AtOnce.{EndsAtOnce}
use Rattle.lua_eval.proofs.AtOnce.{begun, behind, if-some}
use Rattle.lua_eval.proofs.Below.{moved}
use Rattle.lua_eval.proofs.Doing.{returns as returned}
use Rattle.tl_base.proofs.Results.{if-ok}
use Rattle.lua_eval.proofs.running.returned.Goals as goal

pub returns-in-Some-clause-found : goal.returns-in-Some-clause-found
returns-in-Some-clause-found c =
    let a = c.args in
    let items = items_of a.tree.now in
    let scope = a.scope.now in
    let s = a.heap.now in
    let left = a.budget.now in
    let e = c.in-Some.value in
    let r = c.result_at_once in
    let t = r.new.heap in
    let mid = r.new.budget in
    let go : List Value → LuaPlan = λ vs. Give (Returned vs []) in
    let k : End → LuaPlan = λ r. on_all r go in
    if-ok r.result r.ensures.found (λ result h. if-some result h (λ value ends.
    let end = Returned (value ∷ []) [] in
    let found : EndsAtOnce items (jobs.Expression e scope) (One value) s (left - 1) t mid = rw c.left-units.ensures at ends in
    begun items (jobs.Statement a.node scope) end s t left mid (omega (arith, c.left-units.ensures, c.if-units-eq0.false))
    (moved items [] [] (statement_plan items (item_at items a.node) a.node scope) (values_of (e ∷ []) scope [] go) s s t
    (left - 1) mid (Return end) (c.in-Some.ensures scope) refl
    (behind items [] [] (jobs.Expression e scope) (One value) k s t t (left - 1) mid mid (Return end) found
    (returned items [] end t mid)))))
