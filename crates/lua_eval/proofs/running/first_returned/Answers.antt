use Rattle.std.proofs.Common.{List, [], ◌∷◌, ap, ◌∙◌}
use Rattle.tl_base.specs.declared.ids.NodeId.{NodeId}
use Rattle.tl_base.specs.Layer.{state}
use Rattle.tl_base.specs.Plan.{run}
use Rattle.tl_tree.specs.Arena.{items_of}
use Rattle.lua_model.specs.Plans.{statements}
use Rattle.lua_eval.proofs.AtOnce.{if-some}
use Rattle.lua_eval.proofs.Below.{jobs_of}
use Rattle.tl_base.proofs.Results.{if-ok}
use Rattle.lua_eval.proofs.Reached.{statement_returns}
use Rattle.lua_eval.proofs.running.first_returned.Goals as goal

pub returns-in-Some-clause-found : goal.returns-in-Some-clause-found
returns-in-Some-clause-found c =
    let a = c.args in
    let items = items_of a.tree.now in
    let scope = a.scope.now in
    let n = c.in-Some.first.now in
    let behind = c.in-Some.field-0-1.now in
    let r = c.returned in
    if-ok r.result r.ensures.found (λ result it. if-some result it (λ value h out go later.
    ap (λ (ns : List NodeId). run (jobs_of items) (statements ns scope out go) (state a.heap.now a.budget.now) later) c.in-Some.ensures.cases.0
    ∙ statement_returns items n behind scope out (value ∷ []) go a.heap.now r.new.heap a.budget.now r.new.budget h later))
