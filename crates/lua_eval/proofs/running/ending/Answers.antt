use Rattle.std.proofs.Common.{[], ◌∷◌, sym, ap, ◌∙◌}
use Rattle.tl_base.specs.Layer.{state}
use Rattle.tl_base.specs.Plan.{run}
use Rattle.tl_tree.specs.Arena.{items_of}
use Rattle.lua_model.specs.declared.end.End.{End}
use Rattle.lua_model.specs.declared.scope.Scope.{Scope}
use Rattle.lua_model.specs.Plans.{LuaPlan, on_fell, statements}
use Rattle.lua_eval.proofs.AtOnce.{if-some}
use Rattle.lua_eval.proofs.Below.{jobs_of}
use Rattle.tl_base.proofs.Results.{if-ok}
use Rattle.lua_eval.proofs.Reached.{returned_outwards}
use Rattle.lua_eval.proofs.running.ending.Goals as goal

pub returns-in-At-clause-found : goal.returns-in-At-clause-found
returns-in-At-clause-found c =
    rw c.in-At.is (if-ok c.first_returned.result c.first_returned.ensures.found (λ result it. it))

pub returns-in-Within-clause-found : goal.returns-in-Within-clause-found
returns-in-Within-clause-found c =
    let a = c.args in
    let items = items_of a.tree.now in
    let scope = a.scope.now in
    let m = c.in-Within in
    let r = c.first_returned-in-Within in
    let s = a.heap.now in
    let behind = m.field-2.now in
    rw m.is (if-ok r.result r.ensures.found (λ result it. if-some result it (λ value h out go later.
    let k : End → LuaPlan = λ e. on_fell e out go (λ all. statements behind scope all go) in
    ap (λ (sc : Scope). run (jobs_of items) (statements m.list.now sc [] k) (state s a.budget.now) later) (sym c.within-inner.ensures)
    ∙ h [] k later
    ∙ returned_outwards items behind scope out (value ∷ []) go r.new.heap r.new.budget later)))
