use Rattle.std.proofs.Common.{sym, ap, ◌∙◌, subst, arith}
use Rattle.tac_form.specs.Graph.{graph_of}
use Rattle.reg_alloc.specs.Homes.{are_below}
use Rattle.reg_alloc.specs.Noted.{AreIntervals}
use Rattle.reg_alloc.specs.Scans.{AreHomes}
use Rattle.reg_alloc.proofs.Fewest.{own-temps}
use Rattle.reg_alloc.proofs.Ends.{assigned, crowded}
use Rattle.reg_alloc.proofs.scan.assign.Goals as goal
use Rattle.reg_alloc.proofs.scan.assign.Goals.{After-from_vec}

found : (c : After-from_vec) → AreIntervals (graph_of c.args.tac.now) c.in_ok-count.count c.in_ok-found.found.spans.items c.in_ok-found.found.order.items
found c =
    subst (λ g. AreIntervals g c.in_ok-count.count c.in_ok-found.found.spans.items c.in_ok-found.found.order.items)
    (c.deref-2.ensures.value ∙ c.in_ok-graph.ensures) c.in_ok-found.ensures

given : (c : After-from_vec) → AreHomes c.in_ok-found.found.spans.items c.from_vec.result
given c =
    subst (λ h. AreHomes c.in_ok-found.found.spans.items h) (sym c.from_vec.ensures)
    (subst (λ s. AreHomes s c.in_ok-scan.field-0.items) c.deref-3.ensures.value c.in_ok-scan.ensures)

pub returns-clause-right : goal.returns-clause-right
returns-clause-right c =
    let a = (goal.at.returns-clause-right c).After-from_vec in
    assigned c.args.tac.now c.in_ok-count.count c.in_ok-found.found.spans.items c.in_ok-found.found.order.items c.from_vec.result
    (ap (λ g. are_below c.in_ok-count.count g) (sym (c.deref.ensures.value ∙ c.in_ok-graph.ensures)) ∙ c.in_ok-count.ensures.serves) (found a) (given a)

pub returns-clause-few : goal.returns-clause-few
returns-clause-few c =
    λ h.
    let a = (goal.at.returns-clause-few c).After-from_vec in
    let l = (given a).long in
    let m = (found a).long in
    let k = c.in_ok-count.ensures.few
    (ap (λ g. are_below c.args.tac.now.temps g) (c.deref.ensures.value ∙ c.in_ok-graph.ensures) ∙ own-temps c.args.tac.now h) in
    omega arith

pub returns-clause-slots : goal.returns-clause-slots
returns-clause-slots c =
    let a = (goal.at.returns-clause-slots c).After-from_vec in
    crowded (graph_of c.args.tac.now) c.in_ok-count.count c.in_ok-found.found.spans.items c.in_ok-found.found.order.items c.from_vec.result (found a) (given a)
