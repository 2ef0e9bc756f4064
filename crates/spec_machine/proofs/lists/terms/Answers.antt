use Rattle.std.proofs.Common.{refl, ap, List}
use Rattle.tl_base.specs.declared.ids.NodeId.{NodeId}
use Rattle.spec_machine.specs.Frames.{terms_plan, terms_then}
use Rattle.spec_machine.proofs.Doing.{moved}
use Rattle.tl_base.proofs.Results.{carried}
use Rattle.spec_machine.proofs.Pushing.{none_is, list_enters}
use Rattle.spec_machine.proofs.lists.terms.Goals as goal

pub returns-in-None-clause-means : goal.returns-in-None-clause-means
returns-in-None-clause-means c =
    let a = c.args in
    carried _ _ c.with_terms.result c.with_terms.ensures.means (λ step g items left.
    moved items a.frames.now.items c.with_terms.new.frames.items (terms_plan items a.nodes.now a.env a.terms a.then)
    (terms_then items a.then a.env a.terms) a.world.now a.world.now c.with_terms.new.world left left step
    (ap (λ (ns : List NodeId). terms_plan items ns a.env a.terms a.then) (none_is a.nodes.now c.in-None.ensures.cases)) refl
    (g items left))

pub returns-in_ok-push-in-Some-clause-means : goal.returns-in_ok-push-in-Some-clause-means
returns-in_ok-push-in-Some-clause-means c = λ items left.
    let a = c.args in
    list_enters items a.frames.now.items c.push.new.self.items a.nodes.now c.in-Some.first.now
    (record { rest = c.in-Some.rest; env = a.env; terms = a.terms; then = a.then }) a.world.now left
    c.in-Some.ensures.cases.0 c.in_ok-push-in-Some.ensures.items
