use Rattle.std.proofs.Common.{refl, sym, ap, ◌∙◌, List, [], Some}
use Rattle.tl_base.specs.declared.ids.TermId.{TermId}
use Rattle.terra_term.specs.declared.term.Expression.TheVariants as e
use Rattle.terra_term.specs.declared.term.Statement.TheVariants as s
use Rattle.terra_term.specs.declared.term.Initialiser.TheVariants as initialisers
use Rattle.spec_model.specs.Making.{with_name}
use Rattle.spec_model.specs.Plans.{make, join, terms_of}
use Rattle.spec_model.specs.Names.{naming}
use Rattle.spec_model.specs.Statements.{drawn}
use Rattle.spec_machine.specs.declared.frame.TermsThen.{TermsThen}
use Rattle.spec_machine.specs.Frames.{terms_then}
use Rattle.spec_machine.specs.Kept.{keeps_then}
use Rattle.spec_machine.proofs.Doing.{moved}
use Rattle.tl_base.proofs.Results.{carried}
use Rattle.spec_machine.proofs.Entering.{does_as}
use Rattle.spec_machine.proofs.lists.with_terms.Goals as goal

pub returns-in_ok-list-in-Call-clause-means : goal.returns-in_ok-list-in-Call-clause-means
returns-in_ok-list-in-Call-clause-means c =
    let a = c.args in
    let m = c.in-Call in
    let list = c.in_ok-list-in-Call.list in
    carried _ _ c.make.result c.make.ensures.means (λ step g items left.
    does_as items a.frames.now.items (terms_then items a.then a.env a.terms) (make m.place (e.Call m.callee list))
    a.world.now c.make.new.world left left step
    (ap (λ (t : TermsThen). terms_then items t a.env a.terms) m.is
    ∙ ap (λ (ts : List TermId). make m.place (e.Call m.callee ts)) (sym c.in_ok-list-in-Call.ensures))
    (g items left))

pub returns-in_ok-from_list-in-Positional-clause-means : goal.returns-in_ok-from_list-in-Positional-clause-means
returns-in_ok-from_list-in-Positional-clause-means c =
    let a = c.args in
    let m = c.in-Positional in
    let list = c.in_ok-from_list-in-Positional.field-0 in
    carried _ _ c.make-in-Positional.result c.make-in-Positional.ensures.means (λ step g items left.
    does_as items a.frames.now.items (terms_then items a.then a.env a.terms) (make m.place (e.New m.of (initialisers.Positional list)))
    a.world.now c.make-in-Positional.new.world left left step
    (ap (λ (t : TermsThen). terms_then items t a.env a.terms) m.is
    ∙ ap (λ (ts : List TermId). make m.place (e.New m.of (initialisers.Positional ts))) (sym c.in_ok-from_list-in-Positional.ensures))
    (g items left))

pub returns-in_ok-list-in-Return-clause-means : goal.returns-in_ok-list-in-Return-clause-means
returns-in_ok-list-in-Return-clause-means c =
    let a = c.args in
    let m = c.in-Return in
    let list = c.in_ok-list-in-Return.list in
    carried _ _ c.join.result c.join.ensures.means (λ step g items left.
    does_as items a.frames.now.items (terms_then items a.then a.env a.terms) (join m.place (s.Return list))
    a.world.now c.join.new.world left left step
    (ap (λ (t : TermsThen). terms_then items t a.env a.terms) m.is
    ∙ ap (λ (ts : List TermId). join m.place (s.Return ts)) (sym c.in_ok-list-in-Return.ensures))
    (g items left))

pub returns-in_ok-list-in-Method-clause-means : goal.returns-in_ok-list-in-Method-clause-means
returns-in_ok-list-in-Method-clause-means c =
    let a = c.args in
    let m = c.in-Method in
    let list = c.in_ok-list-in-Method.list in
    let w = a.world.now in
    let v = c.naming.new.world in
    carried _ _ c.make-in-Method.result c.make-in-Method.ensures.means (λ step g items left.
    moved items a.frames.now.items a.frames.now.items (terms_then items a.then a.env a.terms)
    (naming m.method (make m.place (e.Method m.object m.method a.terms))) w w c.make-in-Method.new.world left left step
    (ap (λ (t : TermsThen). terms_then items t a.env a.terms) m.is) refl
    (moved items a.frames.now.items a.frames.now.items (make m.place (e.Method m.object m.method a.terms))
    (make m.place (e.Method m.object m.method list)) (with_name w m.method) v c.make-in-Method.new.world left left step
    (ap (λ (ts : List TermId). make m.place (e.Method m.object m.method ts)) (sym c.in_ok-list-in-Method.ensures))
    (sym c.in_ok-naming-in-Method.ensures.ok) (g items left a.frames.now.items)))

pub returns-in_ok-list-in-Method-clause-kept : goal.returns-in_ok-list-in-Method-clause-kept
returns-in_ok-list-in-Method-clause-kept c =
    carried _ _ c.make-in-Method.result c.make-in-Method.ensures.kept (λ step k.
    keeps_then c.args.world.now c.naming.new.world c.make-in-Method.new.world c.in_ok-naming-in-Method.ensures.kept k)

pub returns-in-Targets-clause-means : goal.returns-in-Targets-clause-means
returns-in-Targets-clause-means c =
    let a = c.args in
    let m = c.in-Targets in
    let w = a.world.now in
    carried _ _ c.assigned.result c.assigned.ensures.means (λ step g items left.
    moved items a.frames.now.items c.assigned.new.frames.items (terms_then items a.then a.env a.terms)
    (terms_of m.values.now a.env [] (λ us. join m.place (s.Assign a.terms us))) w w c.assigned.new.world left left step
    (ap (λ (t : TermsThen). terms_then items t a.env a.terms) m.is) refl (g items left))

pub returns-in-Assign-clause-means : goal.returns-in-Assign-clause-means
returns-in-Assign-clause-means c =
    let a = c.args in
    let m = c.in-Assign in
    carried _ _ c.assign.result c.assign.ensures.means (λ step g items left.
    does_as items a.frames.now.items (terms_then items a.then a.env a.terms) (join m.place (s.Assign m.targets a.terms))
    a.world.now c.assign.new.world left left step
    (ap (λ (t : TermsThen). terms_then items t a.env a.terms) m.is) (g items left))

pub returns-in-Var-clause-means : goal.returns-in-Var-clause-means
returns-in-Var-clause-means c =
    let a = c.args in
    let m = c.in-Var in
    carried _ _ c.declared.result c.declared.ensures.means (λ step g items left.
    does_as items a.frames.now.items (terms_then items a.then a.env a.terms)
    (drawn m.wanted a.env [] (λ names. join m.place (s.Var names (Some a.terms)))) a.world.now c.declared.new.world left left step
    (ap (λ (t : TermsThen). terms_then items t a.env a.terms) m.is) (g items left))
