use Rattle.std.proofs.Common.{◌≡◌, refl, sym, ap, ◌∙◌, List, Option, Some, None}
use Rattle.tl_base.specs.declared.ids.TypeId.{TypeId}
use Rattle.terra_term.specs.declared.lists.VarName.{VarName}
use Rattle.spec_machine.specs.Kept.{keeps_then}
use Rattle.spec_machine.proofs.Varying.{given_gets, drawn_gets}
use Rattle.spec_machine.proofs.variables.drawn_one.Goals as goal

pub returns-in-Some-clause-means : goal.returns-in-Some-clause-means
returns-in-Some-clause-means c = λ names.
    let a = c.args in
    let x = c.in-Some.symbol in
    given_gets a.world.now a.wanted x a.env names (record { symbol = x; of = c.or_own.result; place = a.wanted.place }) c.in-Some.is
    (ap (λ (t : Option TypeId). record { symbol = x; of = t; place = a.wanted.place }) c.or_own.ensures)

pub returns-in_ok-declare-in-None-clause-means : goal.returns-in_ok-declare-in-None-clause-means
returns-in_ok-declare-in-None-clause-means c = λ names.
    let a = c.args in
    drawn_gets a.world.now c.new_symbol.new.world c.declare.new.world a.wanted c.in_ok-symbol-in-None.symbol a.env names c.in-None.is
    c.in_ok-symbol-in-None.ensures.id c.in_ok-symbol-in-None.ensures.ok c.in_ok-declare-in-None.ensures.ok

pub returns-in_ok-declare-in-None-clause-kept : goal.returns-in_ok-declare-in-None-clause-kept
returns-in_ok-declare-in-None-clause-kept c =
    keeps_then c.args.world.now c.new_symbol.new.world c.declare.new.world c.in_ok-symbol-in-None.ensures.kept
    c.in_ok-declare-in-None.ensures.kept
