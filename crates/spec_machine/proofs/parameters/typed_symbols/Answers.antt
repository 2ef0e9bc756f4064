use Rattle.std.proofs.Common.{◌≡◌, ◌+◌, ◌-◌, sym, ◌∙◌}
use Rattle.spec_machine.proofs.Defining as defining
use Rattle.spec_machine.proofs.parameters.typed_symbols.Goals as goal

pub symbols-preserved : goal.symbols-preserved
symbols-preserved c =
    let a = c.args in
    let l = c.symbols in
    defining.typed_more a.world.now a.symbols.now l.symbol-index _ a.at l.drawn c.push.new.self c.type_of_symbol.result c.in-Some.of
    c.symbols-test.true c.in-Some.is c.type_of_symbol.ensures c.in_ok-push-in-Some.ensures.ok
    ∙ l.invariant

pub returns-in-None : goal.returns-in-None
returns-in-None c =
    let a = c.args in
    let l = c.symbols in
    defining.typed_none a.world.now a.symbols.now l.symbol-index _ a.at l.drawn c.type_of_symbol.result
    c.symbols-test.true c.in-None.is c.type_of_symbol.ensures
    ∙ l.invariant

pub returns : goal.returns
returns c =
    let a = c.args in
    let l = c.symbols in
    sym (defining.typed_end a.world.now a.symbols.now l.symbol-index a.at l.drawn c.symbols-test.false) ∙ l.invariant
