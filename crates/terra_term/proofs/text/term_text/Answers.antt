use Rattle.std.proofs.Common.{◌≡◌, ◌∙◌, ap, List, Some}
use Rattle.terra_term.specs.declared.piece.Piece.{Piece}
use Rattle.terra_term.specs.Held.{state_of, term_in}
use Rattle.terra_term.specs.Pieces.{text_in, definition_pieces}
use Rattle.tl_base.proofs.Results.{if-ok}
use Rattle.terra_term.proofs.Parts.{function-found, function-expression, function-statement, function-absent}
use Rattle.terra_term.proofs.text.term_text.Goals as goal

pub returns-in_ok-pieces-in-Some-Function : goal.returns-in_ok-pieces-in-Some-Function
returns-in_ok-pieces-in-Some-Function c =
    let there : Some c.in-Some.term ≡ term_in (state_of c.args.store.now c.args.f) = rw c.state.ensures at c.in-Some.ensures in
    let items : c.in_ok-pieces-in-Some-Function.pieces.items ≡ definition_pieces c.args.f c.in-Some.term.0 c.in-Some-Function.parameters c.in-Some-Function.of c.in-Some-Function.body =
    rw (c.as_slice.ensures, c.as_slice-in-Some-Function.ensures) at c.in_ok-pieces-in-Some-Function.ensures in
    if-ok c.write.result c.write.ensures
    (λ v same. same ∙ (ap (λ (ps : List Piece). text_in c.args.store.now ps) items ∙
    function-found c.args.store.now c.args.f c.in-Some.term _ _ _ there (rw c.in-Some-Function.field-0-is at c.in-Some-Function.ensures)))

pub returns-in-Some-Expression : goal.returns-in-Some-Expression
returns-in-Some-Expression c =
    let there : Some c.in-Some.term ≡ term_in (state_of c.args.store.now c.args.f) = rw c.state.ensures at c.in-Some.ensures in
    c.new-in-Some-Expression.ensures ∙
    function-expression c.args.store.now c.args.f c.in-Some.term _ _ there (rw c.in-Some-Expression.field-0-is at c.in-Some-Expression.ensures)

pub returns-in-Some-Statement : goal.returns-in-Some-Statement
returns-in-Some-Statement c =
    let there : Some c.in-Some.term ≡ term_in (state_of c.args.store.now c.args.f) = rw c.state.ensures at c.in-Some.ensures in
    c.new-in-Some-Statement.ensures ∙
    function-statement c.args.store.now c.args.f c.in-Some.term _ _ there (rw c.in-Some-Statement.field-0-is at c.in-Some-Statement.ensures)

pub returns-in-None : goal.returns-in-None
returns-in-None c =
    let there : Some c.in-Some.term ≡ term_in (state_of c.args.store.now c.args.f) = rw c.state.ensures at c.in-Some.ensures in
    c.new-in-None.ensures ∙ function-absent c.args.store.now c.args.f c.in-Some.term there c.in-None.ensures
