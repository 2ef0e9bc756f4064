use Rattle.std.proofs.Common.{◌∙◌, ap, List}
use Rattle.terra_term.specs.declared.piece.Piece.{Piece}
use Rattle.terra_term.specs.Pieces.{text_in}
use Rattle.tl_base.proofs.Results.{if-ok}
use Rattle.terra_term.proofs.Parts.{doing-statement, doing-expression, doing-function, doing-none}
use Rattle.terra_term.proofs.text.pieces_of_doing.Goals as goal

pub returns-in-Some-Statement : goal.returns-in-Some-Statement
returns-in-Some-Statement c =
    if-ok c.pieces_of_statement.result c.pieces_of_statement.ensures
    (λ v same. ap (λ (ps : List Piece). text_in c.args.store.now ps) same ∙
    doing-statement c.args.store.now c.args.below c.args.term _ _ (rw c.in-Some-Statement.field-0-is at c.in-Some-Statement.ensures))

pub returns-in-Some-Expression : goal.returns-in-Some-Expression
returns-in-Some-Expression c =
    if-ok c.no_statement.result c.no_statement.ensures
    (λ v same. ap (λ (ps : List Piece). text_in c.args.store.now ps) same ∙
    doing-expression c.args.store.now c.args.below c.args.term _ _ (rw c.in-Some-Expression.field-0-is at c.in-Some-Expression.ensures))

pub returns-in-Some-Function : goal.returns-in-Some-Function
returns-in-Some-Function c =
    if-ok c.no_statement-in-Some-Function.result c.no_statement-in-Some-Function.ensures
    (λ v same. ap (λ (ps : List Piece). text_in c.args.store.now ps) same ∙
    doing-function c.args.store.now c.args.below c.args.term _ _ _ (rw c.in-Some-Function.field-0-is at c.in-Some-Function.ensures))

pub returns-in-None : goal.returns-in-None
returns-in-None c =
    if-ok c.no_statement-in-None.result c.no_statement-in-None.ensures
    (λ v same. ap (λ (ps : List Piece). text_in c.args.store.now ps) same ∙ doing-none c.args.store.now c.args.below c.args.term c.in-None.ensures)
