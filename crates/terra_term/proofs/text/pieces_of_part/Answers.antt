use Rattle.std.proofs.Common.{◌∙◌, ap, List}
use Rattle.terra_term.specs.declared.piece.Piece.{Piece}
use Rattle.terra_term.specs.Pieces.{text_in}
use Rattle.tl_base.proofs.Results.{if-ok}
use Rattle.terra_term.proofs.Parts.{part-expression, part-statement, part-function, part-none}
use Rattle.terra_term.proofs.text.pieces_of_part.Goals as goal

pub returns-in-Some-Expression : goal.returns-in-Some-Expression
returns-in-Some-Expression c =
    if-ok c.pieces_of_expression.result c.pieces_of_expression.ensures
    (λ v same. ap (λ (ps : List Piece). text_in c.args.store.now ps) same ∙
    part-expression c.args.store.now c.args.below c.args.term _ _ (rw c.in-Some-Expression.field-0-is at c.in-Some-Expression.ensures))

pub returns-in-None : goal.returns-in-None
returns-in-None c =
    if-ok c.word_alone-in-None.result c.word_alone-in-None.ensures
    (λ v same. ap (λ (ps : List Piece). text_in c.args.store.now ps) same ∙ part-none c.args.store.now c.args.below c.args.term c.in-None.ensures)

pub returns-in-Some-Statement : goal.returns-in-Some-Statement
returns-in-Some-Statement c =
    if-ok c.word_alone.result c.word_alone.ensures
    (λ v same. ap (λ (ps : List Piece). text_in c.args.store.now ps) same ∙
    part-statement c.args.store.now c.args.below c.args.term _ _ (rw c.in-Some-Statement.field-0-is at c.in-Some-Statement.ensures))

pub returns-in-Some-Function : goal.returns-in-Some-Function
returns-in-Some-Function c =
    if-ok c.word_alone-in-Some-Function.result c.word_alone-in-Some-Function.ensures
    (λ v same. ap (λ (ps : List Piece). text_in c.args.store.now ps) same ∙
    part-function c.args.store.now c.args.below c.args.term _ _ _ (rw c.in-Some-Function.field-0-is at c.in-Some-Function.ensures))
