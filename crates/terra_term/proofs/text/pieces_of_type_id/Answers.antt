use Rattle.std.proofs.Common.{◌≡◌, ◌∙◌, ap, List, Some, None, slice_get}
use Rattle.terra_term.specs.declared.piece.Piece.{Piece}
use Rattle.terra_term.specs.Pieces.{text_in}
use Rattle.tl_base.proofs.Results.{if-ok}
use Rattle.terra_term.proofs.Parts.{type-found, type-absent}
use Rattle.terra_term.proofs.text.pieces_of_type_id.Goals as goal

pub returns-in-Some : goal.returns-in-Some
returns-in-Some c =
    let found : Some c.in-Some.form.now ≡ slice_get c.args.store.now.types c.args.of.0 = rw c.types.ensures at c.in-Some.ensures in
    if-ok c.pieces_of_type.result c.pieces_of_type.ensures
    (λ v same. ap (λ (ps : List Piece). text_in c.args.store.now ps) same ∙ type-found c.args.store.now c.args.of _ found)

pub returns-in-None : goal.returns-in-None
returns-in-None c =
    let none : None ≡ slice_get c.args.store.now.types c.args.of.0 = rw c.types.ensures at c.in-None.ensures in
    ap (λ (ps : List Piece). text_in c.args.store.now ps) c.new.ensures.items ∙ type-absent c.args.store.now c.args.of none
