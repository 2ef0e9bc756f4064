use Rattle.std.proofs.Common.{◌≡◌, ◌∙◌, ◌++◌, [], List, ℕ, ap, sym, append-nil}
use Rattle.terra_term.specs.Pieces.{text_in, piece_text}
use Rattle.tl_base.proofs.Results.{on-ok}
use Rattle.terra_term.proofs.Texts.{part-step}
use Rattle.terra_term.proofs.Parts.{type-before, type-past}
use Rattle.terra_term.proofs.text.step.Goals as goal

pub returns-in_ok-pieces-in-Expression : goal.returns-in_ok-pieces-in-Expression
returns-in_ok-pieces-in-Expression c =
    let same : text_in c.args.store.now c.in_ok-pieces-in-Expression.pieces.items ≡ piece_text c.args.store.now c.args.piece = rw c.in-Expression.is c.in_ok-pieces-in-Expression.ensures in
    on-ok c.prepend.result c.prepend.ensures
    (λ moved. part-step c.args.store.now c.args.out.now c.in_ok-pieces-in-Expression.pieces.items c.args.work.now.items c.prepend.new.work.items (piece_text c.args.store.now c.args.piece) moved same)

pub returns-in_ok-pieces-in-Statement : goal.returns-in_ok-pieces-in-Statement
returns-in_ok-pieces-in-Statement c =
    let same : text_in c.args.store.now c.in_ok-pieces-in-Statement.pieces.items ≡ piece_text c.args.store.now c.args.piece = rw c.in-Statement.is c.in_ok-pieces-in-Statement.ensures in
    on-ok c.prepend-in-Statement.result c.prepend-in-Statement.ensures
    (λ moved. part-step c.args.store.now c.args.out.now c.in_ok-pieces-in-Statement.pieces.items c.args.work.now.items c.prepend-in-Statement.new.work.items (piece_text c.args.store.now c.args.piece) moved same)

pub returns-in_ok-pieces-in-Type : goal.returns-in_ok-pieces-in-Type
returns-in_ok-pieces-in-Type c =
    let same : text_in c.args.store.now c.in_ok-pieces-in-Type.pieces.items ≡ piece_text c.args.store.now c.args.piece = rw c.in-Type.is c.in_ok-pieces-in-Type.ensures in
    on-ok c.prepend-in-Type.result c.prepend-in-Type.ensures
    (λ moved. part-step c.args.store.now c.args.out.now c.in_ok-pieces-in-Type.pieces.items c.args.work.now.items c.prepend-in-Type.new.work.items (piece_text c.args.store.now c.args.piece) moved same)

pub returns-then-of-below : goal.returns-then-of-below
returns-then-of-below c =
    let same : text_in c.args.store.now c.in_ok-pieces-in-TypeBefore.pieces.items ≡ piece_text c.args.store.now c.args.piece =
    rw c.in-TypeBefore.is (c.in_ok-pieces-in-TypeBefore.ensures ∙ type-before c.args.store.now c.in-TypeBefore.of c.in-TypeBefore.below c.if-of-below.true) in
    on-ok c.prepend-then-of-below.result c.prepend-then-of-below.ensures
    (λ moved. part-step c.args.store.now c.args.out.now c.in_ok-pieces-in-TypeBefore.pieces.items c.args.work.now.items c.prepend-then-of-below.new.work.items (piece_text c.args.store.now c.args.piece) moved same)

pub returns-else-of-below : goal.returns-else-of-below
returns-else-of-below c =
    let empty : [] ≡ piece_text c.args.store.now c.args.piece = rw c.in-TypeBefore.is (type-past c.args.store.now c.in-TypeBefore.of c.in-TypeBefore.below c.if-of-below.false) in
    ap (λ (bs : List ℕ). bs ++ text_in c.args.store.now c.args.work.now.items) (sym (append-nil c.args.out.now) ∙ ap (λ (bs : List ℕ). c.args.out.now ++ bs) empty)
