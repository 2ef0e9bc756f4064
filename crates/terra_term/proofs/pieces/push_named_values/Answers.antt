use Rattle.std.proofs.Common.{◌<◌, ◌≤◌, ◌∙◌, ◌++◌, List, length, arith, ap, sym, append-nil}
use Rattle.terra_term.specs.declared.piece.Piece.{Piece}
use Rattle.terra_term.proofs.pieces.push_named_values.Goals as goal
use Rattle.terra_term.proofs.Steps.{named-step, named-stop}

pub loop-place-preserved : goal.loop-place-preserved
loop-place-preserved c =
    let in_fields : c.loop-place.place < length c.args.fields.now = omega arith in
    let in_values : c.loop-place.place < length c.args.values.now = omega arith in
    rw c.in_ok-push_named_value.ensures
    (named-step c.args.below c.loop-place.pieces.items c.args.fields.now c.args.values.now c.loop-place.place _ _ in_fields in_values ∙ c.loop-place.invariant)

pub returns-then-place-values : goal.returns-then-place-values
returns-then-place-values c =
    let items = c.loop-place.pieces.items in
    let in_fields : c.loop-place.place < length c.args.fields.now = omega arith in
    let past : length c.args.values.now ≤ c.loop-place.place = omega arith in
    sym (append-nil items) ∙
    (ap (λ (l : List Piece). items ++ l) (sym (named-stop c.args.below c.args.fields.now c.args.values.now c.loop-place.place (record { 0 = 0 }) in_fields past)) ∙
    c.loop-place.invariant)
