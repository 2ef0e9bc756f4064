use Rattle.std.proofs.Common.{◌<◌, arith}
use Rattle.std.proofs.lemmas.List.{take_rest}
use Rattle.terrac_call.proofs.Pieces.{sent_more, sent_some}
use Rattle.terrac_call.proofs.writing.write_piece.Goals as goal

pub pieces-preserved : goal.pieces-preserved
pieces-preserved g c =
    let some : 0 < c.in-Ok.count = omega arith in
    record {
      sent = rw take_rest
          (sent_more c.args.piece.now c.pieces.rest.now _ _ _ _ _ _ c.in-Ok.count c.pieces.invariant.sent c.in-Ok.ensures.back
          (c.in-Ok.ensures.quiet some));
      untouched = λ none. absurd (sent_some c.args.piece.now c.pieces.rest.now _ _ _ _ c.pieces.invariant.sent
          (omega (arith, c.in-Ok.ensures.within)) none);
    }
