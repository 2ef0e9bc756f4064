use Rattle.std.proofs.Common.{length, refl, arith}
use Rattle.std.proofs.lemmas.Option.{slice_get_read}
use Rattle.stage_image.proofs.Names.{one-more, all-below}
use Rattle.stage_image.proofs.emitting.names_are_bytes.Goals as goal

pub loop-export-init : goal.loop-export-init
loop-export-init c = record { bytes = λ i e h at. absurd (omega (arith, h)) }

pub loop-export-preserved : goal.loop-export-preserved
loop-export-preserved c = record {
  bytes = one-more c.args.exports.now c.loop-export.export-index c.export-item.result c.loop-export.invariant.bytes
      (slice_get_read c.args.exports.now (length c.args.exports.now) c.loop-export.export-index c.export-item.result refl
      c.loop-export-test.true c.export-item.is)
      c.name_is_bytes.ensures;
}

pub returns : goal.returns
returns c =
    let reached = c.loop-export-test.false in
    all-below c.args.exports.now c.loop-export.export-index c.loop-export.invariant.bytes (omega (arith, reached))
