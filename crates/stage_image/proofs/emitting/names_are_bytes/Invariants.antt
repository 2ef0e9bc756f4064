use Rattle.stage_image.proofs.Names.{BytesBelow}
use Rattle.stage_image.proofs.emitting.names_are_bytes.Given as goal

abbrev pub invariant-loop-export : goal.invariant-loop-export
invariant-loop-export l = record { bytes : BytesBelow l.exports l.export-index }
