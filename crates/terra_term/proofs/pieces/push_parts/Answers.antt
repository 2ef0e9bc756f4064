use Rattle.std.proofs.Common.{◌<◌, ◌∙◌, length, arith}
use Rattle.terra_term.proofs.pieces.push_parts.Goals as goal
use Rattle.terra_term.proofs.Steps.{parts-step}

pub loop-id-preserved : goal.loop-id-preserved
loop-id-preserved c =
    let within : c.loop-id.id-index < length c.args.ids.now = omega arith in
    rw (c.in_ok-push-2.ensures.items, c.part.ensures, c.in_ok-push.ensures.items)
    (parts-step c.args.kind c.args.below c.loop-id.pieces.items c.args.ids.now c.loop-id.id-index _ within ∙ c.loop-id.invariant)
