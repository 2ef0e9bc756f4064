use Rattle.std.proofs.Common.{◌<◌, ◌∙◌, length, arith}
use Rattle.terra_term.proofs.pieces.push_spaced_names.Goals as goal
use Rattle.terra_term.proofs.Steps.{names-step}

pub loop-name-preserved : goal.loop-name-preserved
loop-name-preserved c =
    let within : c.loop-name.name-index < length c.args.names.now = omega arith in
    rw (c.in_ok-push_name.ensures, c.in_ok-push.ensures.items)
    (names-step c.loop-name.pieces.items c.args.names.now c.loop-name.name-index _ within ∙ c.loop-name.invariant)
