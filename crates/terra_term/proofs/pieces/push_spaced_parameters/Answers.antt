use Rattle.std.proofs.Common.{◌<◌, ◌∙◌, length, arith}
use Rattle.terra_term.proofs.pieces.push_spaced_parameters.Goals as goal
use Rattle.terra_term.proofs.Steps.{parameters-step}

pub loop-parameter-preserved : goal.loop-parameter-preserved
loop-parameter-preserved c =
    let within : c.loop-parameter.parameter-index < length c.args.parameters.now = omega arith in
    rw (c.in_ok-push_parameter.ensures, c.in_ok-push.ensures.items)
    (parameters-step c.loop-parameter.pieces.items c.args.parameters.now c.loop-parameter.parameter-index _ within ∙ c.loop-parameter.invariant)
