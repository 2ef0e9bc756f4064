use Rattle.std.proofs.Common.{◌<◌, ◌∙◌, length, arith}
use Rattle.stage_text.proofs.Writing.{types_step}
use Rattle.stage_text.proofs.types.push_comma_types.Goals as goal

pub loop-of-preserved : goal.loop-of-preserved
loop-of-preserved c =
    let within : c.loop-of.of-index < length c.args.types.now = omega arith in
    rw (c.in_ok-push-2.ensures.items, c.in_ok-push.ensures.items)
    (types_step c.args.below c.loop-of.parts.items c.args.types.now c.loop-of.of-index _ within ∙ c.loop-of.invariant)
