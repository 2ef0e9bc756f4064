use Rattle.std.proofs.Common.{◌<◌, ◌∙◌, length, arith}
use Rattle.stage_loop.proofs.Lines.{lines_on}
use Rattle.stage_loop.proofs.texts.check_lines.Goals as goal

pub loop-check-preserved : goal.loop-check-preserved
loop-check-preserved c =
    let within : c.loop-check.check-index < length c.args.checks.now = omega arith in
    rw c.in_ok-push_check.ensures
    (lines_on c.args.world.now c.args.checks.now c.loop-check.check-index _ c.loop-check.out within ∙ c.loop-check.invariant)
