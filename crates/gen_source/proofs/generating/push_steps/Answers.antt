use Rattle.std.proofs.Common.{◌+◌}
use Rattle.std.specs.String.{string_bytes}
use Rattle.gen_source.specs.Generated.{step_line}
use Rattle.gen_source.proofs.Growing.{each-step}
use Rattle.gen_source.proofs.generating.push_steps.Goals as goal

pub loop-before-preserved : goal.loop-before-preserved
loop-before-preserved c =
    each-step (λ before. step_line (c.args.first + (before + 1))) c.loop-before.before (string_bytes c.args.out.now) (string_bytes c.loop-before.out)
    (string_bytes c.push_step.new.out) c.loop-before.invariant c.in_ok-push_step.ensures
