use Rattle.std.specs.String.{string_bytes}
use Rattle.gen_source.specs.Generated.{group_lines}
use Rattle.gen_source.proofs.Growing.{each-step}
use Rattle.gen_source.proofs.generating.push_groups.Goals as goal

pub loop-before-preserved : goal.loop-before-preserved
loop-before-preserved c =
    each-step (group_lines c.args.count) c.loop-before.before (string_bytes c.args.out.now) (string_bytes c.loop-before.out)
    (string_bytes c.push_group.new.out) c.loop-before.invariant c.in_ok-push_group.ensures
