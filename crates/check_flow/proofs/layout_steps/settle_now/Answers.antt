use Rattle.check_flow.specs.Kept.{keeps_then}
use Rattle.check_flow.proofs.Keeping.{keeps_layout, kept_as}
use Rattle.check_flow.proofs.layout_steps.settle_now.Goals as goal

pub returns-in-Done-clause-kept : goal.returns-in-Done-clause-kept
returns-in-Done-clause-kept c =
    let w = c.args.world.now in
    keeps_then w c.put_layout.new.world c.finish.new.world
    (kept_as w c.put_layout.new.world _ c.in_ok-put_layout.ensures.ok (keeps_layout w c.args.of _ c.requires)) c.finish.ensures.kept
