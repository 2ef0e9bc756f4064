use Rattle.check_flow.proofs.Keeping.{keeps_known, kept_as}
use Rattle.check_flow.proofs.layout_steps.finish.Goals as goal

pub returns-clause-kept : goal.returns-clause-kept
returns-clause-kept c =
    let law = c.what_is_kept_is_known.ensures in
    let w = c.args.world.now in
    kept_as w c.settle_entries.new.world _ c.settle_entries.ensures (keeps_known w c.args.of _ law.there law.elsewhere)
