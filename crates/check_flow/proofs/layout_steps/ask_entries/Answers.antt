use Rattle.exotype.specs.declared.property.Known.TheVariants.{Asked}
use Rattle.check_flow.proofs.Keeping.{keeps_asking, kept_as}
use Rattle.check_flow.proofs.layout_steps.ask_entries.Goals as goal

pub returns-in_ok-step-2-clause-kept : goal.returns-in_ok-step-2-clause-kept
returns-in_ok-step-2-clause-kept c =
    let law = c.what_is_kept_is_known.ensures in
    let w = c.args.world.now in
    kept_as w c.begin_entries.new.world _ c.in_ok-begin_entries.ensures (keeps_asking w c.args.of Asked law.there law.elsewhere c.requires)
