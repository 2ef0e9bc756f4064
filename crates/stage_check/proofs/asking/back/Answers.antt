use Rattle.stage_check.proofs.Keeping.{asked_on}
use Rattle.stage_check.proofs.asking.back.Goals as goal

pub returns-clause-kept : goal.returns-clause-kept
returns-clause-kept c = asked_on c.back.result c.args.world.now c.back.new.world c.back.ensures.kept
