use Rattle.stage_check.proofs.Keeping.{asked_on}
use Rattle.stage_check.proofs.asking.begin.Goals as goal

pub returns-in-Call-clause-kept : goal.returns-in-Call-clause-kept
returns-in-Call-clause-kept c = asked_on c.call.result c.args.world.now c.call.new.world c.call.ensures.kept

pub returns-in-Export-clause-kept : goal.returns-in-Export-clause-kept
returns-in-Export-clause-kept c =
    asked_on c.end_of_chunk.result c.args.world.now c.end_of_chunk.new.world c.end_of_chunk.ensures.kept
