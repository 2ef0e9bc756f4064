use Rattle.stage_check.proofs.Keeping.{asked_on}
use Rattle.stage_loop.proofs.raising.refuse_in.Goals as goal

pub returns-clause-kept : goal.returns-clause-kept
returns-clause-kept c = asked_on c.raise_refusal.result c.args.world.now c.raise_refusal.new.world c.raise_refusal.ensures.kept
