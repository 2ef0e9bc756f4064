use Rattle.stage_library.proofs.Keeping.{terra_on}
use Rattle.stage_library.proofs.calls.call_terra.Goals as goal

pub returns-clause-kept : goal.returns-clause-kept
returns-clause-kept c = terra_on c.call.result c.args.world.now c.call.new.world c.call.ensures.kept
