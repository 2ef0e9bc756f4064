use Rattle.stage_library.proofs.Keeping.{terra_on}
use Rattle.stage_library.proofs.calls.back_terra.Goals as goal

pub returns-clause-kept : goal.returns-clause-kept
returns-clause-kept c = terra_on c.back.result c.args.world.now c.back.new.world c.back.ensures.kept
