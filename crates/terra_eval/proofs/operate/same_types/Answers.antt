use Rattle.terra_eval.proofs.Turns.{lengths-differ}
use Rattle.terra_eval.proofs.operate.same_types.Goals as goal

pub returns-then-types-names : goal.returns-then-types-names
returns-then-types-names c = lengths-differ c.args.types.now c.args.names.now c.if-types-names.true
