use Rattle.std.proofs.Common.{◌∙◌, sym}
use Rattle.exotype.proofs.Ids.{each_type}
use Rattle.exotype.proofs.types.are_types.Goals as goal

pub returns-clause-each : goal.returns-clause-each
returns-clause-each c = λ h. each_type c.args.types.now c.args.ids.now (sym c.all_are_types.ensures ∙ h)
