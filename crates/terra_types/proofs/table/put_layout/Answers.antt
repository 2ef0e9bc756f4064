-- Nothing is changed where there is no struct.
use Rattle.terra_types.proofs.Settling.{with_laid-none, with_laid-same, with_layout-plain}
use Rattle.terra_types.proofs.table.put_layout.Goals as goal

pub returns-in_default : goal.returns-in_default
returns-in_default c =
    with_laid-same c.args.table.now.entries c.args.t c.args.layout c.in-Some.kept.now c.in-Some.ensures.value
    (with_layout-plain c.in-Some.kept.now.form c.args.layout c.in_default.not-Struct)

pub returns-in-None : goal.returns-in-None
returns-in-None c = with_laid-none c.args.table.now.entries c.args.t c.args.layout c.in-None.ensures.value
