use Rattle.rv_select.proofs.Clears.{zeros-turn}
use Rattle.rv_select.proofs.accessing.+push_zeros.Goals as goal

pub returns : goal.returns
returns t c =
    zeros-turn c.push_zeros.result c.args.code.now.items c.push_zero.new.code.items c.push_zeros.new.code.items c.args.words c.args.at c.if-words-eq0.false c.in_ok-push_zero.ensures c.push_zeros.ensures
