use Rattle.rv_select.proofs.Transfers.{eights-turn}
use Rattle.rv_select.proofs.moving.+push_eights.Goals as goal

pub returns : goal.returns
returns t c =
    eights-turn c.push_eights.result c.args.code.now.items c.push_carried.new.code.items c.push_eights.new.code.items c.args.from c.args.to c.args.words c.args.at c.if-words-eq0.false
    c.in_ok-push_carried.ensures c.push_eights.ensures
