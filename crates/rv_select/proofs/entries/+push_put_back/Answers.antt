use Rattle.rv_select.specs.Places.{with_homes}
use Rattle.rv_select.proofs.Pushed.{put-back-turn}
use Rattle.rv_select.proofs.entries.+push_put_back.Goals as goal

pub returns : goal.returns
returns t c =
    put-back-turn (with_homes c.args.homes.now) c.args.count c.args.number c.push_put_back.result c.args.code.now.items c.push_put_back_one.new.code.items c.push_put_back.new.code.items
    c.if-count-eq0.false c.in_ok-push_put_back_one.ensures c.push_put_back.ensures
