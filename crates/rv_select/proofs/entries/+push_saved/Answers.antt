use Rattle.rv_select.specs.Places.{with_homes}
use Rattle.rv_select.proofs.Pushed.{saved-turn}
use Rattle.rv_select.proofs.entries.+push_saved.Goals as goal

pub returns : goal.returns
returns t c =
    saved-turn (with_homes c.args.homes.now) c.args.count c.args.number c.push_saved.result c.args.code.now.items c.push_saved_one.new.code.items c.push_saved.new.code.items
    c.if-count-eq0.false c.in_ok-push_saved_one.ensures c.push_saved.ensures
