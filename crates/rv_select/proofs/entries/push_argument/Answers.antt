use Rattle.std.specs.Prelude.{◌+◌, ◌*◌}
use Rattle.rv_select.specs.Numbers.{register_of}
use Rattle.rv_select.proofs.Pushed.{stored-same}
use Rattle.rv_select.proofs.entries.push_argument.Goals as goal

pub returns : goal.returns
returns c =
    stored-same c.push_stored_below.result c.args.code.now.items c.push_stored_below.new.code.items c.register.result (register_of (10 + c.args.number)) (8 * (c.args.number + 1))
    c.register.ensures c.push_stored_below.ensures
