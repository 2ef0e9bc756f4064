use Rattle.std.proofs.Common.{sym}
use Rattle.tl_base.specs.Layer.{state}
use Rattle.check_library.proofs.Room.{no_room}
use Rattle.check_library.proofs.layouts.place_global.Goals as goal

pub returns-clause-does : goal.returns-clause-does
returns-clause-does c =
    let a = c.args in
    rw (sym (no_room (state a.world.now a.budget.now) a.of c.bytes_of-size.result a.bits a.place c.has_room.result c.has_room.ensures
    c.if-has_room.false c.bytes_of-size.ensures)) c.raise.ensures.does
