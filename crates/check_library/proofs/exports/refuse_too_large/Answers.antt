use Rattle.std.proofs.Common.{sym}
use Rattle.tl_base.specs.Layer.{state}
use Rattle.check_library.proofs.Raising.{refused_past}
use Rattle.check_library.proofs.exports.refuse_too_large.Goals as goal

pub returns-clause-does : goal.returns-clause-does
returns-clause-does c =
    let a = c.args in
    rw (sym (refused_past (state a.world.now a.budget.now) a.at_end a.passing c.place_of_function-own.result c.raised_at-at.result a.place
    c.place_of_function-own.ensures c.raised_at-at.ensures)) c.refuse.ensures.does
