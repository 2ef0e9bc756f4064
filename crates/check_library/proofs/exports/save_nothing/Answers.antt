use Rattle.std.proofs.Common.{ap}
use Rattle.exotype.specs.World.{ExportState}
use Rattle.exotype.specs.contracts.world.World.{the_view}
use Rattle.check_library.proofs.Kept.{marked_on}
use Rattle.check_library.proofs.exports.save_nothing.Goals as goal

pub returns-clause-kept : goal.returns-clause-kept
returns-clause-kept c =
    let v = the_view c.world.inside in
    marked_on c.bad_argument.result c.args.world.now v (record v { exports = c.save.new.self }) c.bad_argument.new.world
    c.world.view_is (ap (λ (e : ExportState). record v { exports = e }) c.save.ensures) c.bad_argument.ensures.kept
