use Rattle.std.proofs.Common.{ap}
use Rattle.exotype.specs.World.{ExportState}
use Rattle.exotype.specs.contracts.world.World.{the_view}
use Rattle.check_library.proofs.Kept.{marked_on}
use Rattle.check_library.proofs.exports.export_table.Goals as goal

pub returns-clause-kept : goal.returns-clause-kept
returns-clause-kept c =
    let v = the_view c.world.inside in
    marked_on c.go_on.result c.args.world.now v (record v { exports = c.save.new.self }) c.go_on.new.world
    c.world.view_is (ap (λ (e : ExportState). record v { exports = e }) c.save.ensures) c.go_on.ensures.kept
