use Rattle.check_library.proofs.Kept.{behind_on, keeps_exported}
use Rattle.check_library.proofs.exports.export_counted.Goals as goal

pub returns-in_ok-export-in-None-clause-kept : goal.returns-in_ok-export-in-None-clause-kept
returns-in_ok-export-in-None-clause-kept c =
    behind_on c.go_on.result c.args.world.now _ _ c.go_on.new.world c.in_ok-export-in-None.ensures
    (keeps_exported _ _ _) c.go_on.ensures.kept
