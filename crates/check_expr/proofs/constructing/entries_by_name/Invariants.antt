use Rattle.std.proofs.Common.{◌≡◌, ◌++◌, drop}
use Rattle.terra_types.specs.Layouts.{entries_of}
use Rattle.check_model.specs.Expressions as models
use Rattle.check_expr.proofs.constructing.entries_by_name.Given as goal

abbrev pub invariant-names : goal.invariant-names
invariant-names l =
    l.entries ++ models.by_name (entries_of l.world.store.types l.of) (drop l.name-index l.names)
    ≡ models.by_name (entries_of l.world.store.types l.of) l.names
