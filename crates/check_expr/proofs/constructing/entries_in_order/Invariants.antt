use Rattle.std.proofs.Common.{◌≡◌, ◌++◌, drop}
use Rattle.terra_types.specs.Layouts.{entries_of}
use Rattle.check_model.specs.Expressions as models
use Rattle.check_expr.proofs.constructing.entries_in_order.Given as goal

abbrev pub invariant-entries : goal.invariant-entries
invariant-entries l =
    l.entries ++ models.in_order (drop l.place (entries_of l.world.store.types l.of)) (drop l.place l.values)
    ≡ models.in_order (entries_of l.world.store.types l.of) l.values
