use Rattle.std.proofs.Common.{◌≡◌, drop}
use Rattle.check_model.specs.Statements as models
use Rattle.check_expr.proofs.loops.meet_from.Given as goal

abbrev pub invariant-bounds : goal.invariant-bounds
invariant-bounds l = models.meet_from l.world l.of (drop l.bound-index l.others) ≡ models.meet_from l.world l.fn.first
    l.others
