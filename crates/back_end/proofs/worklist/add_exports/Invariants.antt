use Rattle.std.proofs.Common.{◌≡◌, drop}
use Rattle.back_end.specs.Worklist.{with_exports}
use Rattle.back_end.proofs.worklist.add_exports.Given as goal

abbrev pub invariant-loop-export : goal.invariant-loop-export
invariant-loop-export l = with_exports l.list.keys (drop l.export-index l.exports) ≡ with_exports l.fn.list.keys l.exports
