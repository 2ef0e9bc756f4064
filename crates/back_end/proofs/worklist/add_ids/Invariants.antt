use Rattle.std.proofs.Common.{◌≡◌, drop}
use Rattle.back_end.specs.Worklist.{with_ids}
use Rattle.back_end.proofs.worklist.add_ids.Given as goal

abbrev pub invariant-loop-function : goal.invariant-loop-function
invariant-loop-function l = with_ids l.list.keys (drop l.function-index l.functions) ≡ with_ids l.fn.list.keys l.functions
