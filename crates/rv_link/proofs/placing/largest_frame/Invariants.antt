use Rattle.std.proofs.Common.{◌≡◌, drop}
use Rattle.rv_link.specs.Linked.{larger, most_frame}
use Rattle.rv_link.proofs.placing.largest_frame.Given as goal

-- with those to come it is the largest of all
abbrev pub invariant-loop-function : goal.invariant-loop-function
invariant-loop-function l = larger l.most (most_frame (drop l.function-index l.functions)) ≡ most_frame l.functions
