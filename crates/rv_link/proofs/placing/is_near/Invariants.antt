use Rattle.std.proofs.Common.{◌≡◌, ◌+◌, ◌*◌, ◌^◌, ◌≤◌, drop}
use Rattle.rv_link.specs.Filling.{words_in}
use Rattle.rv_link.proofs.placing.is_near.Given as goal

-- with the words to come, all are counted
abbrev pub invariant-loop-function : goal.invariant-loop-function
invariant-loop-function l =
    (l.at + 4 * words_in (drop l.function-index l.functions) ≡ 65536 + 4 * words_in l.functions) × (l.at + 256 ≤ 2 ^ 30)
