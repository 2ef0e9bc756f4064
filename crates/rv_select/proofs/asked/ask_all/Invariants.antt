use Rattle.std.proofs.Common.{◌≡◌, ◌++◌, None, drop}
use Rattle.rv_select.specs.Asked.{all_ask, held_behind}
use Rattle.rv_select.proofs.asked.ask_all.Given as goal

-- with the instructions to come, all is asked for, and T0 holds what it does behind all
abbrev pub invariant-loop-instruction : goal.invariant-loop-instruction
invariant-loop-instruction l =
    (l.asked.items ++ all_ask l.held (drop l.instruction-index l.instructions) ≡ l.fn.asked.items ++ all_ask None l.instructions)
    × (held_behind l.held (drop l.instruction-index l.instructions) ≡ held_behind None l.instructions)
