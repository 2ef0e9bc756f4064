use Rattle.std.proofs.Common.{◌≡◌, ◌*◌, ◌++◌, None, true, drop, length}
use Rattle.std.specs.Prelude.{map}
use Rattle.std.specs.List.{list_all}
use Rattle.rv_isa.specs.Table.{word_of}
use Rattle.rv_select.specs.Places.{with_counting}
use Rattle.rv_select.specs.Calls.{has_code, held_behind, instructions_calls, instructions_code}
use Rattle.rv_select.proofs.selection.push_all.Given as goal

-- with the instructions to come, all code and all calls are there, and T0 holds what it does behind all
abbrev pub invariant-loop-instruction : goal.invariant-loop-instruction
invariant-loop-instruction l =
    (l.code.items ++ map word_of (instructions_code (with_counting l.homes l.counts) l.sizes (λ f. 0) (4 * length l.code.items) l.held (drop l.instruction-index l.instructions))
    ≡ l.fn.code.items ++ map word_of (instructions_code (with_counting l.homes l.counts) l.sizes (λ f. 0) (4 * length l.fn.code.items) None l.instructions))
    × (l.calls.items ++ instructions_calls (with_counting l.homes l.counts) l.sizes (length l.code.items) l.held (drop l.instruction-index l.instructions)
    ≡ l.fn.calls.items ++ instructions_calls (with_counting l.homes l.counts) l.sizes (length l.fn.code.items) None l.instructions)
    × (held_behind l.held (drop l.instruction-index l.instructions) ≡ held_behind None l.instructions)
    × (list_all has_code (drop l.instruction-index l.instructions) ≡ true)
