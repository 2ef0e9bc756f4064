use Rattle.std.proofs.Common.{◌≡◌, ◌+◌, ◌*◌, suc, drop, length}
use Rattle.terra_meaning.specs.Meaning.{done_all, for_rounds, meant_all, rounds}
use Rattle.terra_eval.specs.Rounds.{counted_round, round_of}
use Rattle.terra_eval.specs.Trees.{block_before, list_before}
use Rattle.terra_eval.specs.Views.{call_of, want_of}
use Rattle.terra_eval.proofs.Loops.{with_front}
use Rattle.terra_eval.proofs.evaluator.+evaluate.Given as goal

-- The turns that are left fall from a call to what it calls, and within a call the number before which a node's parts stand falls
-- from a node to its parts. Each function has a place among those that call one another at the same number.

abbrev pub decreases-evaluate_operation : goal.decreases-evaluate_operation
decreases-evaluate_operation l = l.call.now.turns * (8 * length l.call.now.store.now.typed + 8) + 1

abbrev pub decreases-evaluate_expression : goal.decreases-evaluate_expression
decreases-evaluate_expression l = l.call.now.turns * (8 * length l.call.now.store.now.typed + 8) + (8 * l.below + 2)

abbrev pub decreases-do_statement : goal.decreases-do_statement
decreases-do_statement l = l.call.now.turns * (8 * length l.call.now.store.now.typed + 8) + (8 * l.below + 2)

abbrev pub decreases-evaluate_list : goal.decreases-evaluate_list
decreases-evaluate_list l = l.call.now.turns * (8 * length l.call.now.store.now.typed + 8) + (8 * l.below + 3)

abbrev pub decreases-do_block : goal.decreases-do_block
decreases-do_block l = l.call.now.turns * (8 * length l.call.now.store.now.typed + 8) + (8 * l.below + 3)

abbrev pub decreases-do_scope : goal.decreases-do_scope
decreases-do_scope l = l.call.now.turns * (8 * length l.call.now.store.now.typed + 8) + (8 * l.below + 4)

abbrev pub decreases-do_round : goal.decreases-do_round
decreases-do_round l = l.call.now.turns * (8 * length l.call.now.store.now.typed + 8) + (8 * l.below + 5)

abbrev pub decreases-do_rounds : goal.decreases-do_rounds
decreases-do_rounds l = l.call.now.turns * (8 * length l.call.now.store.now.typed + 8) + (8 * l.below + 6)

abbrev pub decreases-do_counting : goal.decreases-do_counting
decreases-do_counting l = l.call.now.turns * (8 * length l.call.now.store.now.typed + 8) + (8 * l.below + 6)

abbrev pub decreases-enter : goal.decreases-enter
decreases-enter l = l.caller.turns * (8 * length l.caller.store.now.typed + 8) + 8 * length l.caller.store.now.typed

-- what is left of a list, of a block and of a loop

abbrev pub invariant-evaluate_list-loop-node : goal.invariant-evaluate_list-loop-node
invariant-evaluate_list-loop-node l =
    meant_all (call_of l.call) (want_of l.want) (list_before l.call.store.now l.below l.nodes) l.from l.fn.state
    ≡ with_front l.values.items (meant_all (call_of l.call) (want_of l.want) (list_before l.call.store.now l.below (drop l.node-index l.nodes)) l.next l.state)

abbrev pub invariant-do_block-loop-node : goal.invariant-do_block-loop-node
invariant-do_block-loop-node l =
    done_all (call_of l.call) (block_before l.call.store.now l.below l.nodes) l.from l.fn.state
    ≡ done_all (call_of l.call) (block_before l.call.store.now l.below (drop l.node-index l.nodes)) l.next l.state

abbrev pub invariant-do_rounds-loop-state : goal.invariant-do_rounds-loop-state
invariant-do_rounds-loop-state l =
    rounds (suc l.call.turns) (round_of (call_of l.call) l.call.store.now l.below l.round l.from) l.fn.state
    ≡ rounds (suc l.turns) (round_of (call_of l.call) l.call.store.now l.below l.round l.from) l.state

abbrev pub decreases-do_rounds-loop-state : goal.decreases-do_rounds-loop-state
decreases-do_rounds-loop-state l = l.turns

abbrev pub invariant-do_counting-loop-counting : goal.invariant-do_counting-loop-counting
invariant-do_counting-loop-counting l =
    for_rounds (suc l.call.turns) l.counting.width l.counting.limit l.counting.step (counted_round (call_of l.call) l.call.store.now l.below l.counting l.from) l.counting.start l.fn.state
    ≡ for_rounds (suc l.turns) l.counting.width l.counting.limit l.counting.step (counted_round (call_of l.call) l.call.store.now l.below l.counting l.from) l.i l.state

abbrev pub decreases-do_counting-loop-counting : goal.decreases-do_counting-loop-counting
decreases-do_counting-loop-counting l = l.turns
