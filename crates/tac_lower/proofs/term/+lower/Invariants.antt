use Rattle.std.proofs.Common.{◌≡◌, ◌++◌, ◌+◌, ◌*◌, map, drop}
use Rattle.terra_meaning.specs.Meaning.{in_block, in_list}
use Rattle.terra_eval.specs.Trees.{block_before, list_before}
use Rattle.tac_lower.specs.Works.{past, scoped}
use Rattle.tac_lower.specs.Data.{result_of, target_of}
use Rattle.tac_lower.specs.Views.{all_of, pieces_of, targets_of}
use Rattle.tac_lower.proofs.term.+lower.Given as goal

-- the number before which a node's parts stand falls from a node to its parts

abbrev pub decreases-lower_expression : goal.decreases-lower_expression
decreases-lower_expression l = 8 * l.below + 1

abbrev pub decreases-lower_statement : goal.decreases-lower_statement
decreases-lower_statement l = 8 * l.below + 1

abbrev pub decreases-lower_list : goal.decreases-lower_list
decreases-lower_list l = 8 * l.below + 2

abbrev pub decreases-lower_target : goal.decreases-lower_target
decreases-lower_target l = 8 * l.below + 2

abbrev pub decreases-lower_targets : goal.decreases-lower_targets
decreases-lower_targets l = 8 * l.below + 3

abbrev pub decreases-lower_block : goal.decreases-lower_block
decreases-lower_block l = 8 * l.below + 2

abbrev pub decreases-lower_scope : goal.decreases-lower_scope
decreases-lower_scope l = 8 * l.below + 3

abbrev pub decreases-lower_both : goal.decreases-lower_both
decreases-lower_both l = 8 * l.below + 4

abbrev pub decreases-lower_either : goal.decreases-lower_either
decreases-lower_either l = 8 * l.below + 4

abbrev pub decreases-lower_if : goal.decreases-lower_if
decreases-lower_if l = 8 * l.below + 4

abbrev pub decreases-lower_choice : goal.decreases-lower_choice
decreases-lower_choice l = 8 * l.below + 4

abbrev pub decreases-lower_while : goal.decreases-lower_while
decreases-lower_while l = 8 * l.below + 4

abbrev pub decreases-lower_repeat : goal.decreases-lower_repeat
decreases-lower_repeat l = 8 * l.below + 4

abbrev pub decreases-lower_for : goal.decreases-lower_for
decreases-lower_for l = 8 * l.below + 4

-- the values so far and the code behind them, and what is left

abbrev pub invariant-lower_list-loop-node : goal.invariant-lower_list-loop-node
invariant-lower_list-loop-node l = record {
  result : (pieces_of l.around l.below l.nodes l.fn.work).result
      ≡ map result_of l.values.items ++ (pieces_of l.around l.below (drop l.node-index l.nodes) l.work).result;
  work : past l.fn.work (pieces_of l.around l.below l.nodes l.fn.work) (in_list (list_before l.around.store.now l.below l.nodes))
      ≡ past l.work (pieces_of l.around l.below (drop l.node-index l.nodes) l.work)
      (in_list (list_before l.around.store.now l.below (drop l.node-index l.nodes)));
}

abbrev pub invariant-lower_targets-loop-node : goal.invariant-lower_targets-loop-node
invariant-lower_targets-loop-node l = record {
  result : (targets_of l.around l.below l.nodes l.fn.work).result
      ≡ map target_of l.targets.items ++ (targets_of l.around l.below (drop l.node-index l.nodes) l.work).result;
  work : past l.fn.work (targets_of l.around l.below l.nodes l.fn.work) (in_list (list_before l.around.store.now l.below l.nodes))
      ≡ past l.work (targets_of l.around l.below (drop l.node-index l.nodes) l.work)
      (in_list (list_before l.around.store.now l.below (drop l.node-index l.nodes)));
}

abbrev pub invariant-lower_block-loop-node : goal.invariant-lower_block-loop-node
invariant-lower_block-loop-node l =
    scoped l.fn.work (all_of l.around l.below l.nodes l.fn.work) (in_block (block_before l.around.store.now l.below l.nodes))
    ≡ scoped l.work (all_of l.around l.below (drop l.node-index l.nodes) l.work)
    (in_block (block_before l.around.store.now l.below (drop l.node-index l.nodes)))
