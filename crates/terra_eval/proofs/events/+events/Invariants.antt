use Rattle.std.proofs.Common.{◌≡◌, ◌++◌, ◌+◌, ◌*◌, drop}
use Rattle.terra_term.specs.Events.{block_events, list_events}
use Rattle.terra_eval.specs.Trees.{block_before, list_before}
use Rattle.terra_eval.specs.Views.{events_in}
use Rattle.terra_eval.proofs.events.+events.Given as goal

-- the number before which a node's parts stand falls from a node to its parts

abbrev pub decreases-expression_events : goal.decreases-expression_events
decreases-expression_events l = 4 * l.below

abbrev pub decreases-statement_events : goal.decreases-statement_events
decreases-statement_events l = 4 * l.below

abbrev pub decreases-list_events : goal.decreases-list_events
decreases-list_events l = 4 * l.below + 1

abbrev pub decreases-block_events : goal.decreases-block_events
decreases-block_events l = 4 * l.below + 1

abbrev pub decreases-scope_events : goal.decreases-scope_events
decreases-scope_events l = 4 * l.below + 2

abbrev pub decreases-form_events : goal.decreases-form_events
decreases-form_events l = 4 * l.below + 3

abbrev pub decreases-doing_events : goal.decreases-doing_events
decreases-doing_events l = 4 * l.below + 3

-- the events so far, and those of the nodes that are left

abbrev pub invariant-list_events-loop-node : goal.invariant-list_events-loop-node
invariant-list_events-loop-node l =
    events_in l.fn.events.items ++ list_events (list_before l.store l.below l.nodes)
    ≡ events_in l.events.items ++ list_events (list_before l.store l.below (drop l.node-index l.nodes))

abbrev pub invariant-block_events-loop-node : goal.invariant-block_events-loop-node
invariant-block_events-loop-node l =
    events_in l.fn.events.items ++ block_events (block_before l.store l.below l.nodes)
    ≡ events_in l.events.items ++ block_events (block_before l.store l.below (drop l.node-index l.nodes))
