use Rattle.std.proofs.Common.{◌+◌, drop, get_or, arith}
use Rattle.tl_base.specs.declared.ids.TermId.{TermId}
use Rattle.terra_term.specs.Events.{block_events, doing_events, events_of, list_events}
use Rattle.terra_eval.specs.Trees.{block_before, expression_before, list_before, statement_before}
use Rattle.terra_eval.specs.Views.{events_in}
use Rattle.terra_eval.proofs.Putting.{block-end, block-turn, list-end, list-turn, part-end, part-turn}
use Rattle.terra_eval.proofs.events.+events.Goals as goal

pub list_events-loop-node-preserved : goal.list_events-loop-node-preserved
list_events-loop-node-preserved t c =
    let store = c.args.store.now in
    let below = c.args.below in
    let nodes = c.args.nodes.now in
    let i = c.loop-node.node-index in
    let none : TermId = record { 0 = 0 } in
    part-turn (list_events (list_before store below nodes)) (events_in c.args.events.now.items) (events_in c.loop-node.events.items) _
    (events_of (expression_before store below (get_or nodes i none)))
    (list_events (list_before store below (drop i nodes))) (list_events (list_before store below (drop (i + 1) nodes)))
    c.loop-node.invariant (list-turn store below nodes i none c.loop-node-test.true) c.in_ok-expression_events.ensures

pub list_events-returns : goal.list_events-returns
list_events-returns t c =
    let store = c.args.store.now in
    let below = c.args.below in
    let nodes = c.args.nodes.now in
    let i = c.loop-node.node-index in
    part-end (list_events (list_before store below nodes)) (events_in c.args.events.now.items) (events_in c.loop-node.events.items)
    (list_events (list_before store below (drop i nodes))) c.loop-node.invariant (list-end store below nodes i (omega arith))

pub block_events-loop-node-preserved : goal.block_events-loop-node-preserved
block_events-loop-node-preserved t c =
    let store = c.args.store.now in
    let below = c.args.below in
    let nodes = c.args.nodes.now in
    let i = c.loop-node.node-index in
    let none : TermId = record { 0 = 0 } in
    part-turn (block_events (block_before store below nodes)) (events_in c.args.events.now.items) (events_in c.loop-node.events.items) _
    (doing_events (statement_before store below (get_or nodes i none)))
    (block_events (block_before store below (drop i nodes))) (block_events (block_before store below (drop (i + 1) nodes)))
    c.loop-node.invariant (block-turn store below nodes i none c.loop-node-test.true) c.in_ok-statement_events.ensures

pub block_events-returns : goal.block_events-returns
block_events-returns t c =
    let store = c.args.store.now in
    let below = c.args.below in
    let nodes = c.args.nodes.now in
    let i = c.loop-node.node-index in
    part-end (block_events (block_before store below nodes)) (events_in c.args.events.now.items) (events_in c.loop-node.events.items)
    (block_events (block_before store below (drop i nodes))) c.loop-node.invariant (block-end store below nodes i (omega arith))
